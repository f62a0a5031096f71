-- Disks in memory as those of servers.
use Rattle.std.specs.Prelude.{◌≡◌, ◌≢◌, ℕ, ◌==◌, Bool, nat_lt, ◌&&◌, ◌||◌, List, length, slice_index_or, if◌then◌else◌, Option, None, Result, Ok, Err}
use Rattle.std.specs.Option.{is_none}
use Rattle.std.specs.List.{list_any}
use Rattle.st_words.specs.declared.ids.ServerId.{ServerId}
use Rattle.st_disk.specs.declared.error.DiskError.{DiskError}
use Rattle.st_disk.specs.declared.memory.MemoryDisk.{MemoryDisk}
use Rattle.st_disk.specs.declared.memory_disks.MemoryDisks.{MemoryDisks}
use Rattle.st_disk.specs.Racks.{place_of, count_of}
use Rattle.st_disk.specs.MemoryPlaces.{file_of}

-- whether a server is one of these
abbrev pub has_server : MemoryDisks → ServerId → Bool
has_server rack who = nat_lt who.site rack.sites && nat_lt who.index rack.servers

-- the disk in a server's place, if one is there
abbrev pub disk_in : MemoryDisks → ServerId → Option MemoryDisk
disk_in rack who = if has_server rack who then slice_index_or rack.disks.items (place_of who) None else None

-- what it holds
abbrev pub file_in : MemoryDisks → ServerId → List ℕ
file_in rack who = file_of (disk_in rack who)

-- whether a server's disk is out
abbrev pub out_of : MemoryDisks → ServerId → Bool
out_of rack who = has_server rack who && is_none (disk_in rack who)

-- a server's count of faults
abbrev pub faults_in : MemoryDisks → ServerId → ℕ
faults_in rack who = count_of rack.counts who

-- the servers of the takes so far that answered Ok or Failed
abbrev pub takes_in : MemoryDisks → List ServerId
takes_in rack = rack.takes.items

-- the takes that are to fail, counted from 0
abbrev pub fails_in : MemoryDisks → List ℕ
fails_in rack = rack.fails.items

-- whether the next take is to fail
abbrev pub fails_next : MemoryDisks → Bool
fails_next rack = list_any (λ place. place == length (takes_in rack)) (fails_in rack)

-- whether a take of this server's disk would fail: it is to, or no disk is in its place
abbrev pub is_refused : MemoryDisks → ServerId → Bool
is_refused rack who = fails_next rack || is_none (disk_in rack who)

-- A server's place now has this disk, or none, and every other place is as it was.
pub record Places (old new : MemoryDisks) (who : ServerId) (disk : Option MemoryDisk) : Type 0 where
  pub servers : (other : ServerId) → has_server new other ≡ has_server old other
  pub here : disk_in new who ≡ disk
  pub others : (other : ServerId) → other ≢ who → disk_in new other ≡ disk_in old other

-- what a take leaves in a place: nothing after Ok, else what was there
abbrev pub left_by : Result MemoryDisk DiskError → Option MemoryDisk → Option MemoryDisk
left_by (Ok d) place = None
left_by (Err e) place = place

-- the takes so far and those to fail are as they were
pub record SameCalls (old new : MemoryDisks) : Type 0 where
  pub takes : takes_in new ≡ takes_in old
  pub fails : fails_in new ≡ fails_in old
