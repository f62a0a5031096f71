-- A disk in memory whose failed writes are made.
use Rattle.std.specs.Prelude.{ℕ, List, Option}
use Rattle.st_disk.specs.declared.memory.MemoryDisk.{MemoryDisk}
use Rattle.st_disk.specs.declared.worn.WornDisk.{WornDisk}
use Rattle.st_disk.specs.Memory.{seen_of, synced_of, image_of, moment_of, image_since_of, countdown_of, faults_of, Stays}

-- what it holds, as a disk in memory
abbrev pub inner : WornDisk → MemoryDisk
inner d = d.disk

-- the bytes that reads give
abbrev pub worn_seen : WornDisk → List ℕ
worn_seen d = seen_of (inner d)

-- the bytes that the last sync left
abbrev pub worn_synced : WornDisk → List ℕ
worn_synced d = synced_of (inner d)

-- what a crash now may leave
abbrev pub worn_image : WornDisk → List ℕ → Type 0
worn_image d c = image_of (inner d) c

-- the moment, counted by the calls since the last crash
abbrev pub worn_moment : WornDisk → ℕ
worn_moment d = moment_of (inner d)

-- what a crash since a moment may have left
abbrev pub worn_image_since : WornDisk → ℕ → List ℕ → Type 0
worn_image_since d t c = image_since_of (inner d) t c

-- how many device calls from now the set call is
abbrev pub worn_countdown : WornDisk → Option ℕ
worn_countdown d = countdown_of (inner d)

-- how many calls failed
abbrev pub worn_faults : WornDisk → ℕ
worn_faults d = faults_of (inner d)

-- no call that changes a file was made
abbrev pub StaysWorn : WornDisk → WornDisk → Type 0
StaysWorn old new = Stays (inner old) (inner new)
