-- A disk in memory, by its record of calls.
use Rattle.std.specs.Prelude.{◌≡◌, ℕ, List, ◌∷◌, length, Option}
use Rattle.st_disk.specs.declared.call.Call.{Call}
use Rattle.st_disk.specs.declared.memory.MemoryDisk.{MemoryDisk}
use Rattle.st_disk.specs.Calls.{content, durable, IsImage, IsImageSince, calls_from, content_at}

-- the file as the last crash left it; empty where there was none
abbrev pub start_of : MemoryDisk → List ℕ
start_of d = content_at d.settled d.calls

-- the calls since then, the newest first
abbrev pub calls_of : MemoryDisk → List Call
calls_of d = calls_from d.settled d.calls

-- the bytes that reads give
abbrev pub seen_of : MemoryDisk → List ℕ
seen_of d = content (start_of d) (calls_of d)

-- the bytes that the last sync left
abbrev pub synced_of : MemoryDisk → List ℕ
synced_of d = durable (start_of d) (calls_of d)

-- what a crash now may leave
abbrev pub image_of : MemoryDisk → List ℕ → Type 0
image_of d c = IsImage (start_of d) (calls_of d) c

-- the moments since the last crash are counted by the calls
abbrev pub moment_of : MemoryDisk → ℕ
moment_of d = length (calls_of d)

-- what a crash since a moment may have left
abbrev pub image_since_of : MemoryDisk → ℕ → List ℕ → Type 0
image_since_of d t c = IsImageSince (start_of d) t (calls_of d) c

-- how many device calls from now the set call is
abbrev pub countdown_of : MemoryDisk → Option ℕ
countdown_of d = d.countdown.left

-- how many calls failed
abbrev pub faults_of : MemoryDisk → ℕ
faults_of d = d.countdown.faults

-- the disk with its faults told: its count is 0
abbrev pub cleared : MemoryDisk → MemoryDisk
cleared d = record d { countdown = record d.countdown { faults = 0 } }

-- one more call was made
pub record Makes (call : Call) (old new : MemoryDisk) : Type 0 where
  pub start : start_of new ≡ start_of old
  pub calls : calls_of new ≡ call ∷ calls_of old

-- no call that changes a file was made
pub record Stays (old new : MemoryDisk) : Type 0 where
  pub start : start_of new ≡ start_of old
  pub calls : calls_of new ≡ calls_of old
