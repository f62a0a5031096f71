-- What stands in a server's place: a disk in memory, or none.
use Rattle.std.specs.Prelude.{◌≡◌, ℕ, List, [], Option, Some, None}
use Rattle.std.specs.Option.{ForSome}
use Rattle.st_disk.specs.declared.memory.MemoryDisk.{MemoryDisk}
use Rattle.st_disk.specs.Memory.{start_of, calls_of, seen_of, countdown_of, faults_of}

-- what the disk there holds
abbrev pub file_of : Option MemoryDisk → List ℕ
file_of (Some d) = seen_of d
file_of None = []

-- no fault of the disk there is still to be told
abbrev pub IsTold : Option MemoryDisk → Type 0
IsTold place = ForSome place (λ d. faults_of d ≡ 0)

-- an empty disk, of which no call was made and none is set to fail
abbrev pub IsEmpty : Option MemoryDisk → Type 0
IsEmpty (Some d) = (start_of d ≡ []) × (calls_of d ≡ []) × (countdown_of d ≡ None) × (faults_of d ≡ 0)
IsEmpty None = ⊥
