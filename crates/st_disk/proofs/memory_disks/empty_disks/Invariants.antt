use Rattle.std.proofs.Common.{◌≡◌, All, length}
use Rattle.st_disk.specs.MemoryPlaces.{IsEmpty}
use Rattle.st_disk.proofs.memory_disks.empty_disks.Given as goal

abbrev pub invariant-loop-place : goal.invariant-loop-place
invariant-loop-place l = (length l.disks.items ≡ l._place) × All IsEmpty l.disks.items
