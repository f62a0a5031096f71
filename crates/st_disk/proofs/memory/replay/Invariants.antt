use Rattle.std.proofs.Common.{◌≡◌, ◌≤◌, [], take, reverse}
use Rattle.std.specs.Prelude.{vec_capacity}
use Rattle.st_disk.specs.Calls.{content}
use Rattle.st_disk.proofs.memory.replay.Given as goal

abbrev pub invariant-loop-call : goal.invariant-loop-call
invariant-loop-call l = (l.bytes.items ≡ content [] (reverse (take l.call-index l.call-items))) × (vec_capacity l.fn.bytes ≤ vec_capacity l.bytes)
