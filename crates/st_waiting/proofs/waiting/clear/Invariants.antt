-- The places before this one are cleared.
use Rattle.std.proofs.Common.{◌≡◌}
use Rattle.st_waiting.proofs.RowLaws.{so_far}
use Rattle.st_waiting.proofs.waiting.clear.Given as goal

abbrev pub invariant-loop-place : goal.invariant-loop-place
invariant-loop-place l = l.slots ≡ so_far l.message l.to l.place l.fn.slots
