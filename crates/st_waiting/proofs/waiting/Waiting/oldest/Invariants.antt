-- No pair before the place waits.
use Rattle.std.proofs.Common.{◌≡◌}
use Rattle.st_waiting.specs.Places.{waiting_from}
use Rattle.st_waiting.proofs.waiting.Waiting.oldest.Given as goal

abbrev pub invariant-loop-place : goal.invariant-loop-place
invariant-loop-place l = waiting_from l.self.marks l.place l.self.slots ≡ waiting_from l.self.marks l.self.head l.self.slots
