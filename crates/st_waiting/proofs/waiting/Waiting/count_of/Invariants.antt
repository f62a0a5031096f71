-- The pairs counted so far, and those from the place on, are all.
use Rattle.std.proofs.Common.{◌≡◌, ◌+◌, ◌≤◌}
use Rattle.st_protocol.specs.Schedule.{is_pair}
use Rattle.st_waiting.specs.Passing.{passing}
use Rattle.st_waiting.specs.Places.{waiting_from}
use Rattle.st_waiting.proofs.waiting.Waiting.count_of.Given as goal

abbrev pub invariant-loop-place : goal.invariant-loop-place
invariant-loop-place l =
    (l.count + passing (is_pair l.message l.to) (waiting_from l.self.marks l.place l.self.slots) ≡ passing (is_pair l.message l.to) (waiting_from l.self.marks l.self.head l.self.slots))
    × (l.count ≤ l.place)
