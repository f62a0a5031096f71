-- The count so far.
use Rattle.std.proofs.Common.{◌≡◌, ◌≤◌}
use Rattle.st_protocol.specs.Step.{count_below}
use Rattle.st_client.specs.Rows.{says, answer_by}
use Rattle.st_client.proofs.replies.agreeing.Given as goal

abbrev pub invariant-loop-i : goal.invariant-loop-i
invariant-loop-i l = (l.count ≡ count_below (says (answer_by l.number l.replied) l.row) l.i) × (l.count ≤ l.i)
