-- The Replies of the changes so far.
use Rattle.std.proofs.Common.{◌≡◌, ℕ, take}
use Rattle.st_tables.specs.Entries.{entry}
use Rattle.st_protocol.specs.Keeping.{or_else, first_of}
use Rattle.st_protocol.specs.State.{at_reply}
use Rattle.st_protocol.specs.Questions.{sealing_in}
use Rattle.st_server.proofs.server.note_replies.Given as goal

abbrev pub invariant-loop-change : goal.invariant-loop-change
invariant-loop-change l = (n : ℕ) → entry l.replies n ≡ or_else (entry l.fn.replies n) (first_of (sealing_in (at_reply n)) (take l.change-index l.change-items))
