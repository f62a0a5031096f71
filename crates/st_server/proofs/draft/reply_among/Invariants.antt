-- What was found is the first among the changes so far.
use Rattle.std.proofs.Common.{◌≡◌, take}
use Rattle.st_server.specs.Replying.{reply_leaf_in}
use Rattle.st_server.proofs.draft.reply_among.Given as goal

abbrev pub invariant-loop-change : goal.invariant-loop-change
invariant-loop-change l = l.leaf ≡ reply_leaf_in l.number.0 (take l.change-index l.changes)
