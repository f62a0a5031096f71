use Rattle.std.proofs.Common.{length}
use Rattle.st_journal.proofs.BlockLaws.{IsReadTo}
use Rattle.st_journal.proofs.blocks.read_blocks.Given as goal

abbrev pub invariant-loop-bodies : goal.invariant-loop-bodies
invariant-loop-bodies l = IsReadTo l.bodies l.file l.rest

abbrev pub decreases-loop-bodies : goal.decreases-loop-bodies
decreases-loop-bodies l = length l.rest
