-- Up to here no seal is that one.
use Rattle.std.proofs.Common.{◌≡◌, drop}
use Rattle.st_protocol.specs.World.{has_handed}
use Rattle.st_made.proofs.made.Made.is_handed.Given as goal

abbrev pub invariant-loop-seal : goal.invariant-loop-seal
invariant-loop-seal l = has_handed (drop l.seal-index l.seal-items) l.who l.leaf l.statement ≡ has_handed l.seal-items l.who l.leaf l.statement
