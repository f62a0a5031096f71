-- By counting.
use Rattle.std.proofs.Common.{arith}
use Rattle.st_protocol.proofs.RuleLaws.{completed_many}
use Rattle.st_protocol.proofs.rules.quorums_and_majorities_are_enough.Goals as goal

pub returns-clause-quorum : goal.returns-clause-quorum
returns-clause-quorum c = λ here shares s signed e. completed_many here shares s signed e

pub returns-clause-majority : goal.returns-clause-majority
returns-clause-majority c = λ here. omega arith
