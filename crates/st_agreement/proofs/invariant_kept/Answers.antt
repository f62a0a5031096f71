-- By the mini-steps of a run.
use Rattle.st_agreement.proofs.KeptLaws.{step-invariant}
use Rattle.st_agreement.proofs.RunLaws.{first-invariant, reached-invariant}
use Rattle.st_agreement.proofs.invariant_kept.Goals as goal

pub returns-clause-start : goal.returns-clause-start
returns-clause-start c = first-invariant

pub returns-clause-step : goal.returns-clause-step
returns-clause-step c = step-invariant

pub returns-clause-reached : goal.returns-clause-reached
returns-clause-reached c = reached-invariant
