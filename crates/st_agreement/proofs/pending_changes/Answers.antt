-- What stands behind a change stays there.
use Rattle.st_agreement.proofs.PendingLaws.{pending-kept, pending-run}
use Rattle.st_agreement.proofs.WorldLaws.{step-extends}
use Rattle.st_agreement.proofs.pending_changes.Goals as goal

pub returns-clause-kept : goal.returns-clause-kept
returns-clause-kept c = λ d old new s rs cs sites exists step may. pending-kept d old new s rs cs sites exists (step-extends d old new step) may

pub returns-clause-recorded : goal.returns-clause-recorded
returns-clause-recorded c = pending-run
