-- By the history of the server's records.
use Rattle.st_union_laws.proofs.RecordedLaws.{accepts_covered, proposals_covered, pending_accepts_covered, pending_proposals_covered}
use Rattle.st_union_laws.proofs.items_cover_what_was_made.Goals as goal

pub returns-clause-accepts : goal.returns-clause-accepts
returns-clause-accepts g c = λ d all s i site view n v few h formats l runs made. accepts_covered d few h formats all l s i site view n v runs made

pub returns-clause-proposals : goal.returns-clause-proposals
returns-clause-proposals g c = λ d all s i site view local n v few h formats l runs made. proposals_covered d few h formats all l s i site view local n v runs made

pub returns-clause-pending_accepts : goal.returns-clause-pending_accepts
returns-clause-pending_accepts g c = λ d all s i site view n v pending few h formats l runs e made. pending_accepts_covered d few h formats all l s i site view n v pending runs e made

pub returns-clause-pending_proposals : goal.returns-clause-pending_proposals
returns-clause-pending_proposals g c = λ d all s i site view local n v pending few h formats l runs e made. pending_proposals_covered d few h formats all l s i site view local n v pending runs e made
