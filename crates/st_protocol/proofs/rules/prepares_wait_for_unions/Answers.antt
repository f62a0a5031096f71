-- By the reasons.
use Rattle.st_protocol.proofs.RuleLaws.{assign_waits, fill_waits}
use Rattle.st_protocol.proofs.rules.prepares_wait_for_unions.Goals as goal

pub returns-clause-assigned : goal.returns-clause-assigned
returns-clause-assigned c = λ here slots forced view local n value client_seal signed step e free. assign_waits here slots forced view local n value client_seal signed step e free

pub returns-clause-filled : goal.returns-clause-filled
returns-clause-filled c = λ here slots pending forced e. fill_waits here slots pending forced e
