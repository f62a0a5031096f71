-- By what a failed event left.
use Rattle.st_protocol.proofs.RuleLaws.{restart_keeps}
use Rattle.st_protocol.proofs.rules.restarts_keep_records.Goals as goal

pub returns : goal.returns
returns g c = λ d node kept. restart_keeps d node kept
