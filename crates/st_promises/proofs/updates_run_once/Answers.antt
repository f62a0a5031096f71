use Rattle.st_promises.proofs.OnceLaws.{runs_once}
use Rattle.st_promises.proofs.updates_run_once.Goals as goal

pub returns : goal.returns
returns c = λ serve values client time. runs_once serve values client time
