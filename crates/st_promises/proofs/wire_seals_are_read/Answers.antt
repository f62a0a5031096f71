-- Field by field.
use Rattle.st_promises.proofs.DeployedLaws.{seals_are_read}
use Rattle.st_promises.proofs.wire_seals_are_read.Goals as goal

pub returns : goal.returns
returns c = λ d serve faulty seal small. seals_are_read d serve faulty seal small
