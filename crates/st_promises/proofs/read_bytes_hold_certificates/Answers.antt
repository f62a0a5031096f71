-- By the law of certificates.
use Rattle.st_promises.proofs.DeployedLaws.{bytes_certified}
use Rattle.st_promises.proofs.read_bytes_hold_certificates.Goals as goal

pub returns : goal.returns
returns c = λ d serve faulty bytes m small fits e. bytes_certified d serve faulty bytes m small fits e
