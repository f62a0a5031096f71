-- What is read is certified.
use Rattle.st_certificate_laws.proofs.ReadLaws.{read_certified}
use Rattle.st_certificate_laws.proofs.read_certificates_are_certificates.Goals as goal

pub returns : goal.returns
returns g c = λ d wire m formats inside e. read_certified d formats wire m inside e
