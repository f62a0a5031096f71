-- What was sent is certified.
use Rattle.st_certificate_laws.proofs.CertificateWorlds.{sent_certified}
use Rattle.st_certificate_laws.proofs.sent_certificates_are_certificates.Goals as goal

pub returns : goal.returns
returns g c = λ d all n wire m h formats l e is. sent_certified d h formats all l n wire m e is
