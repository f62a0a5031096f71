-- What servers record is certified.
use Rattle.st_certificate_laws.proofs.CertificateWorlds.{records_certified, apart_certified}
use Rattle.st_certificate_laws.proofs.recorded_certificates_are_certificates.Goals as goal

pub returns-clause-recorded : goal.returns-clause-recorded
returns-clause-recorded g c = λ d all s i h formats l. records_certified d h formats all l s i

pub returns-clause-pending : goal.returns-clause-pending
returns-clause-pending g c = λ d all s i h formats l. apart_certified d h formats all l s i
