-- By the laws of counting.
use Rattle.st_agreement.proofs.CertificateLaws.{quorum-stand, quorum-maker, ordered-chosen}
use Rattle.st_agreement.proofs.certificates.Goals as goal

pub returns-clause-stand : goal.returns-clause-stand
returns-clause-stand c = quorum-stand

pub returns-clause-maker : goal.returns-clause-maker
returns-clause-maker c = quorum-maker

pub returns-clause-chosen : goal.returns-clause-chosen
returns-clause-chosen c = ordered-chosen
