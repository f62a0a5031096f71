-- What is spelled in another deployment is named as its own.
use Rattle.st_wire.proofs.WholeMessages.{reading-elsewhere}
use Rattle.st_wire.proofs.message.read_elsewhere.Goals as goal

pub returns : goal.returns
returns c = λ id other m lt differs keeps fits short. reading-elsewhere id other m lt differs keeps fits short
