-- What is spelled so is read, where it isn't too long.
use Rattle.st_wire.proofs.WholeMessages.{reading-again}
use Rattle.st_wire.proofs.message.read_back.Goals as goal

pub returns : goal.returns
returns c = λ id m lt keeps fits short. reading-again id m lt keeps fits short
