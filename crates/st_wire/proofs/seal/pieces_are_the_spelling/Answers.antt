-- By cases on kinds.
use Rattle.st_wire.proofs.Standing.{spelled-message}
use Rattle.st_wire.proofs.seal.pieces_are_the_spelling.Goals as goal

pub returns : goal.returns
returns c = λ id sites m keeps. spelled-message id sites m keeps
