-- Piece by piece.
use Rattle.st_wire.proofs.Standing.{stands-message}
use Rattle.st_wire.proofs.seal.seals_stand.Goals as goal

pub returns : goal.returns
returns c = λ id sites m keeps. stands-message id sites m keeps
