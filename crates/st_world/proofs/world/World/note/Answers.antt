-- The server's seal is noted.
use Rattle.st_protocol.specs.Words.{server_at}
use Rattle.st_world.proofs.NoteLaws.{noted}
use Rattle.st_world.proofs.world.World.note.Goals as goal

pub returns-clause-noted : goal.returns-clause-noted
returns-clause-noted c = λ d m stands. noted c.args.self.now _ d m (server_at 0 0) c.args.leaf c.args.statement.now stands c.in_ok-hand.ensures.made
