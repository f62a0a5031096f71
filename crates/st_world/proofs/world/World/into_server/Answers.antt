-- The one that there is.
use Rattle.st_world.proofs.AnswerLaws.{server_is_here}
use Rattle.st_world.proofs.world.World.into_server.Goals as goal

pub returns : goal.returns
returns c = λ d m stands. server_is_here c.args.self d m stands
