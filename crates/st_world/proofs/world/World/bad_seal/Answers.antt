-- The place is the deployment's.
use Rattle.st_world.proofs.CustomerLaws.{bad_seal_is}
use Rattle.st_world.proofs.world.World.bad_seal.Goals as goal

pub returns-in-Ok-clause-place : goal.returns-in-Ok-clause-place
returns-in-Ok-clause-place c = λ d set. bad_seal_is c.args.self.now d c.args.message.now c.in-Ok.place set c.in-Ok.ensures.place
