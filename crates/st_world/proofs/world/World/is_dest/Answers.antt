-- By the kind of destination.
use Rattle.std.proofs.Common.{◌∙◌, ap, sym}
use Rattle.st_protocol.specs.Schedule.{is_dest}
use Rattle.st_deployment.specs.Deployed.{world_deployment}
use Rattle.st_world.proofs.StepLaws.{dest_server, dest_client}
use Rattle.st_world.proofs.world.World.is_dest.Goals as goal

pub returns-in-Server : goal.returns-in-Server
returns-in-Server c = λ d set. c.has_server.ensures ∙ (dest_server c.args.self.now d c.in-Server.server set.deployment ∙ ap (is_dest (world_deployment d)) (sym c.in-Server.is))

pub returns-in-Client : goal.returns-in-Client
returns-in-Client c = λ d set. c.has_client.ensures ∙ (dest_client c.args.self.now d c.in-Client.client set.deployment ∙ ap (is_dest (world_deployment d)) (sym c.in-Client.is))
