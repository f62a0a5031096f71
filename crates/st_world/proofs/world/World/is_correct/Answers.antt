-- By the kind of party.
use Rattle.std.proofs.Common.{◌∙◌, ap, sym}
use Rattle.st_protocol.specs.Schedule.{is_correct_who}
use Rattle.st_deployment.specs.Deployed.{world_deployment}
use Rattle.st_world.proofs.ForgedLaws.{party_server, party_client}
use Rattle.st_world.proofs.world.World.is_correct.Goals as goal

pub returns-in-Server : goal.returns-in-Server
returns-in-Server c = λ d set. c.has_server.ensures ∙ (party_server c.args.self.now d c.in-Server.server set ∙ ap (is_correct_who (world_deployment d)) (sym c.in-Server.is))

pub returns-in-Client : goal.returns-in-Client
returns-in-Client c = λ d set. c.has_client.ensures ∙ (party_client c.args.self.now d c.in-Client.client set ∙ ap (is_correct_who (world_deployment d)) (sym c.in-Client.is))
