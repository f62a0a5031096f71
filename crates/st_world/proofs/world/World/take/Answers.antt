-- By the destination.
use Rattle.st_world.proofs.DeliverLaws.{taken_at_server, taken_at_client}
use Rattle.st_world.proofs.world.World.take.Goals as goal

pub returns-in-Server : goal.returns-in-Server
returns-in-Server c =
    λ d m wire stands read.
    taken_at_server c.take_at_server.result c.take_at_server.new.self d m c.args.to c.in-Server.server wire c.args.read.now c.in-Server.is (λ as_read. c.take_at_server.ensures d m wire stands as_read) read

pub returns-in-Client : goal.returns-in-Client
returns-in-Client c =
    λ d m wire stands read.
    taken_at_client c.take_at_client.result c.take_at_client.new.self d m c.args.to c.in-Client.client wire c.args.read.now c.in-Client.is (λ as_read. c.take_at_client.ensures d m wire stands as_read) read
