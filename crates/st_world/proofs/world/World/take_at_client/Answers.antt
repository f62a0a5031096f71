-- The client takes it.
use Rattle.std.proofs.Common.{Err, Ok}
use Rattle.st_protocol.specs.World.{read_known}
use Rattle.st_deployment.specs.Deployed.{world_deployment}
use Rattle.st_world.proofs.DeliverLaws.{client_reads, client_refuses, found_in, read_in}
use Rattle.st_world.proofs.world.World.take_at_client.Goals as goal

pub answer-requires-clause-found : goal.answer-requires-clause-found
answer-requires-clause-found c = found_in c.args.read.now c.args.self.now.deployment.id c.in-Ok.message c.in-Ok.is c.requires.found

pub returns-in-Ok : goal.returns-in-Ok
returns-in-Ok c =
    λ d m wire stands read.
    client_reads c.answer.result c.answer.new.self d m c.args.client wire c.in-Ok.message (read_in c.args.read.now (Ok c.in-Ok.message) (read_known (world_deployment d) wire) c.in-Ok.is read) (c.answer.ensures d m stands)

pub returns-in-Err : goal.returns-in-Err
returns-in-Err c =
    λ d m wire stands read.
    client_refuses c.args.self.now d m c.args.client wire c.in-Err.refused c.refusal.result c.refusal.ensures stands (read_in c.args.read.now (Err c.in-Err.refused) (read_known (world_deployment d) wire) c.in-Err.is read)
