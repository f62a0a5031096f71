-- The one server takes it, and any other doesn't.
use Rattle.std.proofs.Common.{◌∙◌, sym, Err, Ok}
use Rattle.st_protocol.specs.World.{reads}
use Rattle.st_deployment.specs.Deployed.{world_deployment}
use Rattle.st_world.proofs.DeliverLaws.{served, served_refused, served_nowhere, found_in, read_in, range_of}
use Rattle.st_world.proofs.world.World.take_at_server.Goals as goal

pub returns-then-not-is_served : goal.returns-then-not-is_served
returns-then-not-is_served c = λ d m wire stands read. served_nowhere c.args.self.now d m c.args.server wire stands (sym c.is_served.ensures ∙ c.if-not-is_served.true)

pub serve-requires-clause-inside : goal.serve-requires-clause-inside
serve-requires-clause-inside c =
    range_of c.args.self.now.deployment.id c.in-Ok.message (found_in c.args.read.now c.args.self.now.deployment.id c.in-Ok.message c.in-Ok.is c.requires.found)

pub returns-in-Ok : goal.returns-in-Ok
returns-in-Ok c =
    λ d m wire stands read.
    served c.serve.result c.serve.new.self d m c.args.server wire (sym c.is_served.ensures ∙ c.if-not-is_served.false)
    (c.serve.ensures d m wire stands (read_in c.args.read.now (Ok c.in-Ok.message) (reads (world_deployment d) wire) c.in-Ok.is read))

pub returns-in-Err : goal.returns-in-Err
returns-in-Err c =
    λ d m wire stands read.
    served_refused c.args.self.now d m c.args.server wire c.in-Err.refused c.refusal.result c.refusal.ensures stands (sym c.is_served.ensures ∙ c.if-not-is_served.false)
    (read_in c.args.read.now (Err c.in-Err.refused) (reads (world_deployment d) wire) c.in-Err.is read)
