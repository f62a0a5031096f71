-- The server's plan is settled.
use Rattle.std.proofs.Common.{[], ◌∷◌, ◌++◌}
use Rattle.st_protocol.specs.World.{seat_of}
use Rattle.st_deployment.specs.Deployed.{world_deployment}
use Rattle.st_world.proofs.ServeLaws.{capacity_is, planned, plan_in_range, outputs_in_range, settles}
use Rattle.st_world.proofs.world.World.act.Goals as goal

pub plan-requires-clause-capacity : goal.plan-requires-clause-capacity
plan-requires-clause-capacity c = capacity_is c.args.self.now c.requires.stands.deployment c.requires.stands.stands.set

pub returns-clause-plan : goal.returns-clause-plan
returns-clause-plan c = λ d m stands. planned c.args.self.now d m c.args.message.now _ stands c.in_ok-plan.ensures.plan

pub returns-clause-settled : goal.returns-clause-settled
returns-clause-settled c =
    λ d m stands.
    let node = m.nodes 0 0 in
    let plan = c.in_ok-plan.field-0.plan in
    let leads = c.in_ok-plan.ensures.next node.bodies node.heard stands.server in
    settles c.args.self.now c.settle.new.self c.plan.new.sealer d m plan stands c.in_ok-plan.ensures.pen (c.in_ok-settle.ensures.seat (node.bodies ++ plan.changes ∷ []) (node.heard ++ plan.heard) leads)
    (c.in_ok-settle.ensures.stands node.bodies node.heard plan.heard stands.server leads)
    (plan_in_range d node.bodies node.heard c.args.message.now plan stands.set.taken c.requires.inside stands.kept (planned c.args.self.now d m c.args.message.now plan stands c.in_ok-plan.ensures.plan))

pub returns-clause-range : goal.returns-clause-range
returns-clause-range c =
    let so = c.requires.stands in
    let node = so.model.nodes 0 0 in
    let plan = c.in_ok-plan.field-0.plan in
    outputs_in_range (seat_of (world_deployment so.deployment) 0 0) node.bodies node.heard plan
    (plan_in_range so.deployment node.bodies node.heard c.args.message.now plan so.stands.set.taken c.requires.inside so.stands.kept (planned c.args.self.now so.deployment so.model c.args.message.now plan so.stands c.in_ok-plan.ensures.plan))
