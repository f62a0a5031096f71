-- Turn by turn.
use Rattle.std.proofs.Common.{◌≡◌, subst, refl, ℕ, Ok, arith}
use Rattle.st_schedule.specs.declared.done.Done.TheVariants as dones
use Rattle.st_protocol.specs.Schedule.{flows, flowed}
use Rattle.st_deployment.specs.Deployed.{world_deployment}
use Rattle.st_world.specs.Standing.{CameTo}
use Rattle.st_world.specs.Flows.{begun}
use Rattle.st_world.proofs.FlowLaws.{flowed_none, flowed_more, flowed_over, flowed_all}
use Rattle.st_world.proofs.world.World.flow.Goals as goal

pub loop-turn-init : goal.loop-turn-init
loop-turn-init c =
    let first = c.nothing_yet-flow in
    let none = first.ensures.pairs in
    (flowed_none c.args.self.now first.result first.ensures.pairs first.ensures.did first.ensures.ignored, c.requires.stands, omega (arith, none))

pub loop-turn-preserved : goal.loop-turn-preserved
loop-turn-preserved c =
    let few = c.in-Ok.ensures.few in
    let bound = c.loop-turn.invariant.2 in
    (flowed_more c.args.self.now c.loop-turn.self c.flow_one.new.self c.loop-turn.flow c.in-Ok.more c.loop-turn.turn c.loop-turn.invariant.0 c.in-Ok.ensures.flowed, c.in-Ok.ensures.stands, omega (arith, few, bound))

pub returns-in-Err : goal.returns-in-Err
returns-in-Err c =
    λ d m stands.
    flowed_over c.in-Err.error c.args.self.now c.loop-turn.self c.loop-turn.flow c.loop-turn.turn c.args.pairs c.loop-turn.invariant.0 c.loop-turn-test.true c.in-Err.ensures.flowed d m stands

pub returns : goal.returns
returns c =
    λ d m stands.
    let last : c.loop-turn.turn ≡ c.args.pairs = omega (arith, c.loop-turn-test.false, c.loop-turn.auto.turn-end) in
    subst (λ (n : ℕ). CameTo (Ok (dones.Flowed c.loop-turn.flow.pairs c.loop-turn.flow.did c.loop-turn.flow.ignored)) c.loop-turn.self d (flowed (world_deployment d) (flows (world_deployment d) n (begun m)))) last (flowed_all c.args.self.now c.loop-turn.self c.loop-turn.flow c.loop-turn.turn c.loop-turn.invariant.0 d m stands _ refl)
