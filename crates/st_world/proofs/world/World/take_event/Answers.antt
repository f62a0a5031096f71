-- Line by line.
use Rattle.std.proofs.Common.{sym, subst}
use Rattle.st_schedule.specs.declared.line.Line.{Line}
use Rattle.st_schedule.specs.Ranges.{KeepsLine}
use Rattle.st_protocol.specs.Schedule.{step}
use Rattle.st_deployment.specs.Deployed.{world_deployment}
use Rattle.st_world.specs.Standing.{CameTo}
use Rattle.st_world.proofs.EndLaws.{stands_still}
use Rattle.st_world.proofs.StepLaws.{flow_step}
use Rattle.st_world.proofs.world.World.take_event.Goals as goal

pub step_client-requires-clause-op : goal.step_client-requires-clause-op
step_client-requires-clause-op c = subst KeepsLine c.in-Client.is c.requires.built.keeps

pub flow-requires-clause-few : goal.flow-requires-clause-few
flow-requires-clause-few c = (subst KeepsLine c.in-Flow.is c.requires.built.keeps).1

pub returns-in-Client-clause-stepped : goal.returns-in-Client-clause-stepped
returns-in-Client-clause-stepped c =
    λ d m stands. subst (λ (x : Line). CameTo c.step_client.result c.step_client.new.self d (step (world_deployment d) m x)) (sym c.in-Client.is) (c.step_client.ensures d m stands)

pub returns-in-Client-clause-stands : goal.returns-in-Client-clause-stands
returns-in-Client-clause-stands c =
    stands_still c.step_client.result c.args.self.now c.step_client.new.self (λ d m. step (world_deployment d) m c.args.event.now) c.requires.stands
    (λ d m stands. subst (λ (x : Line). CameTo c.step_client.result c.step_client.new.self d (step (world_deployment d) m x)) (sym c.in-Client.is) (c.step_client.ensures d m stands))

pub returns-in-Deliver-clause-stepped : goal.returns-in-Deliver-clause-stepped
returns-in-Deliver-clause-stepped c =
    λ d m stands. subst (λ (x : Line). CameTo c.step_deliver.result c.step_deliver.new.self d (step (world_deployment d) m x)) (sym c.in-Deliver.is) (c.step_deliver.ensures d m stands)

pub returns-in-Deliver-clause-stands : goal.returns-in-Deliver-clause-stands
returns-in-Deliver-clause-stands c =
    stands_still c.step_deliver.result c.args.self.now c.step_deliver.new.self (λ d m. step (world_deployment d) m c.args.event.now) c.requires.stands
    (λ d m stands. subst (λ (x : Line). CameTo c.step_deliver.result c.step_deliver.new.self d (step (world_deployment d) m x)) (sym c.in-Deliver.is) (c.step_deliver.ensures d m stands))

pub returns-in-Drop-clause-stepped : goal.returns-in-Drop-clause-stepped
returns-in-Drop-clause-stepped c =
    λ d m stands. subst (λ (x : Line). CameTo c.step_drop.result c.step_drop.new.self d (step (world_deployment d) m x)) (sym c.in-Drop.is) (c.step_drop.ensures d m stands)

pub returns-in-Drop-clause-stands : goal.returns-in-Drop-clause-stands
returns-in-Drop-clause-stands c =
    stands_still c.step_drop.result c.args.self.now c.step_drop.new.self (λ d m. step (world_deployment d) m c.args.event.now) c.requires.stands
    (λ d m stands. subst (λ (x : Line). CameTo c.step_drop.result c.step_drop.new.self d (step (world_deployment d) m x)) (sym c.in-Drop.is) (c.step_drop.ensures d m stands))

pub returns-in-Lose-clause-stepped : goal.returns-in-Lose-clause-stepped
returns-in-Lose-clause-stepped c =
    λ d m stands. subst (λ (x : Line). CameTo c.step_lose.result c.step_lose.new.self d (step (world_deployment d) m x)) (sym c.in-Lose.is) (c.step_lose.ensures d m stands)

pub returns-in-Lose-clause-stands : goal.returns-in-Lose-clause-stands
returns-in-Lose-clause-stands c =
    stands_still c.step_lose.result c.args.self.now c.step_lose.new.self (λ d m. step (world_deployment d) m c.args.event.now) c.requires.stands
    (λ d m stands. subst (λ (x : Line). CameTo c.step_lose.result c.step_lose.new.self d (step (world_deployment d) m x)) (sym c.in-Lose.is) (c.step_lose.ensures d m stands))

pub returns-in-Raw-clause-stepped : goal.returns-in-Raw-clause-stepped
returns-in-Raw-clause-stepped c =
    λ d m stands. subst (λ (x : Line). CameTo c.step_raw.result c.step_raw.new.self d (step (world_deployment d) m x)) (sym c.in-Raw.is) (c.step_raw.ensures d m stands)

pub returns-in-Raw-clause-stands : goal.returns-in-Raw-clause-stands
returns-in-Raw-clause-stands c =
    stands_still c.step_raw.result c.args.self.now c.step_raw.new.self (λ d m. step (world_deployment d) m c.args.event.now) c.requires.stands
    (λ d m stands. subst (λ (x : Line). CameTo c.step_raw.result c.step_raw.new.self d (step (world_deployment d) m x)) (sym c.in-Raw.is) (c.step_raw.ensures d m stands))

pub returns-in-Show-clause-stepped : goal.returns-in-Show-clause-stepped
returns-in-Show-clause-stepped c =
    λ d m stands. subst (λ (x : Line). CameTo c.step_show.result c.args.self.now d (step (world_deployment d) m x)) (sym c.in-Show.is) (c.step_show.ensures d m stands)

pub returns-in-Show-clause-stands : goal.returns-in-Show-clause-stands
returns-in-Show-clause-stands c =
    stands_still c.step_show.result c.args.self.now c.args.self.now (λ d m. step (world_deployment d) m c.args.event.now) c.requires.stands
    (λ d m stands. subst (λ (x : Line). CameTo c.step_show.result c.args.self.now d (step (world_deployment d) m x)) (sym c.in-Show.is) (c.step_show.ensures d m stands))

pub returns-in-Flow-clause-stepped : goal.returns-in-Flow-clause-stepped
returns-in-Flow-clause-stepped c =
    λ d m stands.
    subst (λ (x : Line). CameTo c.flow.result c.flow.new.self d (step (world_deployment d) m x)) (sym c.in-Flow.is) (flow_step c.flow.result c.flow.new.self d m c.in-Flow.pairs (c.flow.ensures d m stands))

pub returns-in-Flow-clause-stands : goal.returns-in-Flow-clause-stands
returns-in-Flow-clause-stands c =
    stands_still c.flow.result c.args.self.now c.flow.new.self (λ d m. step (world_deployment d) m c.args.event.now) c.requires.stands
    (λ d m stands.
    subst (λ (x : Line). CameTo c.flow.result c.flow.new.self d (step (world_deployment d) m x)) (sym c.in-Flow.is) (flow_step c.flow.result c.flow.new.self d m c.in-Flow.pairs (c.flow.ensures d m stands)))
