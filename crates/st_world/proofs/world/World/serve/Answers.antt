-- The plan is handed out.
use Rattle.std.proofs.Common.{subst, refl, Ok}
use Rattle.st_schedule.specs.declared.done.Done.TheVariants as dones
use Rattle.st_protocol.specs.Words.{Bytes}
use Rattle.st_protocol.specs.World.{Stepped}
use Rattle.st_world.specs.Standing.{CameTo, EndsBy}
use Rattle.st_world.specs.Serving.{after_plan}
use Rattle.st_world.proofs.ServeLaws.{serves_is}
use Rattle.st_world.proofs.world.World.serve.Goals as goal

pub hand_out-requires-clause-stands : goal.hand_out-requires-clause-stands
hand_out-requires-clause-stands c =
    let so = c.requires.stands in
    record { deployment = so.deployment; model = after_plan so.deployment so.model c.in_ok-plan.plan; stands = c.in_ok-plan.ensures.settled so.deployment so.model so.stands }

pub hand_out-requires-clause-inside : goal.hand_out-requires-clause-inside
hand_out-requires-clause-inside c = c.in_ok-plan.ensures.range

pub returns-in-Ok : goal.returns-in-Ok
returns-in-Ok c =
    λ d m wire stands read.
    let plan = c.in_ok-plan.plan in
    subst (CameTo (Ok (dones.Outcome plan.outcome)) c.hand_out.new.self d) (serves_is c.args.self.now d m wire c.args.message.now plan stands read (c.in_ok-plan.ensures.plan d m stands))
    (c.in-Ok.ensures d (after_plan d m plan) (c.in_ok-plan.ensures.settled d m stands), refl)

pub returns : goal.returns
returns c =
    λ d m wire stands read.
    let plan = c.in_ok-plan.plan in
    subst (λ (st : Stepped Bytes). EndsBy c.in-Err.error st.world.ended) (serves_is c.args.self.now d m wire c.args.message.now plan stands read (c.in_ok-plan.ensures.plan d m stands))
    (c.in-Err.ensures d (after_plan d m plan) (c.in_ok-plan.ensures.settled d m stands))
