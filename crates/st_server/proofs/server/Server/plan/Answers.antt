-- The plan is the part's answer, carried out.
use Rattle.std.proofs.Common.{◌∙◌, sym, subst, Err}
use Rattle.st_message.specs.declared.step.Refused as refusals
use Rattle.st_protocol.specs.Part as part
use Rattle.st_protocol.specs.Duty.{of_message}
use Rattle.st_protocol.specs.Step.{Refused, Steps}
use Rattle.st_sealing.specs.Sealing.{pen_by}
use Rattle.st_server.specs.Serving.{seat_by}
use Rattle.st_server.proofs.LowLaws.{low_answer}
use Rattle.st_server.proofs.ServeLaws.{unknown_plan, known_plan, ignored_leads}
use Rattle.st_server.proofs.server.Server.plan.Goals as goal

pub returns-then-not-knows_sender-clause-plan : goal.returns-then-not-knows_sender-clause-plan
returns-then-not-knows_sender-clause-plan g c =
    λ q stands.
    c.ignoring.ensures.plan
    ∙ unknown_plan (seat_by c.args.self.now) (pen_by (g.S.Sealer.pen c.args.sealer.now) c.args.id) q c.args.message.now (sym c.knows_sender.ensures ∙ c.if-not-knows_sender.true)

pub returns-then-not-knows_sender-clause-next : goal.returns-then-not-knows_sender-clause-next
returns-then-not-knows_sender-clause-next g c = λ records heard stands. ignored_leads c.args.self.now records heard _ _ _ c.ignoring.ensures.plan c.ignoring.ensures.next stands

pub carried_out-requires-clause-low : goal.carried_out-requires-clause-low
carried_out-requires-clause-low g c =
    let serving = c.requires.serving in
    low_answer serving.answers c.args.message.now c.in-Ok.step serving.stands.bound (c.in-Ok.ensures.answers serving.answers serving.stands.live serving.stands.replies)

pub returns-in_ok-planned-in-Ok-clause-plan : goal.returns-in_ok-planned-in-Ok-clause-plan
returns-in_ok-planned-in-Ok-clause-plan g c =
    λ q stands.
    c.in_ok-planned-in-Ok.ensures.plan q stands
    ∙ known_plan (seat_by c.args.self.now) (pen_by (g.S.Sealer.pen c.args.sealer.now) c.args.id) q c.args.message.now (Steps c.in-Ok.step)
    (sym c.knows_sender.ensures ∙ c.if-not-knows_sender.false) (c.in-Ok.ensures.answers q stands.live stands.replies)

pub returns-in-Err-Ignored-clause-plan : goal.returns-in-Err-Ignored-clause-plan
returns-in-Err-Ignored-clause-plan g c =
    λ q stands.
    c.ignoring-in-Err-Ignored.ensures.plan
    ∙ known_plan (seat_by c.args.self.now) (pen_by (g.S.Sealer.pen c.args.sealer.now) c.args.id) q c.args.message.now (Refused c.in-Err-Ignored.reason)
    (sym c.knows_sender.ensures ∙ c.if-not-knows_sender.false)
    (subst (λ (r : refusals.Refused). part.Answers (Err r) (of_message q c.args.message.now)) c.in-Err-Ignored.field-0-is (c.in-Err-Ignored.ensures.answers q stands.live stands.replies))

pub returns-in-Err-Ignored-clause-next : goal.returns-in-Err-Ignored-clause-next
returns-in-Err-Ignored-clause-next g c = λ records heard stands. ignored_leads c.args.self.now records heard _ _ _ c.ignoring-in-Err-Ignored.ensures.plan c.ignoring-in-Err-Ignored.ensures.next stands
