-- What no reason is against is answered by its step, which the tables take.
use Rattle.std.proofs.Common.{◌≡◌, ◌<◌, [], subst, sym}
use Rattle.st_message.specs.declared.message.Message.TheVariants as messages
use Rattle.st_protocol.specs.Ordering.{accept_reasons, accept_step}
use Rattle.st_protocol.proofs.PartLaws.{refused_by, steps_by}
use Rattle.st_state.specs.HereView.{here_of}
use Rattle.st_state.specs.HandView.{hand_of}
use Rattle.st_state.specs.Placed.{Fits}
use Rattle.st_shares.specs.Known.{IsKnownMessage}
use Rattle.st_order.specs.Words.{bare}
use Rattle.st_order.proofs.AcceptLaws.{accept_near, accept_step_is, accept_fits}
use Rattle.st_order.proofs.accept.on_accept.Goals as goal

pub with_accept-requires : goal.with_accept-requires
with_accept-requires c =
    let h = bare c.args.here.now in
    accept_near h (hand_of h c.args.hand.now) c.in-Accept.site.0 c.in-Accept.view.0 c.in-Accept.number.0 (c.in_default-reason_of.ensures 0 (λ ran op. []))

pub returns-in-Some-clause-answers : goal.returns-in-Some-clause-answers
returns-in-Some-clause-answers c =
    λ clients serve.
    let h = here_of clients serve c.args.here.now in
    let hand = hand_of h c.args.hand.now in
    let a = c.in-Accept in
    rw a.is
    (refused_by (accept_reasons h hand a.site.0 a.view.0 a.number.0) (accept_step h hand a.site.0 a.view.0 a.number.0 a.value c.args.quorum.now) c.in-Some.reason
    (c.in-Some.ensures clients serve))

pub returns-clause-answers : goal.returns-clause-answers
returns-clause-answers c =
    λ clients serve.
    let h = here_of clients serve c.args.here.now in
    let hand = hand_of h c.args.hand.now in
    let a = c.in-Accept in
    let is : c.in_ok-step.step ≡ accept_step h hand a.site.0 a.view.0 a.number.0 a.value c.args.quorum.now =
    accept_step_is h hand (hand_of h c.in_ok-kept.kept) a.site.0 a.view.0 a.number.0 a.value c.args.quorum.now c.args.statement.now c.in_ok-changes.changes c.in_ok-step.step
    c.in_ok-step.ensures.equal (c.in_ok-changes.ensures.equal clients serve) (c.in_ok-kept.ensures.equal clients serve) a.is in
    rw a.is
    (steps_by (accept_reasons h hand a.site.0 a.view.0 a.number.0) (accept_step h hand a.site.0 a.view.0 a.number.0 a.value c.args.quorum.now) c.in_ok-step.step
    (c.in_default-reason_of.ensures clients serve) is)

pub returns-clause-fits : goal.returns-clause-fits
returns-clause-fits c =
    λ clients serve.
    let h = here_of clients serve c.args.here.now in
    let hand = hand_of h c.args.hand.now in
    let a = c.in-Accept in
    let is : c.in_ok-step.step ≡ accept_step h hand a.site.0 a.view.0 a.number.0 a.value c.args.quorum.now =
    accept_step_is h hand (hand_of h c.in_ok-kept.kept) a.site.0 a.view.0 a.number.0 a.value c.args.quorum.now c.args.statement.now c.in_ok-changes.changes c.in_ok-step.step
    c.in_ok-step.ensures.equal (c.in_ok-changes.ensures.equal clients serve) (c.in_ok-kept.ensures.equal clients serve) a.is in
    let known : a.site.0 < c.args.here.now.sites = subst (λ s. IsKnownMessage c.args.here.now (messages.Certificate s c.args.quorum.now)) a.is c.requires.sender in
    subst (Fits h) (sym is)
    (accept_fits h hand a.site.0 a.view.0 a.number.0 a.value c.args.quorum.now (sym (c.in_default-reason_of.ensures clients serve)) known)
