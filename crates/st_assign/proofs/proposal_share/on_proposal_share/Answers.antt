-- The first reason, or else the step, which is taken.
use Rattle.std.proofs.Common.{◌≡◌, ◌<◌, ◌+◌, ◌*◌, subst, sym}
use Rattle.st_protocol.specs.Assigning.{proposal_share_reasons, proposal_share_step}
use Rattle.st_protocol.proofs.PartLaws.{refused_by}
use Rattle.st_state.specs.HereView.{here_of}
use Rattle.st_state.specs.Placed.{Fits}
use Rattle.st_state.specs.SlotsView.{slots_of}
use Rattle.st_shares.specs.Known.{IsKnownMessage}
use Rattle.st_assign.proofs.FitLaws.{proposal_share_fits}
use Rattle.st_assign.proofs.proposal_share.on_proposal_share.Goals as goal

pub returns-in-Some-clause-answers : goal.returns-in-Some-clause-answers
returns-in-Some-clause-answers c =
    λ clients serve.
    let h = here_of clients serve c.args.here.now in
    let slots = slots_of h c.args.slots.now in
    let p = c.in-Proposal in
    rw (c.in-Share.is, p.is)
    (refused_by (proposal_share_reasons h slots p.site.0 p.view.0 p.local.0 p.number.0 c.in-Share.signed)
    (proposal_share_step h slots p.site.0 p.view.0 p.local.0 p.number.0 p.value c.in-Share.signed)
    c.in-Some.reason
    (c.in-Some.ensures clients serve))

pub returns-clause-fits : goal.returns-clause-fits
returns-clause-fits c =
    λ clients serve.
    let h = here_of clients serve c.args.here.now in
    let slots = slots_of h c.args.slots.now in
    let p = c.in-Proposal in
    let index : c.in-Share.signed.index < 3 * c.args.here.now.f + 1 = subst (IsKnownMessage c.args.here.now) c.in-Share.is c.requires.sender in
    let is : c.in_ok-step.step ≡ proposal_share_step h slots p.site.0 p.view.0 p.local.0 p.number.0 p.value c.in-Share.signed =
    cc (c.in_ok-step.ensures.equal clients serve, c.proposal_row-row.ensures clients serve, p.is) in
    subst (Fits h) (sym is)
    (proposal_share_fits h slots p.site.0 p.view.0 p.local.0 p.number.0 p.value c.in-Share.signed (sym (c.in_default-reason_of.ensures clients serve)) index)
