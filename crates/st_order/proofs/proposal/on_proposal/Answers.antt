-- What no reason is against is taken.
use Rattle.std.proofs.Common.{◌≡◌, subst, sym}
use Rattle.st_protocol.specs.Ordering.{proposal_step}
use Rattle.st_state.specs.HereView.{here_of}
use Rattle.st_state.specs.Placed.{Fits}
use Rattle.st_state.specs.SlotsView.{slots_of}
use Rattle.st_order.proofs.FitLaws.{proposal_fits}
use Rattle.st_order.proofs.proposal.on_proposal.Goals as goal

pub returns-clause-fits : goal.returns-clause-fits
returns-clause-fits c =
    λ clients serve.
    let h = here_of clients serve c.args.here.now in
    let p = c.in-Proposal in
    let is : c.in_ok-step.step ≡ proposal_step h p.site.0 p.view.0 p.local.0 p.number.0 p.value c.args.quorum.now =
    cc (c.in_ok-step.ensures.equal, c.in_ok-noted.ensures.equal, c.in_ok-made.ensures.equal, p.is) in
    subst (Fits h) (sym is)
    (proposal_fits h (slots_of h c.args.slots.now) p.site.0 p.view.0 p.local.0 p.number.0 p.value c.args.quorum.now (sym (c.in_default-reason_of.ensures clients serve)))
