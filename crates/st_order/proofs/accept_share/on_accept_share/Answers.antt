-- What no reason is against is taken.
use Rattle.std.proofs.Common.{◌≡◌, ◌<◌, ◌+◌, ◌*◌, subst, sym}
use Rattle.st_protocol.specs.Ordering.{accept_share_step}
use Rattle.st_state.specs.HereView.{here_of}
use Rattle.st_state.specs.Placed.{Fits}
use Rattle.st_state.specs.SlotsView.{slots_of}
use Rattle.st_shares.specs.Known.{IsKnownMessage}
use Rattle.st_order.proofs.FitLaws.{accept_share_fits}
use Rattle.st_order.proofs.accept_share.on_accept_share.Goals as goal

pub returns-clause-fits : goal.returns-clause-fits
returns-clause-fits c =
    λ clients serve.
    let h = here_of clients serve c.args.here.now in
    let slots = slots_of h c.args.slots.now in
    let index : c.in-Share.signed.index < 3 * c.args.here.now.f + 1 = subst (IsKnownMessage c.args.here.now) c.in-Share.is c.requires.sender in
    let is : c.in_ok-step.step ≡ accept_share_step h slots c.in-Accept.site.0 c.in-Accept.view.0 c.in-Accept.number.0 c.in-Accept.value c.in-Share.signed =
    cc (c.in_ok-step.ensures.equal clients serve, c.accept_row-row.ensures clients serve, c.in-Accept.is) in
    subst (Fits h) (sym is)
    (accept_share_fits h slots c.in-Accept.site.0 c.in-Accept.view.0 c.in-Accept.number.0 c.in-Accept.value c.in-Share.signed
    (sym (c.in_default-reason_of.ensures clients serve)) index)
