-- The fill is nothing, or all that is filled from its beginning.
use Rattle.std.proofs.Common.{◌≡◌, ◌∙◌, sym, subst, true, false, arith}
use Rattle.st_protocol.specs.Assigning.{fill}
use Rattle.st_state.specs.HereView.{here_of}
use Rattle.st_state.specs.Placed.{Fits}
use Rattle.st_state.specs.ForcedView.{forced_by}
use Rattle.st_state.specs.ClientsView.{last_of, pending_of}
use Rattle.st_state.specs.SlotsView.{slots_of}
use Rattle.st_assign.specs.FillView.{filling_of, may_fill}
use Rattle.st_assign.proofs.FillLaws.{fill_is_idle, fill_is_all, fill_fits}
use Rattle.st_assign.proofs.filled.fill.Goals as goal

pub returns-then-not-may_fill-clause-equal : goal.returns-then-not-may_fill-clause-equal
returns-then-not-may_fill-clause-equal c =
    λ serve.
    let clients = c.args.pending.now.clients in
    let h = here_of clients serve c.args.here.now in
    let forced = forced_by h c.args.forced.now in
    let may : may_fill h forced ≡ false = sym (c.may_fill.ensures clients serve) ∙ grind (arith, c) in
    fill_is_idle h (slots_of h c.args.slots.now) (pending_of (last_of c.args.clients.now) c.args.pending.now) forced c.idle.result may c.idle.ensures

pub returns-clause-equal : goal.returns-clause-equal
unfolding filling_of
returns-clause-equal c =
    λ serve.
    let clients = c.args.pending.now.clients in
    let h = here_of clients serve c.args.here.now in
    let forced = forced_by h c.args.forced.now in
    let may : may_fill h forced ≡ true = sym (c.may_fill.ensures clients serve) ∙ grind (arith, c) in
    fill_is_all h (slots_of h c.args.slots.now) (pending_of (last_of c.args.clients.now) c.args.pending.now) forced c.in_ok-step.step _ may
    (λ i. record { step = c.idle-2.ensures i; leaf = h.leaf; slots = slots_of h (c.in_ok-copy.ensures.equal i) })
    (c.in_ok-step.ensures.equal serve)

pub returns-clause-fits : goal.returns-clause-fits
unfolding filling_of forced_by
returns-clause-fits c =
    λ serve.
    let clients = c.args.pending.now.clients in
    let h = here_of clients serve c.args.here.now in
    let slots = slots_of h c.args.slots.now in
    let pending = pending_of (last_of c.args.clients.now) c.args.pending.now in
    let forced = forced_by h c.args.forced.now in
    let may : may_fill h forced ≡ true = sym (c.may_fill.ensures clients serve) ∙ grind (arith, c) in
    let is : c.in_ok-step.step ≡ fill h slots pending forced =
    fill_is_all h slots pending forced c.in_ok-step.step _ may
    (λ i. record { step = c.idle-2.ensures i; leaf = h.leaf; slots = slots_of h (c.in_ok-copy.ensures.equal i) })
    (c.in_ok-step.ensures.equal serve) in
    subst (Fits h) (sym is) (fill_fits h slots pending forced c.requires.base)
