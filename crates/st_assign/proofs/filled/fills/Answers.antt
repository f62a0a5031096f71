-- The fill stops, goes on, or is at its end.
use Rattle.std.proofs.Common.{◌≡◌, ◌∙◌, ◌+◌, ◌-◌, ◌<◌, ◌≤◌, ap, Bool, true, false, cond, Some, None, arith}
use Rattle.st_protocol.specs.Assigning.{fill_number}
use Rattle.st_state.specs.HereView.{here_of}
use Rattle.st_state.specs.ForcedView.{forced_by}
use Rattle.st_state.specs.ClientsView.{last_of, pending_of}
use Rattle.st_assign.specs.declared.filled.Filling as code
use Rattle.st_assign.specs.FillView.{filling_of}
use Rattle.st_assign.proofs.FillLaws.{filled_all, fills_stop, fills_end, fills_turn}
use Rattle.st_assign.proofs.filled.fills.Goals as goal

pub returns-then-not-goes_on-clause-equal : goal.returns-then-not-goes_on-clause-equal
unfolding filling_of forced_by
returns-then-not-goes_on-clause-equal c =
    λ serve.
    let h = here_of c.args.pending.now.clients serve c.args.here.now in
    let pending = pending_of (last_of c.args.clients.now) c.args.pending.now in
    let forced = forced_by h c.args.forced.now in
    let last = c.last_number-last.result in
    let k = c.loop-k.k in
    let now = filling_of h c.loop-k.filling in
    let stops : c.in_ok-next.goes_on ≡ false = grind (arith, c) in
    let none : fill_number h pending forced now (k + 1) ≡ None =
    c.in_ok-next.ensures.turn serve ∙ ap (λ (b : Bool). cond b (Some (filling_of h c.in_ok-next.next)) None) stops in
    ap (λ (f : code.Filling). f.step) (c.in_ok-next.ensures.stop stops)
    ∙ filled_all h pending forced last (last - k) (k + 1) (filling_of h c.args.filling) now c.last_number-last.ensures (c.loop-k.invariant serve)
    (fills_stop h pending forced (last - k) (k + 1) now none)

pub loop-k-preserved : goal.loop-k-preserved
loop-k-preserved c =
    λ serve.
    let h = here_of c.args.pending.now.clients serve c.args.here.now in
    let pending = pending_of (last_of c.args.clients.now) c.args.pending.now in
    let forced = forced_by h c.args.forced.now in
    let last = c.last_number-last.result in
    let k = c.loop-k.k in
    let goes_on : c.in_ok-next.goes_on ≡ true = grind (arith, c) in
    let next : fill_number h pending forced (filling_of h c.loop-k.filling) (k + 1) ≡ Some (filling_of h c.in_ok-next.next) =
    c.in_ok-next.ensures.turn serve ∙ ap (λ (b : Bool). cond b (Some (filling_of h c.in_ok-next.next)) None) goes_on in
    let more : k < last = grind (arith, c) in
    fills_turn h pending forced last k (filling_of h c.loop-k.filling) (filling_of h c.in_ok-next.next) more next ∙ c.loop-k.invariant serve

pub returns-clause-equal : goal.returns-clause-equal
unfolding filling_of forced_by
returns-clause-equal c =
    λ serve.
    let h = here_of c.args.pending.now.clients serve c.args.here.now in
    let pending = pending_of (last_of c.args.clients.now) c.args.pending.now in
    let forced = forced_by h c.args.forced.now in
    let last = c.last_number-last.result in
    let k = c.loop-k.k in
    let now = filling_of h c.loop-k.filling in
    let ended : last ≤ k = grind (arith, c) in
    filled_all h pending forced last (last - k) (k + 1) (filling_of h c.args.filling) now c.last_number-last.ensures (c.loop-k.invariant serve)
    (fills_end h pending forced last k (k + 1) now ended)
