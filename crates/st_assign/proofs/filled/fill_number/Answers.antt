-- A value is found, and its Prepare made.
use Rattle.std.proofs.Common.{◌≡◌, ◌∙◌, ap, sym, Some, None, false, nat_le, arith}
use Rattle.st_protocol.specs.State.{AtPrepare}
use Rattle.st_protocol.specs.Assigning.{fill_value}
use Rattle.st_state.specs.HereView.{here_of}
use Rattle.st_state.specs.ForcedView.{forced_by}
use Rattle.st_state.specs.ClientsView.{last_of, pending_of}
use Rattle.st_state.specs.SlotsView.{slots_of}
use Rattle.st_assign.specs.FillView.{filling_of}
use Rattle.st_assign.proofs.FillLaws.{number_makes}
use Rattle.st_assign.proofs.filled.fill_number.Goals as goal

pub returns-clause-turn : goal.returns-clause-turn
unfolding filling_of
returns-clause-turn c =
    λ serve.
    let clients = c.args.pending.now.clients in
    let h = here_of clients serve c.args.here.now in
    let pending = pending_of (last_of c.args.clients.now) c.args.pending.now in
    let forced = forced_by h c.args.forced.now in
    let slots = slots_of h c.args.filling.slots in
    let kept = c.made_prepare.ensures clients serve in
    let none : slots.made (AtPrepare h.view h.local c.args.number) ≡ None = grind (arith, kept, c) in
    let left : nat_le h.seat.capacity c.args.filling.leaf ≡ false = grind (arith, c) in
    let value : fill_value h slots pending forced c.args.number ≡ Some (c.in-Some.value, c.in-Some.seal) = sym (c.in_ok-found.ensures.equal serve) ∙ c.in-Some.is in
    number_makes h pending forced (filling_of h c.args.filling) c.args.number (c.in-Some.value, c.in-Some.seal) none left value
    ∙ ap Some (sym (c.in_ok-made.ensures.equal clients serve none))
