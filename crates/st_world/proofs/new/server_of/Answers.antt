-- The server stands where it stood at first.
use Rattle.std.proofs.Common.{◌∙◌, ap, sym, subst}
use Rattle.st_message.specs.declared.here.Here.{Here}
use Rattle.st_state.specs.HereView as view
use Rattle.st_live.specs.Service.{list_serve}
use Rattle.st_server.specs.Bounds.{IsSeat}
use Rattle.st_server.specs.Fresh.{IsFresh}
use Rattle.st_world.proofs.NewLaws.{is_seat, is_fresh}
use Rattle.st_world.proofs.new.server_of.Goals as goal

pub new-requires-clause-fresh : goal.new-requires-clause-fresh
new-requires-clause-fresh c = subst IsFresh (sym c.here_at_first-here.ensures) (is_fresh c.args.d.now c.args.capacity)

pub new-requires-clause-seat : goal.new-requires-clause-seat
new-requires-clause-seat c =
    subst (λ (here : Here). IsSeat (view.seat_of c.args.d.now.clients list_serve here)) (sym c.here_at_first-here.ensures) (is_seat c.args.d.now c.args.capacity c.requires.taken c.requires.capacity)

pub returns-clause-seat : goal.returns-clause-seat
returns-clause-seat c = c.in_ok-server.ensures.seat ∙ ap (view.seat_of c.args.d.now.clients list_serve) c.here_at_first-here.ensures
