-- No union is held.
use Rattle.std.proofs.Common.{◌∙◌, sym, subst}
use Rattle.st_state.specs.ForcedView.{forced_by}
use Rattle.st_state.specs.SlotsView.{slots_of}
use Rattle.st_state.specs.ClientsView.{last_of, pending_of}
use Rattle.st_live.specs.LiveView.{place_here}
use Rattle.st_live.specs.Service.{list_serve}
use Rattle.st_server.specs.Bounds.{IsLowStep}
use Rattle.st_server.proofs.FillLaws.{known_is, forced_base, fill_is, fill_low}
use Rattle.st_server.proofs.carry.filled.Goals as goal

pub fill-requires-clause-known : goal.fill-requires-clause-known
fill-requires-clause-known c = known_is c.args.live.now c.requires.answers c.requires.stands c.requires.bound

pub fill-requires-clause-base : goal.fill-requires-clause-base
fill-requires-clause-base c = forced_base c.args.live.now c.in_ok-forced.forced (c.in_ok-forced.ensures.equal c.args.live.now.pending.clients list_serve)

pub returns-clause-fill : goal.returns-clause-fill
returns-clause-fill c =
    λ q stands.
    c.in_ok-step.ensures.equal list_serve ∙ fill_is c.args.live.now q c.in_ok-forced.forced stands (c.in_ok-forced.ensures.equal c.args.live.now.pending.clients list_serve)

pub returns-clause-low : goal.returns-clause-low
returns-clause-low c =
    let live = c.args.live.now in
    subst IsLowStep (sym (c.in_ok-step.ensures.equal list_serve))
    (fill_low (place_here live) (slots_of (place_here live) live.slots) (pending_of (last_of live.clients) live.pending) (forced_by (place_here live) c.in_ok-forced.forced))
