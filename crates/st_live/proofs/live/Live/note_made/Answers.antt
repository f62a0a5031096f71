-- The statement is noted in the slots, and its leaf is used.
use Rattle.st_live.specs.LiveView.{place_here}
use Rattle.st_live.specs.Service.{list_serve}
use Rattle.st_live.proofs.PlacedLaws.{placed_next, placed_vc, placed_report, placed_union}
use Rattle.st_live.proofs.LiveLaws.{stands_made}
use Rattle.st_live.proofs.live.Live.note_made.Goals as goal

pub next_leaf-self-requires : goal.next_leaf-self-requires
next_leaf-self-requires c = (placed_next (place_here c.args.self.now) c.args.leaf c.args.statement.now c.requires).1

pub returns-clause-ok : goal.returns-clause-ok
returns-clause-ok c =
    λ q stands.
    let live = c.args.self.now in
    let whole = placed_next (place_here live) c.args.leaf c.args.statement.now c.requires in
    rw c.next_leaf-self.ensures
    (stands_made live c.note_statement.new.slots c.args.leaf c.args.statement.now q stands whole.0 whole.1
    (placed_vc (place_here live) c.args.statement.now whole.2)
    (placed_report (place_here live) c.args.statement.now whole.2)
    (placed_union (place_here live) c.args.statement.now whole.2)
    (c.in_ok-note_statement.ensures.ok live.pending.clients list_serve))
