-- What goes out so far went out.
use Rattle.std.proofs.Common.{◌≡◌, take}
use Rattle.st_tables.specs.Entries.{entry}
use Rattle.st_sealing.specs.Sealing.{pen_by}
use Rattle.st_server.specs.Carried.{AreEmitted}
use Rattle.st_server.proofs.draft.Draft.emit_all.Given as goal

abbrev pub invariant-loop-out : goal.invariant-loop-out
invariant-loop-out g l =
    AreEmitted (entry l.replies) (pen_by (g.S.Sealer.pen l.fn.sealer) l.id) l.fn.self l.self (take l.out-index l.out-items)
    × (g.S.Sealer.pen l.sealer ≡ g.S.Sealer.pen l.fn.sealer)
