-- The changes so far are carried out, and the others may be.
use Rattle.std.proofs.Common.{◌≡◌, take, drop}
use Rattle.st_tables.specs.Entries.{entry}
use Rattle.st_sealing.specs.Sealing.{pen_by}
use Rattle.st_server.specs.Carried.{IsCarried}
use Rattle.st_server.proofs.draft.Draft.carry_changes.Given as goal

abbrev pub invariant-loop-change : goal.invariant-loop-change
invariant-loop-change g l =
    IsCarried (entry l.replies) (pen_by (g.S.Sealer.pen l.fn.sealer) l.id) l.fn.self l.self (take l.change-index l.change-items) (drop l.change-index l.change-items)
    × (g.S.Sealer.pen l.sealer ≡ g.S.Sealer.pen l.fn.sealer)
