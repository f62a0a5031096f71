-- The quorums so far are laid out.
use Rattle.std.proofs.Common.{◌≡◌, take}
use Rattle.st_wire.specs.Kind.{items_of}
use Rattle.st_wire.specs.Seals.{backing_pieces}
use Rattle.st_wire.specs.Layout.{laid}
use Rattle.st_wire.proofs.layout.Layout.backing.Given as goal

abbrev pub invariant-loop-k : goal.invariant-loop-k
invariant-loop-k l = l.self ≡ laid l.fn.self (backing_pieces l.sites l.report (take l.k (items_of l.report)) (take l.k l.quorums))
