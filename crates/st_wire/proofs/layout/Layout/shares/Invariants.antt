-- The seals so far are laid out.
use Rattle.std.proofs.Common.{◌≡◌, take}
use Rattle.std.specs.List.{flat_map}
use Rattle.st_wire.specs.Seals.{signed_pieces}
use Rattle.st_wire.specs.Layout.{laid}
use Rattle.st_wire.proofs.layout.Layout.shares.Given as goal

abbrev pub invariant-loop-signed : goal.invariant-loop-signed
invariant-loop-signed l = l.self ≡ laid l.fn.self (flat_map (signed_pieces l.statement) (take l.signed-index l.shares))
