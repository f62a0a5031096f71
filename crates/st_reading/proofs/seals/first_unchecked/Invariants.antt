-- The seals that are left say which is the first.
use Rattle.std.proofs.Common.{◌≡◌, drop}
use Rattle.st_reading.specs.Answered.{first_unchecked}
use Rattle.st_reading.proofs.seals.first_unchecked.Given as goal

abbrev pub invariant-loop-sealed : goal.invariant-loop-sealed
invariant-loop-sealed g l = first_unchecked (g.C.Check.checks l.check) l.id (drop l.sealed-index l.seals) ≡ first_unchecked (g.C.Check.checks l.check) l.id l.seals
