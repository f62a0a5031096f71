-- All elements so far are equal.
use Rattle.std.proofs.Common.{◌≡◌, take}
use Rattle.st_fields.proofs.same.same_elements.Given as goal

abbrev pub invariant-loop-k : goal.invariant-loop-k
invariant-loop-k g l = take l.k l.a ≡ take l.k l.b
