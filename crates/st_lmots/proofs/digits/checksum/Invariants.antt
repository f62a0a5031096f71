use Rattle.std.proofs.Common.{◌≡◌, ◌-◌, ◌≤◌, ◌*◌}
use Rattle.st_lmots.specs.Kinds.{top_of, width_of}
use Rattle.st_lmots.specs.Formulas.{coef, sum_below}
use Rattle.st_lmots.proofs.digits.checksum.Given as goal

abbrev pub invariant-loop-i : goal.invariant-loop-i
invariant-loop-i l = record {
  all : l.sum ≡ sum_below (λ i. top_of l.kind - coef l.digest i (width_of l.kind)) l.i;
  small : l.sum ≤ l.i * top_of l.kind;
}
