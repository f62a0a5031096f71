use Rattle.std.proofs.Common.{◌≡◌, ◌-◌, ◌*◌, length}
use Rattle.st_lms.specs.Kinds.{height_of}
use Rattle.st_lms.specs.Formulas.{climbed}
use Rattle.st_lms.proofs.check.climbed.Given as goal

abbrev pub invariant-loop-k : goal.invariant-loop-k
invariant-loop-k l = record {
  long : length l.rest ≡ 32 * (height_of l.fn.kind - l.k);
  same : climbed l.i (height_of l.fn.kind - l.k) l.node l.reached l.rest ≡ climbed l.i (height_of l.fn.kind) l.fn.r l.fn.value l.path;
}
