use Rattle.std.proofs.Common.{◌≡◌, ◌*◌, ◌≤◌, length}
use Rattle.st_lms.specs.Kinds.{leaves_of}
use Rattle.st_lms.specs.Trees.{IsBuiltFrom}
use Rattle.st_lms.proofs.nodes.fill.Given as goal

abbrev pub invariant-loop-r : goal.invariant-loop-r
invariant-loop-r l = record {
  own : 1 ≤ l.r;
  within : l.r ≤ 2 * leaves_of l.secret.kind;
  all : length l.nodes ≡ 2 * leaves_of l.secret.kind;
  built : IsBuiltFrom l.secret l.r l.nodes;
}

abbrev pub decreases-loop-r : goal.decreases-loop-r
decreases-loop-r l = l.r
