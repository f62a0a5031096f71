use Rattle.std.proofs.Common.{◌≡◌, ◌+◌, ◌-◌, ◌*◌, ◌^◌, ◌<◌, ◌≤◌, ◌++◌}
use Rattle.st_lms.specs.Kinds.{height_of, leaves_of}
use Rattle.st_lms.specs.Formulas.{path_from}
use Rattle.st_lms.proofs.tree.Tree.put_path.Given as goal

abbrev pub invariant-loop-k : goal.invariant-loop-k
invariant-loop-k l = record {
  low : 2 ^ (height_of l.self.secret.kind - l.k) ≤ l.r;
  high : l.r < 2 * leaves_of l.self.secret.kind;
  path : l.out.items ++ path_from l.self.secret (height_of l.self.secret.kind - l.k) l.r ≡ l.fn.out.items ++ path_from l.self.secret (height_of l.self.secret.kind) (leaves_of l.self.secret.kind + l.fn.q);
}
