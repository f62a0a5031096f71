use Rattle.std.proofs.Common.{◌≡◌, ◌-◌}
use Rattle.st_lmots.specs.Formulas.{chain}
use Rattle.st_lmots.proofs.chain.chain.Given as goal

abbrev pub invariant-loop-j : goal.invariant-loop-j
invariant-loop-j l = l.reached ≡ chain l.at l.fn.from (l.j - l.fn.from) l.fn.value
