-- Whether one of the shares so far is backed.
use Rattle.std.proofs.Common.{◌≡◌, ℕ}
use Rattle.st_seal.specs.Collecting.{shares_of, is_backed, some_below}
use Rattle.st_seal.proofs.collector.Collector.is_complete.Given as goal

abbrev pub invariant-loop-i : goal.invariant-loop-i
invariant-loop-i l = l.complete ≡ some_below (λ (i : ℕ). is_backed l.self.f (shares_of l.self) (shares_of l.self i)) l.i
