-- The count so far.
use Rattle.std.proofs.Common.{◌≡◌, ◌≤◌, ℕ}
use Rattle.st_seal.specs.Voices.{count_below}
use Rattle.st_seal.specs.Collecting.{shares_of, says}
use Rattle.st_seal.proofs.collector.Collector.agreeing.Given as goal

abbrev pub invariant-loop-i : goal.invariant-loop-i
invariant-loop-i l = record {
  counted : l.count ≡ count_below (λ (i : ℕ). says l.bytes (shares_of l.self i)) l.i;
  few : l.count ≤ l.i;
}
