-- The seals of the servers so far.
use Rattle.std.proofs.Common.{◌≡◌}
use Rattle.st_seal.specs.Collecting.{shares_of, with_share, share_of, seals_below}
use Rattle.st_seal.proofs.collector.Collector.completed.Given as goal

abbrev pub invariant-loop-i : goal.invariant-loop-i
invariant-loop-i l = l.quorum ≡ seals_below l.bytes (with_share (shares_of l.self) (share_of l.bytes l.signed)) l.i
