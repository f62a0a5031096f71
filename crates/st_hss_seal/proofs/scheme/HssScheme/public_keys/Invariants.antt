use Rattle.std.proofs.Common.{◌≡◌, length}
use Rattle.st_hss_seal.specs.Kept.{places_of, KeepsBelow}
use Rattle.st_hss_seal.proofs.scheme.HssScheme.public_keys.Given as goal

abbrev pub invariant-loop-k : goal.invariant-loop-k
invariant-loop-k l = record {
  size : length l.keys ≡ places_of l.fn.self;
  kept : KeepsBelow l.fn.self l.k l.keys;
}
