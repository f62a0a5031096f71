use Rattle.sha2.specs.Hashers.{Holds256}
use Rattle.st_lmots.specs.Formulas.{place, for_key, gathered, chain_end}
use Rattle.st_lmots.proofs.seal.ots_key.Given as goal

abbrev pub invariant-chains : goal.invariant-chains
invariant-chains l = Holds256 l.hasher (gathered (place l.i l.q for_key) (chain_end l.kind l.i l.q l.seed) l.n)
