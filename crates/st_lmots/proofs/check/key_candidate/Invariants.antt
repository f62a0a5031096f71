use Rattle.sha2.specs.Hashers.{Holds256}
use Rattle.st_lmots.specs.Formulas.{place, for_key, gathered, element_end}
use Rattle.st_lmots.proofs.check.key_candidate.Given as goal

abbrev pub invariant-chains : goal.invariant-chains
invariant-chains l = Holds256 l.hasher (gathered (place l.i l.q for_key) (element_end l.kind l.i l.q l.digits l.signature) l.n)
