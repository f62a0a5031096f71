use Rattle.std.proofs.Common.{◌≡◌, ◌++◌}
use Rattle.std.specs.Int.{w32}
use Rattle.st_fields.specs.Spelling.{number}
use Rattle.st_lmots.specs.Kinds.{number_of}
use Rattle.st_lmots.specs.Formulas.{gathered, element, randomizer}
use Rattle.st_lmots.proofs.seal.put_signature.Given as goal

abbrev pub invariant-chains : goal.invariant-chains
invariant-chains l = l.out.items ≡ gathered (l.fn.out.items ++ (number w32 (number_of l.kind) ++ randomizer l.seed l.i l.q)) (element l.kind l.i l.q l.seed l.digits) l.n
