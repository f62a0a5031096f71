-- The client's place is empty now.
use Rattle.std.proofs.Common.{◌≡◌, ◌∙◌, sym, None, Some, refl}
use Rattle.st_hss_seal.specs.Sealers.{scheme_in}
use Rattle.st_sealers.proofs.PlaceLaws.{own_at, keeps_set}
use Rattle.st_sealers.proofs.sealers.ClientSealers.take.Goals as goal

pub returns-in-Some-clause-sealer : goal.returns-in-Some-clause-sealer
returns-in-Some-clause-sealer c =
    own_at (scheme_in c.args.seals.now) c.args.self.now c.from.result c.args.client.0 c.index_mut.result.now c.in-Some.sealer c.requires.keeps c.from.ensures c.requires.client c.index_mut.ensures.value
    (sym c.take.ensures.value ∙ c.in-Some.is)

pub returns-in-Some-clause-keeps : goal.returns-in-Some-clause-keeps
returns-in-Some-clause-keeps c =
    keeps_set (scheme_in c.args.seals.now) c.args.self.now _ c.from.result c.args.client.0 c.take.new.self c.requires.keeps c.from.ensures c.requires.client refl
    (λ sealer is. absurd (let none : None ≡ Some sealer = sym c.take.ensures.after ∙ is in cc))
