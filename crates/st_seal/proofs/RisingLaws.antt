-- Laws on rising indices.
use Rattle.std.proofs.Common.{◌≡◌, ℕ, ◌+◌, ◌<◌, ◌≤◌, List, [], ◌∷◌, ◌++◌, All, arith, refl, true}
use Rattle.std.specs.Prelude.{nat_le}
use Rattle.std.proofs.lemmas.Bool.{and_from, le-leb}
use Rattle.std.proofs.lemmas.List.Elements.{All-head, All-tail}
use Rattle.st_seal.specs.declared.quorum.Signed.{Signed}
use Rattle.st_seal.specs.Certificates.{is_rising}
use Rattle.st_seal.specs.Rising.{IsRisingFrom}

-- a seal with a greater index may be put last
pub rising-push : (low : ℕ) (ss : List Signed) (x : Signed) → low ≤ x.index → All (λ (s : Signed). s.index < x.index) ss → IsRisingFrom low ss → IsRisingFrom low (ss ++ x ∷ [])
rising-push low [] x above all rising = (above, tt)
rising-push low (s ∷ ss) x above all rising =
    let head : s.index < x.index = All-head (λ (r : Signed). r.index < x.index) s ss all in
    let next : s.index + 1 ≤ x.index = omega (arith, head) in
    (rising.0, rising-push (s.index + 1) ss x next (All-tail (λ (r : Signed). r.index < x.index) s ss all) rising.1)

-- rising indices pass the test
pub rising_passes : (low : ℕ) (ss : List Signed) → IsRisingFrom low ss → is_rising low ss ≡ true
rising_passes low [] rising = refl
rising_passes low (s ∷ ss) rising = and_from (nat_le low s.index) (is_rising (s.index + 1) ss) (le-leb low s.index rising.0) (rising_passes (s.index + 1) ss rising.1)
