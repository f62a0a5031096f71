-- Keyed seals keep the laws of a pen.
use Rattle.std.specs.Prelude.{◌≡◌, ℕ, List, ◌++◌, Bool, ◌&&◌, ◌==◌, length, take, nat_eq, true, refl}
use Rattle.std.proofs.Common.{◌∙◌, ap, arith}
use Rattle.std.specs.Int.{to_be_bytes, w32}
use Rattle.std.specs.Cmp.Lexicographic.{pointwise}
use Rattle.std.proofs.lemmas.Bool.{and_from, eq-eqb}
use Rattle.std.proofs.lemmas.Bool.Decides.{Decides-eqb}
use Rattle.std.proofs.lemmas.Slice.Eq.{slice_eq-Decides}
use Rattle.sha2.proofs.Facts256.{length-sha256}
use Rattle.st_words.specs.declared.ids.Who.{Who}
use Rattle.st_seal.specs.Scheme.{Scheme, is_party}
use Rattle.st_seal.specs.Pen.{Accepts, IsSound}
use Rattle.st_seal.specs.Keyed.{secret_of, keyed_seal, keyed_checks, sealed_by, keyed_pen}

-- a list is equal to itself
same_bytes : (xs : List ℕ) → pointwise nat_eq xs xs ≡ true
same_bytes xs = (slice_eq-Decides Decides-eqb xs xs _ refl).1 refl

-- a keyed seal has 36 bytes
pub length-keyed_seal : (secret : List ℕ) (leaf : ℕ) (bytes : List ℕ) → length (keyed_seal secret (to_be_bytes w32 leaf) bytes) ≡ 36
unfolding keyed_seal
length-keyed_seal secret leaf bytes = omega (arith, length-sha256 ((secret ++ to_be_bytes w32 leaf) ++ bytes))

-- a keyed seal begins with its leaf
take-keyed_seal : (secret : List ℕ) (leaf : ℕ) (bytes : List ℕ) → take 4 (keyed_seal secret (to_be_bytes w32 leaf) bytes) ≡ to_be_bytes w32 leaf
unfolding keyed_seal
take-keyed_seal secret leaf bytes = refl

-- what a party seals checks as its own, with whatever leaf
pub keyed_accepted : (s : Scheme) (who : Who) → is_party s who ≡ true → Accepts (keyed_checks s) (keyed_pen s who)
unfolding keyed_checks sealed_by
keyed_accepted s who party leaf bytes below =
    let seal : List ℕ = keyed_seal (secret_of s.seed who) (to_be_bytes w32 leaf) bytes in
    let whole : (length seal == 36) ≡ true = eq-eqb (length seal) 36 (length-keyed_seal (secret_of s.seed who) leaf bytes) in
    let again : List ℕ → Bool = λ (first : List ℕ). pointwise nat_eq seal (keyed_seal (secret_of s.seed who) first bytes) in
    let equal : again (take 4 seal) ≡ true = ap again (take-keyed_seal (secret_of s.seed who) leaf bytes) ∙ same_bytes seal in
    and_from (is_party s who && (length seal == 36)) _ (and_from (is_party s who) _ party whole) equal

-- a party's keyed seals keep the laws
pub keyed_sound : (s : Scheme) (who : Who) → is_party s who ≡ true → IsSound (keyed_pen s who)
unfolding sealed_by
keyed_sound s who party = record {
  accepted = keyed_accepted s who party;
  fits = λ leaf bytes below. let e = length-keyed_seal (secret_of s.seed who) leaf bytes in (omega arith, omega arith);
  few = omega arith;
}
