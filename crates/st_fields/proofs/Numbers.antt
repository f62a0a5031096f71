-- Kinds that stand as their numbers.
use Rattle.std.proofs.Common.{◌≡◌, ℕ, Bool, true, eqb, List, [], ◌∷◌, length, Option, Some, None, Ok, refl, sym, ap, subst, inl, inr}
use Rattle.std.specs.Prelude.{IsTrue, find}
use Rattle.std.specs.List.{list_any}
use Rattle.std.specs.Option.{ok_or, option_map}
use Rattle.std.proofs.lemmas.Bool.{eqb-true, cases_Bool, or_left, or_right}
use Rattle.st_fields.specs.Spelling.{byte, is_among}
use Rattle.st_fields.specs.Reading.{byte_at, kind_at}
use Rattle.st_fields.proofs.Fields.{IsField, ok_is, step}
use Rattle.st_fields.proofs.Leaves.{byte_field}

-- what is found passes the test, and so does an element of the list
find_passes : {K : Type 0} (test : K → Bool) (kinds : List K) (kind : K) → find test kinds ≡ Some kind → (test kind ≡ true) × (list_any test kinds ≡ true)
find_passes test [] kind e = absurd cc
find_passes test (k ∷ kinds) kind e =
    elim (cases_Bool (test k)) [
      | inl passes ↦ (let same : Some k ≡ Some kind = rw passes at e in let is : k ≡ kind = cc in rw (← is) passes, or_left (test k) (list_any test kinds) passes)
      | inr fails ↦ (let more = find_passes test kinds kind (rw fails at e) in (more.0, or_right (test k) (list_any test kinds) more.1))
    ]

-- the one kind of this number is found
find_again : {K : Type 0} (number_of : K → ℕ) → ((j k : K) → number_of j ≡ number_of k → j ≡ k) → (kinds : List K) (kind : K) → is_among number_of kinds kind ≡ true → find (λ other. eqb (number_of other) (number_of kind)) kinds ≡ Some kind
find_again number_of one [] kind e = absurd cc
find_again number_of one (k ∷ kinds) kind e =
    elim (cases_Bool (eqb (number_of k) (number_of kind))) [
      | inl passes ↦ (let is : k ≡ kind = one k kind (eqb-true _ _ passes) in rw passes (ap Some is))
      | inr fails ↦ rw fails (find_again number_of one kinds kind (rw fails at e))
    ]

-- the kind that a number named, and the bytes after it
named_ok : {K : Type 0} (found : Option K) (r : List ℕ) (left : ℕ) (kind : K) (rest : List ℕ) → ok_or {T = K × List ℕ} (option_map (λ k. (k, r)) found) left ≡ Ok (kind, rest) → (found ≡ Some kind) × (r ≡ rest)
named_ok {K} (Some k) r left kind rest e = (ap (λ (p : K × List ℕ). Some p.0) (ok_is (k, r) (kind, rest) e), ap (λ (p : K × List ℕ). p.1) (ok_is (k, r) (kind, rest) e))
named_ok None r left kind rest e = absurd cc

-- one of these kinds, where a number has one kind
pub kind_field : {K : Type 0} (number_of : K → ℕ) → ((j k : K) → number_of j ≡ number_of k → j ≡ k) → (kinds : List K) → IsField (kind_at number_of kinds) (λ kind. byte (number_of kind)) (λ kind. IsTrue (is_among number_of kinds kind))
unfolding kind_at byte_at
kind_field number_of one kinds = record {
  takes = λ bytes kind rest fits e.
      step byte_field bytes (kind, rest) fits e λ n r t keeps e'.
      let named = named_ok (find (λ other. eqb (number_of other) n) kinds) r (length bytes) kind rest e' in
      let found = find_passes (λ other. eqb (number_of other) n) kinds kind named.0 in
      let is : n ≡ number_of kind = sym (eqb-true _ _ found.0) in
      (rw (← is, ← named.1) t, subst (λ (m : ℕ). list_any (λ other. eqb (number_of other) m) kinds ≡ true) is found.1);
  again = λ kind rest among. rw (find_again number_of one kinds kind among) refl;
}
