-- A message's places, one by one: how many wait to a destination, and how they are cleared.
use Rattle.std.proofs.Common.{◌≡◌, ◌∙◌, ap, sym, ℕ, zero, suc, ◌+◌, ◌-◌, ◌≤◌, Bool, true, false, cond, nat_eq, Some, None, List, [], ◌∷◌, ◌++◌, length, take, drop, map, refl, arith, subst, inl, inr}
use Rattle.std.specs.Prelude.{◌&&◌, ◌||◌, max, slice_get, slice_set}
use Rattle.std.proofs.lemmas.Bool.{cases_lt, and_from}
use Rattle.std.proofs.lemmas.List.{drop-drop, map-append, take-append-drop}
use Rattle.std.proofs.lemmas.List.Elements.{All-drop}
use Rattle.st_schedule.specs.declared.line.Dest.{Dest}
use Rattle.st_protocol.specs.World as model
use Rattle.st_protocol.specs.Schedule.{is_pair}
use Rattle.st_waiting.specs.declared.slot.Slot.{Slot}
use Rattle.st_waiting.specs.Passing.{passing}
use Rattle.st_waiting.specs.Places.{pair_in, waits, pairs_from, cleared, NoneOf}
use Rattle.st_waiting.proofs.PassingLaws.{passing_first}
use Rattle.st_waiting.proofs.PlaceLaws.{none_passing, passing_later, cleared_other, all_other}
use Rattle.st_waiting.proofs.KeepLaws.{next_place}

-- ---- counting

-- how many wait from a place on, by those from the next on
pub count_next : (starts : ℕ → ℕ) (m : ℕ) (to : Dest) (i : ℕ) (slots : List Slot) (s : Slot) → slice_get slots i ≡ Some s
    → passing (is_pair m to) (pairs_from starts i (drop i slots))
    ≡ passing (is_pair m to) (pairs_from starts (i + 1) (drop (i + 1) slots)) + cond (is_pair m to (pair_in s) && waits starts i s) 1 0
count_next starts m to i slots s is =
    ap (λ (l : List model.Pair). passing (is_pair m to) l) (next_place starts i slots s is)
    ∙ by_test (waits starts i s)
  where
    by_pair : (b : Bool) (n : ℕ) → n + cond b 1 0 ≡ n + cond (b && true) 1 0
    by_pair true n = refl
    by_pair false n = refl

    no_pair : (b : Bool) (n : ℕ) → n ≡ n + cond (b && false) 1 0
    no_pair true n = omega arith
    no_pair false n = omega arith

    by_test : (b : Bool)
        → passing (is_pair m to) (cond b (pair_in s ∷ pairs_from starts (i + 1) (drop (i + 1) slots)) (pairs_from starts (i + 1) (drop (i + 1) slots)))
        ≡ passing (is_pair m to) (pairs_from starts (i + 1) (drop (i + 1) slots)) + cond (is_pair m to (pair_in s) && b) 1 0
    by_test true =
        passing_first (is_pair m to) (pair_in s) (pairs_from starts (i + 1) (drop (i + 1) slots))
        ∙ by_pair (is_pair m to (pair_in s)) (passing (is_pair m to) (pairs_from starts (i + 1) (drop (i + 1) slots)))
    by_test false = no_pair (is_pair m to (pair_in s)) (passing (is_pair m to) (pairs_from starts (i + 1) (drop (i + 1) slots)))

-- one that waits, and one that doesn't or isn't looked for
pub count_one : (starts : ℕ → ℕ) (m : ℕ) (to : Dest) (i : ℕ) (slots : List Slot) (s : Slot) → slice_get slots i ≡ Some s
    → is_pair m to (pair_in s) ≡ true → waits starts i s ≡ true
    → passing (is_pair m to) (pairs_from starts i (drop i slots)) ≡ passing (is_pair m to) (pairs_from starts (i + 1) (drop (i + 1) slots)) + 1
count_one starts m to i slots s is meant first =
    count_next starts m to i slots s is
    ∙ ap (λ (b : Bool). passing (is_pair m to) (pairs_from starts (i + 1) (drop (i + 1) slots)) + cond b 1 0) (and_from (is_pair m to (pair_in s)) (waits starts i s) meant first)

pub count_none : (starts : ℕ → ℕ) (m : ℕ) (to : Dest) (i : ℕ) (slots : List Slot) (s : Slot) → slice_get slots i ≡ Some s
    → (is_pair m to (pair_in s) && waits starts i s) ≡ false
    → passing (is_pair m to) (pairs_from starts i (drop i slots)) ≡ passing (is_pair m to) (pairs_from starts (i + 1) (drop (i + 1) slots))
count_none starts m to i slots s is other =
    count_next starts m to i slots s is
    ∙ (ap (λ (b : Bool). passing (is_pair m to) (pairs_from starts (i + 1) (drop (i + 1) slots)) + cond b 1 0) other ∙ omega arith)

-- it begins at the message's first place
pub count_begins : (starts : ℕ → ℕ) (m : ℕ) (to : Dest) (low head k : ℕ) (slots : List Slot) → k ≡ max low head → low ≤ length slots → NoneOf m (take low slots)
    → passing (is_pair m to) (pairs_from starts k (drop k slots)) ≡ passing (is_pair m to) (pairs_from starts head (drop head slots))
count_begins starts m to low head k slots is inside none =
    elim (cases_lt head low) [
      | inl l ↦
          let at : k ≡ low = omega (arith, is, l) in
          ap (λ (j : ℕ). passing (is_pair m to) (pairs_from starts j (drop j slots))) at ∙ passing_later starts m to head low slots (omega (arith, l)) inside none
      | inr l ↦
          let at : k ≡ head = omega (arith, is, l) in
          ap (λ (j : ℕ). passing (is_pair m to) (pairs_from starts j (drop j slots))) at
    ]

-- and ends past its last
pub count_ends : (starts : ℕ → ℕ) (m : ℕ) (to : Dest) (high k : ℕ) (slots : List Slot) → high ≤ k → NoneOf m (drop high slots)
    → passing (is_pair m to) (pairs_from starts k (drop k slots)) ≡ 0
count_ends starts m to high k slots order none =
    let gap : ℕ = k - high in
    let is : high + gap ≡ k = omega (arith, order) in
    let parts : drop gap (drop high slots) ≡ drop k slots = drop-drop gap high slots ∙ ap (λ (j : ℕ). drop j slots) is in
    let rest : NoneOf m (drop k slots) = subst (λ (l : List Slot). NoneOf m l) parts (All-drop (λ (x : Slot). nat_eq x.message m ≡ false) gap (drop high slots) none) in
    none_passing starts m to k (drop k slots) rest

-- ---- clearing

-- the first i places cleared
abbrev pub so_far : ℕ → Dest → ℕ → List Slot → List Slot
so_far m to i old = map (cleared m to) (take i old) ++ drop i old

pub clear_begins : (m : ℕ) (to : Dest) (low : ℕ) (old : List Slot) → NoneOf m (take low old) → old ≡ so_far m to low old
clear_begins m to low old none =
    sym (ap (λ (l : List Slot). l ++ drop low old) (all_other m to (take low old) none) ∙ take-append-drop low old)

pub clear_ends : (m : ℕ) (to : Dest) (high : ℕ) (old : List Slot) → NoneOf m (drop high old) → so_far m to high old ≡ map (cleared m to) old
clear_ends m to high old none =
    ap (λ (l : List Slot). map (cleared m to) (take high old) ++ l) (sym (all_other m to (drop high old) none))
    ∙ (sym (map-append (cleared m to) (take high old) (drop high old)) ∙ ap (λ (l : List Slot). map (cleared m to) l) (take-append-drop high old))

-- one place more: written, as it was, or past the end
pub clear_next : (m : ℕ) (to : Dest) (i j : ℕ) (old now : List Slot) (s : Slot) → j ≡ suc i → now ≡ so_far m to i old → slice_get now i ≡ Some s
    → is_pair m to (pair_in s) ≡ true
    → slice_set now i (record { message = s.message; to = s.to; gone = true }) ≡ so_far m to j old
clear_next m to i j old now s next begun is meant =
    ap (λ (l : List Slot). slice_set l i (record { message = s.message; to = s.to; gone = true })) begun
    ∙ rw next (at i old (ap (λ (l : List Slot). slice_get l i) (sym begun) ∙ is))
  where
    gone : cleared m to s ≡ record { message = s.message; to = s.to; gone = true }
    gone = λ k. record { message = s.message; to = s.to; gone = meant k || s.gone }

    at : (k : ℕ) (xs : List Slot) → slice_get (so_far m to k xs) k ≡ Some s
        → slice_set (so_far m to k xs) k (record { message = s.message; to = s.to; gone = true }) ≡ so_far m to (suc k) xs
    at zero [] e = cc
    at zero (x ∷ xs) e = let same : s ≡ x = cc in ap (λ (y : Slot). y ∷ xs) (sym gone ∙ ap (cleared m to) same)
    at (suc k) [] e = cc
    at (suc k) (x ∷ xs) e = ap (λ (l : List Slot). cleared m to x ∷ l) (at k xs e)

pub clear_none : (m : ℕ) (to : Dest) (i j : ℕ) (old now : List Slot) (s : Slot) → j ≡ suc i → now ≡ so_far m to i old → slice_get now i ≡ Some s
    → is_pair m to (pair_in s) ≡ false → now ≡ so_far m to j old
clear_none m to i j old now s next begun is other = rw next (begun ∙ at i old (ap (λ (l : List Slot). slice_get l i) (sym begun) ∙ is))
  where
    at : (k : ℕ) (xs : List Slot) → slice_get (so_far m to k xs) k ≡ Some s → so_far m to k xs ≡ so_far m to (suc k) xs
    at zero [] e = cc
    at zero (x ∷ xs) e = let same : s ≡ x = cc in ap (λ (y : Slot). y ∷ xs) (sym same ∙ (sym (cleared_other m to s other) ∙ ap (cleared m to) same))
    at (suc k) [] e = cc
    at (suc k) (x ∷ xs) e = ap (λ (l : List Slot). cleared m to x ∷ l) (at k xs e)

pub clear_past : (m : ℕ) (to : Dest) (i j : ℕ) (old now : List Slot) → j ≡ suc i → now ≡ so_far m to i old → slice_get now i ≡ None → now ≡ so_far m to j old
clear_past m to i j old now next begun is = rw next (begun ∙ at i old (ap (λ (l : List Slot). slice_get l i) (sym begun) ∙ is))
  where
    at : (k : ℕ) (xs : List Slot) → slice_get (so_far m to k xs) k ≡ None → so_far m to k xs ≡ so_far m to (suc k) xs
    at zero [] e = refl
    at zero (x ∷ xs) e = cc
    at (suc k) [] e = refl
    at (suc k) (x ∷ xs) e = ap (λ (l : List Slot). cleared m to x ∷ l) (at k xs e)
