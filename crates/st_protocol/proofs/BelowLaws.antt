-- Laws on what is counted, found and joined over the numbers below one.
use Rattle.std.proofs.Common.{◌≡◌, subst, ℕ, zero, suc, ◌+◌, ◌<◌, ◌⊎◌, inl, inr, Bool, true, false, cond, Option, Some, None, List, [], ◌++◌, nat_lt, refl, arith, add-one}
use Rattle.std.specs.Prelude.{◌||◌}
use Rattle.st_protocol.specs.Keeping.{or_else}
use Rattle.st_protocol.specs.Step.{count_below, some_below, first_below, all_below}

-- ---- none yet

pub count_below_none : (test : ℕ → Bool) → count_below test 0 ≡ 0
unfolding count_below
count_below_none test = refl

pub some_below_none : (test : ℕ → Bool) → some_below test 0 ≡ false
unfolding some_below
some_below_none test = refl

pub first_below_none : {A : Type 0} (pick : ℕ → Option A) → first_below pick 0 ≡ None
unfolding first_below
first_below_none pick = refl

pub all_below_none : {A : Type 0} (f : ℕ → List A) → all_below f 0 ≡ []
unfolding all_below
all_below_none f = refl

-- ---- one more

pub count_below_more : (test : ℕ → Bool) (k : ℕ) → count_below test (k + 1) ≡ count_below test k + cond (test k) 1 0
unfolding count_below
count_below_more test k = rw add-one refl

pub some_below_more : (test : ℕ → Bool) (k : ℕ) → some_below test (k + 1) ≡ (some_below test k || test k)
unfolding some_below
some_below_more test k = rw add-one refl

pub first_below_more : {A : Type 0} (pick : ℕ → Option A) (k : ℕ) → first_below pick (k + 1) ≡ or_else (first_below pick k) (pick k)
unfolding first_below
first_below_more pick k = rw add-one refl

pub all_below_more : {A : Type 0} (f : ℕ → List A) (k : ℕ) → all_below f (k + 1) ≡ all_below f k ++ f k
unfolding all_below
all_below_more f k = rw add-one refl

-- ---- what is found stays found

-- below a number, or the number
below_or_last : (k n : ℕ) → k < suc n → (k < n) ⊎ (k ≡ n)
below_or_last k n below = by_test (nat_lt k n) refl
  where
    by_test : (b : Bool) → nat_lt k n ≡ b → (k < n) ⊎ (k ≡ n)
    by_test true e = inl (grind (arith, e))
    by_test false e = inr (grind (arith, e, below))

-- a test that is true somewhere below
pub some_below_found : (test : ℕ → Bool) (k n : ℕ) → k < n → test k ≡ true → some_below test n ≡ true
unfolding some_below
some_below_found test k zero below here = absurd (omega arith)
some_below_found test k (suc n) below here = by_place (below_or_last k n below) (λ lower. some_below_found test k n lower here)
  where
    found_last : (b : Bool) → test n ≡ true → (b || test n) ≡ true
    found_last true e = refl
    found_last false e = e

    by_place : (k < n) ⊎ (k ≡ n) → (k < n → some_below test n ≡ true) → (some_below test n || test n) ≡ true
    by_place (inl lower) found = rw (found lower) refl
    by_place (inr last) found = found_last (some_below test n) (subst (λ m. test m ≡ true) last here)

-- what is picked first stays picked
pub first_below_found : {A : Type 0} (pick : ℕ → Option A) (k n : ℕ) (x : A) → k < n → first_below pick k ≡ None → pick k ≡ Some x → first_below pick n ≡ Some x
unfolding first_below
first_below_found pick k zero x below none here = absurd (omega arith)
first_below_found pick k (suc n) x below none here = by_place (below_or_last k n below) (λ lower. first_below_found pick k n x lower none here)
  where
    by_place : (k < n) ⊎ (k ≡ n) → (k < n → first_below pick n ≡ Some x) → or_else (first_below pick n) (pick n) ≡ Some x
    by_place (inl lower) found = rw (found lower) refl
    by_place (inr last) found = rw (subst (λ m. first_below pick m ≡ None) last none) (subst (λ m. pick m ≡ Some x) last here)
