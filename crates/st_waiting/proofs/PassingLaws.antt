-- How many pairs pass a test, in lists that are made of others.
use Rattle.std.proofs.Common.{◌≡◌, ◌∙◌, ap, sym, ℕ, suc, ◌+◌, ◌<◌, Bool, true, false, cond, nat_eq, List, [], ◌∷◌, ◌++◌, length, refl, arith}
use Rattle.std.specs.Prelude.{◌||◌, nat_lt}
use Rattle.std.proofs.lemmas.Bool.{eqb-true, lt-ltb, and_parts}
use Rattle.st_schedule.specs.declared.line.Dest.{Dest}
use Rattle.st_protocol.specs.World as model
use Rattle.st_protocol.specs.World.{same_dest}
use Rattle.st_protocol.specs.Schedule.{is_pair, without, has_pair}
use Rattle.st_waiting.specs.Destinations.{key_of}
use Rattle.st_waiting.specs.Passing.{passing, goes_to, has_key}
use Rattle.st_waiting.proofs.DestinationLaws.{same_key, key_test}

-- what passes and what is left are all
pub passing_length : (test : model.Pair → Bool) (ps : List model.Pair) → passing test ps + length (without test ps) ≡ length ps
unfolding passing without
passing_length test [] = refl
passing_length test (p ∷ ps) = by_test (test p) (passing_length test ps)
  where
    by_test : (b : Bool) → passing test ps + length (without test ps) ≡ length ps
        → cond b (suc (passing test ps)) (passing test ps) + length (cond b (without test ps) (p ∷ without test ps)) ≡ suc (length ps)
    by_test true e = omega (arith, e)
    by_test false e = omega (arith, e)

pub passing_append : (test : model.Pair → Bool) (ps qs : List model.Pair) → passing test (ps ++ qs) ≡ passing test ps + passing test qs
unfolding passing
passing_append test [] qs = omega arith
passing_append test (p ∷ ps) qs = by_test (test p) (passing_append test ps qs)
  where
    by_test : (b : Bool) → passing test (ps ++ qs) ≡ passing test ps + passing test qs
        → cond b (suc (passing test (ps ++ qs))) (passing test (ps ++ qs)) ≡ cond b (suc (passing test ps)) (passing test ps) + passing test qs
    by_test true e = omega (arith, e)
    by_test false e = e

-- one more pair
pub passing_one : (test : model.Pair → Bool) (ps : List model.Pair) (p : model.Pair) → passing test (ps ++ p ∷ []) ≡ passing test ps + cond (test p) 1 0
unfolding passing
passing_one test ps p = passing_append test ps (p ∷ [])

-- one pair first
pub passing_first : (test : model.Pair → Bool) (p : model.Pair) (ps : List model.Pair) → passing test (p ∷ ps) ≡ passing test ps + cond (test p) 1 0
unfolding passing
passing_first test p ps = by_test (test p)
  where
    by_test : (b : Bool) → cond b (suc (passing test ps)) (passing test ps) ≡ passing test ps + cond b 1 0
    by_test true = omega arith
    by_test false = omega arith

-- a pair passes exactly where more than none do
pub has_passing : (test : model.Pair → Bool) (ps : List model.Pair) → has_pair test ps ≡ nat_lt 0 (passing test ps)
unfolding passing has_pair
has_passing test [] = refl
has_passing test (p ∷ ps) = by_test (test p) (has_passing test ps)
  where
    by_test : (b : Bool) → has_pair test ps ≡ nat_lt 0 (passing test ps)
        → (b || has_pair test ps) ≡ nat_lt 0 (cond b (suc (passing test ps)) (passing test ps))
    by_test true e = sym (lt-ltb 0 (suc (passing test ps)) (omega arith))
    by_test false e = e

-- one message to a destination is taken out: only that destination has fewer
pub pair_out : (m : ℕ) (to : Dest) (key : ℕ) (ps : List model.Pair)
    → passing (has_key key) (without (is_pair m to) ps) + cond (nat_eq (key_of to) key) (passing (is_pair m to) ps) 0 ≡ passing (has_key key) ps
unfolding passing without
pair_out m to key [] = none (nat_eq (key_of to) key)
  where
    none : (c : Bool) → 0 + cond c 0 0 ≡ 0
    none true = refl
    none false = refl
pair_out m to key (p ∷ ps) =
    by_tests (is_pair m to p) (has_key key p) (nat_eq (key_of to) key)
    (λ e. ap (λ (k : ℕ). nat_eq k key) (same_key p.to to ((and_parts (nat_eq p.message m) (same_dest p.to to) e).1))) refl (pair_out m to key ps)
  where
    by_tests : (t q c : Bool) → (t ≡ true → q ≡ c) → has_key key p ≡ q
        → passing (has_key key) (without (is_pair m to) ps) + cond c (passing (is_pair m to) ps) 0 ≡ passing (has_key key) ps
        → passing (has_key key) (cond t (without (is_pair m to) ps) (p ∷ without (is_pair m to) ps)) + cond c (cond t (suc (passing (is_pair m to) ps)) (passing (is_pair m to) ps)) 0
        ≡ cond q (suc (passing (has_key key) ps)) (passing (has_key key) ps)
    by_tests true true true same is e = omega (arith, e)
    by_tests true false false same is e = e
    by_tests true true false same is e = let no : true ≡ false = same refl in cc
    by_tests true false true same is e = let no : false ≡ true = same refl in cc
    by_tests false true true same is e = rw is (omega (arith, e))
    by_tests false true false same is e = rw is (omega (arith, e))
    by_tests false false true same is e = rw is e
    by_tests false false false same is e = rw is e

-- all to a destination are taken out: it has none, and the others have theirs
pub dest_out : (to : Dest) (key : ℕ) (ps : List model.Pair) → key_of to < 65792
    → passing (has_key key) (without (goes_to to) ps) ≡ cond (nat_eq (key_of to) key) 0 (passing (has_key key) ps)
unfolding passing without
dest_out to key [] small = none (nat_eq (key_of to) key) 0
  where
    none : (c : Bool) (z : ℕ) → z ≡ cond c z z
    none true z = refl
    none false z = refl
dest_out to key (p ∷ ps) small =
    by_tests (same_dest p.to to) (has_key key p) (nat_eq (key_of to) key)
    (λ e. ap (λ (k : ℕ). nat_eq k key) (same_key p.to to e))
    (λ e. sym (key_test p.to to small) ∙ ap (λ (k : ℕ). nat_eq (key_of p.to) k) (eqb-true (key_of to) key e))
    refl (dest_out to key ps small)
  where
    by_tests : (t q c : Bool) → (t ≡ true → q ≡ c) → (c ≡ true → t ≡ q) → has_key key p ≡ q
        → passing (has_key key) (without (goes_to to) ps) ≡ cond c 0 (passing (has_key key) ps)
        → passing (has_key key) (cond t (without (goes_to to) ps) (p ∷ without (goes_to to) ps)) ≡ cond c 0 (cond q (suc (passing (has_key key) ps)) (passing (has_key key) ps))
    by_tests true true true same other is e = e
    by_tests true false false same other is e = e
    by_tests true true false same other is e = let no : true ≡ false = same refl in cc
    by_tests true false true same other is e = let no : false ≡ true = same refl in cc
    by_tests false true true same other is e = let no : false ≡ true = other refl in cc
    by_tests false true false same other is e = rw is (ap suc e)
    by_tests false false true same other is e = rw is e
    by_tests false false false same other is e = rw is e

-- the pairs to a destination are those to its number
pub by_key : (to : Dest) (ps : List model.Pair) → key_of to < 65792 → passing (has_key (key_of to)) ps ≡ passing (goes_to to) ps
by_key to ps small = ap (λ (test : model.Pair → Bool). passing test ps) (λ i p. (key_test p.to to small) i)
