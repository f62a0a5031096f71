-- Laws on how many elements pass a test.
use Rattle.std.proofs.Common.{◌≡◌, ℕ, ◌+◌, ◌≤◌, ◌<◌, Bool, true, false, cond, not, ◌&&◌, ◌||◌, IsTrue, List, [], ◌∷◌, ◌++◌, length, filter, refl, sym, subst, inl, inr, arith}
use Rattle.std.specs.Prelude.{count_by}
use Rattle.std.proofs.lemmas.List.Recursion.{is_count_by}
use Rattle.st_counts.specs.Counts.{one_if, count, Has, Found}

-- a test counts at most one
pub one_if-le : (b : Bool) → one_if b ≤ 1
one_if-le true = omega arith
one_if-le false = omega arith

-- what passes counts one
pub one_if-true : (b : Bool) → IsTrue b → one_if b ≡ 1
one_if-true true t = refl
one_if-true false t = cc

-- what counts one passes
pub one_if-passes : (b : Bool) → 1 ≤ one_if b → IsTrue b
one_if-passes true h = refl
one_if-passes false h = absurd (omega arith)

-- where one test follows from another it counts no less
pub one_if-mono : (a b : Bool) → (IsTrue a → IsTrue b) → one_if a ≤ one_if b
one_if-mono false b h = omega arith
one_if-mono true true h = omega arith
one_if-mono true false h = absurd (let no : false ≡ true = h refl in cc)

-- two tests that exclude each other count at most one
pub one_if-disjoint : (a b : Bool) → (IsTrue a → IsTrue b → ⊥) → one_if a + one_if b ≤ 1
one_if-disjoint false b h = omega (arith, one_if-le b)
one_if-disjoint true false h = omega arith
one_if-disjoint true true h = absurd (h refl refl)

-- two tests count at most one more than both together
pub one_if-both : (a b : Bool) → one_if a + one_if b ≤ 1 + one_if (a && b)
one_if-both false b = omega (arith, one_if-le b)
one_if-both true b = omega arith

-- a test and its opposite count one
pub one_if-not : (b : Bool) → one_if b + one_if (not b) ≡ 1
one_if-not true = omega arith
one_if-not false = omega arith

-- "if the one then the other" and the one count one more than both together
pub one_if-implies : (a b : Bool) → one_if (not a || b) + one_if a ≡ 1 + one_if (a && b)
one_if-implies true b = omega arith
one_if-implies false b = refl

-- no more pass than there are
pub count-le : {X : Type 0} (p : X → Bool) (xs : List X) → count p xs ≤ length xs
count-le p [] = omega arith
count-le p (x ∷ xs) = omega (arith, one_if-le (p x), count-le p xs)

-- what passes in two lists
pub count-append : {X : Type 0} (p : X → Bool) (xs ys : List X) → count p (xs ++ ys) ≡ count p xs + count p ys
count-append p [] ys = omega arith
count-append p (x ∷ xs) ys = omega (arith, count-append p xs ys)

-- a weaker test counts no less
pub count-mono : {X : Type 0} (p q : X → Bool) (xs : List X) → ((x : X) → Has x xs → IsTrue (p x) → IsTrue (q x)) → count p xs ≤ count q xs
count-mono p q [] h = omega arith
count-mono p q (x ∷ xs) h =
    omega (arith, one_if-mono (p x) (q x) (h x (inl refl)), count-mono p q xs (λ y among. h y (inr among)))

-- tests that agree on each element count the same
pub count-same : {X : Type 0} (p q : X → Bool) (xs : List X) → ((x : X) → Has x xs → p x ≡ q x) → count p xs ≡ count q xs
count-same p q [] h = refl
count-same p q (x ∷ xs) h =
    let head : p x ≡ q x = h x (inl refl) in
    let rest : count p xs ≡ count q xs = count-same p q xs (λ y among. h y (inr among)) in
    cc

-- tests that no element passes both count at most the length
pub count-disjoint : {X : Type 0} (p q : X → Bool) (xs : List X) → ((x : X) → Has x xs → IsTrue (p x) → IsTrue (q x) → ⊥) → count p xs + count q xs ≤ length xs
count-disjoint p q [] h = omega arith
count-disjoint p q (x ∷ xs) h =
    omega (arith, one_if-disjoint (p x) (q x) (h x (inl refl)), count-disjoint p q xs (λ y among. h y (inr among)))

-- what two tests count above the length passes both
pub count-both : {X : Type 0} (p q : X → Bool) (xs : List X) → count p xs + count q xs ≤ length xs + count (λ x. p x && q x) xs
count-both p q [] = omega arith
count-both p q (x ∷ xs) = omega (arith, one_if-both (p x) (q x), count-both p q xs)

-- a test and its opposite count each element once
pub count-not : {X : Type 0} (p : X → Bool) (xs : List X) → count p xs + count (λ x. not (p x)) xs ≡ length xs
count-not p [] = omega arith
count-not p (x ∷ xs) = omega (arith, one_if-not (p x), count-not p xs)

-- "if the one then the other" and the one count the length, and what passes both once more
pub count-implies : {X : Type 0} (p q : X → Bool) (xs : List X) → count (λ x. not (p x) || q x) xs + count p xs ≡ length xs + count (λ x. p x && q x) xs
count-implies p q [] = refl
count-implies p q (x ∷ xs) = omega (arith, one_if-implies (p x) (q x), count-implies p q xs)

-- where one test always holds, all pass
pub count-all : {X : Type 0} (p : X → Bool) (xs : List X) → ((x : X) → Has x xs → IsTrue (p x)) → count p xs ≡ length xs
count-all p [] h = refl
count-all p (x ∷ xs) h =
    omega (arith, one_if-true (p x) (h x (inl refl)), count-all p xs (λ y among. h y (inr among)))

-- where none passes, none is counted
pub count-none : {X : Type 0} (p : X → Bool) (xs : List X) → ((x : X) → Has x xs → ¬ IsTrue (p x)) → count p xs ≡ 0
count-none p [] h = refl
count-none p (x ∷ xs) h =
    omega (arith, one_if-disjoint (p x) true (λ passes t. h x (inl refl) passes), count-none p xs (λ y among. h y (inr among)))

-- where as many pass as there are, each passes
pub count-full : {X : Type 0} (p : X → Bool) (xs : List X) → length xs ≤ count p xs → (x : X) → Has x xs → IsTrue (p x)
count-full p [] all x among = absurd among
count-full p (y ∷ ys) all x (inl same) =
    subst (λ z. IsTrue (p z)) (sym same) (one_if-passes (p y) (omega (arith, count-le p ys)))
count-full p (y ∷ ys) all x (inr among) =
    count-full p ys (omega (arith, one_if-le (p y))) x among

-- a count of what a filter keeps
pub count-filter : {X : Type 0} (p q : X → Bool) (xs : List X) → count p (filter q xs) ≡ count (λ x. q x && p x) xs
count-filter p q [] = refl
count-filter p q (x ∷ xs) = filtered (q x) (count-filter p q xs)
  where
    filtered : (b : Bool) → count p (filter q xs) ≡ count (λ y. q y && p y) xs → count p (cond b (x ∷ filter q xs) (filter q xs)) ≡ one_if (b && p x) + count (λ y. q y && p y) xs
    filtered true e = omega (arith, e)
    filtered false e = omega (arith, e)

-- a filter keeps as many as pass
pub length-filter : {X : Type 0} (p : X → Bool) (xs : List X) → length (filter p xs) ≡ count p xs
length-filter p [] = refl
length-filter p (x ∷ xs) = filtered (p x) (length-filter p xs)
  where
    filtered : (b : Bool) → length (filter p xs) ≡ count p xs → length (cond b (x ∷ filter p xs) (filter p xs)) ≡ one_if b + count p xs
    filtered true e = omega (arith, e)
    filtered false e = omega (arith, e)

-- the first element is found, or one of the others
found_by : {X : Type 0} (p : X → Bool) (x : X) (xs : List X) (b : Bool) → p x ≡ b → (0 < count p xs → Found p xs) → 0 < one_if b + count p xs → Found p (x ∷ xs)
found_by p x xs true e later h = record { element = x; among = inl refl; passes = e }
found_by p x xs false e later h =
    let rest : Found p xs = later (omega arith) in
    record { element = rest.element; among = inr rest.among; passes = rest.passes }

-- what counts at all is found
pub found : {X : Type 0} (p : X → Bool) (xs : List X) → 0 < count p xs → Found p xs
found p [] h = absurd (omega arith)
found p (x ∷ xs) h = found_by p x xs (p x) refl (found p xs) h

-- the count is that of std, which code's chains of iterators answer
pub count_is_count_by : {X : Type 0} (p : X → Bool) (xs : List X) → count p xs ≡ count_by p xs
count_is_count_by {X} p xs = is_count_by (count p) p refl (λ x ys. one_more (p x) (count p ys)) xs
  where
    one_more : (b : Bool) (n : ℕ) → one_if b + n ≡ cond b (1 + n) n
    one_more true n = refl
    one_more false n = omega arith
