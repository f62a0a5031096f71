-- Counting over lists: how many elements pass a test, what a list has, and majorities.
use Rattle.std.specs.Prelude.{◌≡◌, ℕ, ◌+◌, ◌*◌, ◌<◌, ◌≤◌, ◌⊎◌, zero, suc, Bool, true, false, IsTrue, List, [], ◌∷◌, ◌++◌, length}

-- 1 where the test passes, else 0
abbrev pub one_if : Bool → ℕ
one_if true = 1
one_if false = 0

-- how many elements pass the test
abbrev pub count : {X : Type 0} → (X → Bool) → List X → ℕ
count p [] = 0
count p (x ∷ xs) = one_if (p x) + count p xs

-- the list has this element
abbrev pub Has : {X : Type 0} → X → List X → Type 0
Has x [] = ⊥
Has x (y ∷ ys) = (x ≡ y) ⊎ Has x ys

-- each element has the property
abbrev pub AllOf : {X : Type 0} → (X → Type 0) → List X → Type 0
AllOf P [] = Unit {0}
AllOf P (x ∷ xs) = P x × AllOf P xs

-- no element stands twice
abbrev pub Distinct : {X : Type 0} → List X → Type 0
Distinct [] = Unit {0}
Distinct (x ∷ xs) = (¬ Has x xs) × Distinct xs

-- more than half of the members pass the test
abbrev pub HasMajority : {X : Type 0} → List X → (X → Bool) → Type 0
HasMajority members p = length members < 2 * count p members

-- all but at most `f` of the members pass the test
abbrev pub AllBut : {X : Type 0} → ℕ → List X → (X → Bool) → Type 0
AllBut f members p = length members ≤ f + count p members

-- an element of the list that passes the test
pub record Found {X : Type 0} (p : X → Bool) (xs : List X) : Type 0 where
  pub element : X
  pub among : Has element xs
  pub passes : IsTrue (p element)

-- an element of the list that passes both tests
pub record Shared {X : Type 0} (p q : X → Bool) (xs : List X) : Type 0 where
  pub element : X
  pub among : Has element xs
  pub first : IsTrue (p element)
  pub second : IsTrue (q element)

-- the numbers from 0 on, `m` of them
abbrev pub numbers_below : ℕ → List ℕ
numbers_below zero = []
numbers_below (suc m) = numbers_below m ++ m ∷ []
