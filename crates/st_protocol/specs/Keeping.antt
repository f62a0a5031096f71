-- Ways to keep one of two, to drop what is kept, and to gather over a list.
use Rattle.std.specs.Prelude.{ℕ, ◌+◌, ◌-◌, max, Bool, cond, nat_eq, nat_lt, nat_le, ◌&&◌, ◌||◌, Option, Some, None, List, [], ◌∷◌, slice_get}
use Rattle.std.specs.List.{flat_map}

-- ---- one of two

-- what is found, or else this
abbrev pub given : {A B : Type 0} → Option A → B → (A → B) → B
given None b f = b
given (Some a) b f = f a

-- the first, where it is there
abbrev pub or_else : {A : Type 0} → Option A → Option A → Option A
or_else None y = y
or_else (Some x) y = Some x

-- the last, where it is there
abbrev pub or_last : {A : Type 0} → Option A → Option A → Option A
or_last x None = x
or_last x (Some y) = Some y

-- the greater, of equals the first
abbrev pub greatest : {A : Type 0} → (A → ℕ) → Option A → Option A → Option A
greatest key None y = y
greatest key (Some x) None = Some x
greatest key (Some x) (Some y) = cond (nat_lt (key x) (key y)) (Some y) (Some x)

-- the greater, of equals the last
abbrev pub greatest_last : {A : Type 0} → (A → ℕ) → Option A → Option A → Option A
greatest_last key None y = y
greatest_last key (Some x) None = Some x
greatest_last key (Some x) (Some y) = cond (nat_lt (key y) (key x)) (Some x) (Some y)

-- the one of the higher view and, at one view, of the higher local view; of equals the first
abbrev pub higher : {A : Type 0} → (A → ℕ) → (A → ℕ) → Option A → Option A → Option A
higher view local None y = y
higher view local (Some x) None = Some x
higher view local (Some x) (Some y) = cond (nat_lt (view x) (view y) || (nat_eq (view x) (view y) && nat_lt (local x) (local y))) (Some y) (Some x)

-- ---- dropped

-- what is kept while b holds
abbrev pub open_if : {A : Type 0} → Bool → Option A → Option A
open_if b x = cond b x None

-- what is kept while its key is at least n
abbrev pub from : {A : Type 0} → (A → ℕ) → ℕ → Option A → Option A
from key n None = None
from key n (Some x) = cond (nat_le n (key x)) (Some x) None

-- ---- over a list

-- what is picked of each, put together in order
unfoldable pub gathered : {X A : Type 0} → (A → A → A) → A → (X → A) → List X → A
gathered join none pick [] = none
gathered join none pick (x ∷ xs) = join (pick x) (gathered join none pick xs)

-- the first, the last, the greatest and the highest that is picked
abbrev pub first_of : {X A : Type 0} → (X → Option A) → List X → Option A
first_of pick xs = gathered or_else None pick xs

-- the last that is picked
abbrev pub last_of : {X A : Type 0} → (X → Option A) → List X → Option A
last_of pick xs = gathered or_last None pick xs

-- the greatest that is picked, of equals the first
abbrev pub greatest_of : {X A : Type 0} → (A → ℕ) → (X → Option A) → List X → Option A
greatest_of key pick xs = gathered (greatest key) None pick xs

-- the greatest that is picked, of equals the last
abbrev pub last_greatest_of : {X A : Type 0} → (A → ℕ) → (X → Option A) → List X → Option A
last_greatest_of key pick xs = gathered (greatest_last key) None pick xs

-- the highest that is picked, of equals the first
abbrev pub highest_of : {X A : Type 0} → (A → ℕ) → (A → ℕ) → (X → Option A) → List X → Option A
highest_of view local pick xs = gathered (higher view local) None pick xs

-- the greatest number that is picked, and how many pass a test
abbrev pub most_of : {X : Type 0} → (X → ℕ) → List X → ℕ
most_of pick xs = gathered max 0 pick xs

-- how many pass a test
abbrev pub count_of : {X : Type 0} → (X → Bool) → List X → ℕ
count_of test xs = gathered ◌+◌ 0 (λ x. cond (test x) 1 0) xs

-- lists joined in order
unfoldable pub joined : {A : Type 0} → List (List A) → List A
joined xss = flat_map (λ xs. xs) xss

-- element n, from 1
abbrev pub numbered : {A : Type 0} → List A → ℕ → Option A
numbered xs n = cond (nat_eq n 0) None (slice_get xs (n - 1))
