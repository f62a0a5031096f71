-- What is gathered over a list, and what a fold that keeps it leaves.
use Rattle.std.proofs.Common.{◌≡◌, ℕ, ◌+◌, List, [], ◌∷◌, ◌++◌, refl, sym, ◌∙◌, ap, arith, append_assoc, append-nil}
use Rattle.std.specs.Prelude.{Option, Some, None, max}
use Rattle.std.specs.List.{fold, flat_map}
use Rattle.std.proofs.lemmas.Bool.Decides.{nat_tests}
use Rattle.std.proofs.lemmas.List.Concat.{flat_map-append}
use Rattle.st_protocol.specs.Keeping.{or_else, or_last, greatest, greatest_last, higher, gathered, joined}

-- A way to put two together, in which order doesn't matter for three, and none changes nothing.
pub record Gathers {A : Type 0} (join : A → A → A) (none : A) : Type 0 where
  pub left : (x : A) → join none x ≡ x
  pub right : (x : A) → join x none ≡ x
  pub assoc : (x y z : A) → join (join x y) z ≡ join x (join y z)

-- ---- the ways

-- the first of one is it
or_else-right : {A : Type 0} (x : Option A) → or_else x None ≡ x
or_else-right None = refl
or_else-right (Some a) = refl

-- the first of three
or_else-assoc : {A : Type 0} (x y z : Option A) → or_else (or_else x y) z ≡ or_else x (or_else y z)
or_else-assoc None y z = refl
or_else-assoc (Some a) y z = refl

-- The first of any number.
pub firsts : {A : Type 0} → Gathers {A = Option A} or_else None
firsts = record { left = λ x. refl; right = or_else-right; assoc = or_else-assoc }

-- the last of one is it
or_last-left : {A : Type 0} (x : Option A) → or_last None x ≡ x
or_last-left None = refl
or_last-left (Some a) = refl

-- the last of three
or_last-assoc : {A : Type 0} (x y z : Option A) → or_last (or_last x y) z ≡ or_last x (or_last y z)
or_last-assoc x y None = refl
or_last-assoc x y (Some a) = refl

-- The last of any number.
pub lasts : {A : Type 0} → Gathers {A = Option A} or_last None
lasts = record { left = or_last-left; right = λ x. refl; assoc = or_last-assoc }

-- the greatest of one is it
greatest-right : {A : Type 0} (key : A → ℕ) (x : Option A) → greatest key x None ≡ x
greatest-right key None = refl
greatest-right key (Some a) = refl

-- the greatest of three
greatest-assoc : {A : Type 0} (key : A → ℕ) (x y z : Option A) → greatest key (greatest key x y) z ≡ greatest key x (greatest key y z)
greatest-assoc key None y z = refl
greatest-assoc key (Some a) None z = refl
greatest-assoc key (Some a) (Some b) None = grind (arith, nat_tests)
greatest-assoc key (Some a) (Some b) (Some c) = grind (arith, nat_tests)

-- The greatest of any number, of equals the first.
pub greatests : {A : Type 0} (key : A → ℕ) → Gathers {A = Option A} (greatest key) None
greatests key = record { left = λ x. refl; right = greatest-right key; assoc = greatest-assoc key }

-- the greatest of one is it, of equals the last too
greatest_last-right : {A : Type 0} (key : A → ℕ) (x : Option A) → greatest_last key x None ≡ x
greatest_last-right key None = refl
greatest_last-right key (Some a) = refl

-- the greatest of three, of equals the last
greatest_last-assoc : {A : Type 0} (key : A → ℕ) (x y z : Option A) →
    greatest_last key (greatest_last key x y) z ≡ greatest_last key x (greatest_last key y z)
greatest_last-assoc key None y z = refl
greatest_last-assoc key (Some a) None z = refl
greatest_last-assoc key (Some a) (Some b) None = grind (arith, nat_tests)
greatest_last-assoc key (Some a) (Some b) (Some c) = grind (arith, nat_tests)

-- The greatest of any number, of equals the last.
pub last_greatests : {A : Type 0} (key : A → ℕ) → Gathers {A = Option A} (greatest_last key) None
last_greatests key = record { left = λ x. refl; right = greatest_last-right key; assoc = greatest_last-assoc key }

-- the highest of one is it
higher-right : {A : Type 0} (view local : A → ℕ) (x : Option A) → higher view local x None ≡ x
higher-right view local None = refl
higher-right view local (Some a) = refl

-- the highest of three
higher-assoc : {A : Type 0} (view local : A → ℕ) (x y z : Option A) →
    higher view local (higher view local x y) z ≡ higher view local x (higher view local y z)
higher-assoc view local None y z = refl
higher-assoc view local (Some a) None z = refl
higher-assoc view local (Some a) (Some b) None = grind (arith, nat_tests)
higher-assoc view local (Some a) (Some b) (Some c) = grind (arith, nat_tests)

-- The highest of any number.
pub highers : {A : Type 0} (view local : A → ℕ) → Gathers {A = Option A} (higher view local) None
highers view local = record { left = λ x. refl; right = higher-right view local; assoc = higher-assoc view local }

-- The greatest number.
pub mosts : Gathers max 0
mosts = record { left = λ x. omega arith; right = λ x. omega arith; assoc = λ x y z. omega arith }

-- The sum.
pub sums : Gathers ◌+◌ 0
sums = record { left = λ x. omega arith; right = λ x. omega arith; assoc = λ x y z. omega arith }

-- Lists one after another.
pub lists : {A : Type 0} → Gathers {A = List A} ◌++◌ []
lists = record { left = λ x. refl; right = append-nil; assoc = append_assoc }

-- ---- over lists

-- what two lists joined give
pub gathered-append : {X A : Type 0} {join : A → A → A} {none : A} → Gathers join none → (pick : X → A) (xs ys : List X) →
    gathered join none pick (xs ++ ys) ≡ join (gathered join none pick xs) (gathered join none pick ys)
unfolding gathered
gathered-append {join = join} {none = none} g pick [] ys = sym (g.left (gathered join none pick ys))
gathered-append {join = join} {none = none} g pick (x ∷ xs) ys =
    ap (join (pick x)) (gathered-append g pick xs ys) ∙ sym (g.assoc (pick x) (gathered join none pick xs) (gathered join none pick ys))

-- a fold whose every step puts what is picked to what it has
pub fold-gathers : {S X A : Type 0} {join : A → A → A} {none : A} → Gathers join none → (get : S → A) (step : S → X → S) (pick : X → A) →
    ((s : S) (x : X) → get (step s x) ≡ join (get s) (pick x)) → (s : S) (xs : List X) → get (fold step s xs) ≡ join (get s) (gathered join none pick xs)
unfolding gathered
fold-gathers g get step pick by s [] = sym (g.right (get s))
fold-gathers {join = join} {none = none} g get step pick by s (x ∷ xs) =
    fold-gathers g get step pick by (step s x) xs
    ∙ ap (λ z. join z (gathered join none pick xs)) (by s x)
    ∙ g.assoc (get s) (pick x) (gathered join none pick xs)

-- the same, begun where there is none
pub fold-gathered : {S X A : Type 0} {join : A → A → A} {none : A} → Gathers join none → (get : S → A) (step : S → X → S) (pick : X → A) →
    ((s : S) (x : X) → get (step s x) ≡ join (get s) (pick x)) → (s : S) → get s ≡ none → (xs : List X) → get (fold step s xs) ≡ gathered join none pick xs
fold-gathered {join = join} {none = none} g get step pick by s begun xs =
    fold-gathers g get step pick by s xs ∙ ap (λ z. join z (gathered join none pick xs)) begun ∙ g.left (gathered join none pick xs)

-- a fold whose every step leaves it
pub fold-keeps : {S X A : Type 0} (get : S → A) (step : S → X → S) → ((s : S) (x : X) → get (step s x) ≡ get s) → (s : S) (xs : List X) →
    get (fold step s xs) ≡ get s
fold-keeps get step by s [] = refl
fold-keeps get step by s (x ∷ xs) = fold-keeps get step by (step s x) xs ∙ by s x

-- two lists of lists joined
pub joined-append : {A : Type 0} (xss yss : List (List A)) → joined (xss ++ yss) ≡ joined xss ++ joined yss
unfolding joined
joined-append xss yss = flat_map-append (λ xs. xs) xss yss

-- one list more
pub joined-push : {A : Type 0} (xss : List (List A)) (xs : List A) → joined (xss ++ xs ∷ []) ≡ joined xss ++ xs
unfolding joined
joined-push xss xs = flat_map-append (λ ys. ys) xss (xs ∷ []) ∙ ap (λ ys. flat_map (λ zs. zs) xss ++ ys) (append-nil xs)
