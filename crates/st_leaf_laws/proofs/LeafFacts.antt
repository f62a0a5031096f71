-- Statements that are made: with leaves that count up, so that one leaf is of one statement, at one place.
use Rattle.std.proofs.Common.{◌≡◌, ◌≤◌, ℕ, ◌+◌, zero, suc, List, [], ◌∷◌, ◌++◌, sym, subst, refl, ◌∙◌, ap, arith, inl, inr}
use Rattle.std.specs.Prelude.{◌⊎◌, Some, None, slice_get, take}
use Rattle.std.specs.List.{AllByRecursion as Each}
use Rattle.st_words.specs.declared.statement.Statement.{Statement}
use Rattle.st_message.specs.declared.change.Change.{Change}
use Rattle.st_message.specs.declared.change.Change.TheVariants.{Made}
use Rattle.st_message.specs.declared.made.MadeSeal.{MadeSeal}
use Rattle.st_counts.specs.Counts.{Has}
use Rattle.st_counts.proofs.MemberLaws.{has-left, has-right, has-append}
use Rattle.st_protocol.specs.Keeping.{gathered, count_of}
use Rattle.st_protocol.specs.Step.{one_if}
use Rattle.st_protocol.specs.Questions.{is_made}
use Rattle.st_frame_laws.proofs.ChoiceLaws.{has_at}

-- what a change makes has the next leaf
abbrev pub IsNext : ℕ → Change → Type 0
IsNext n (Made leaf s) = leaf ≡ n
IsNext n _ = Unit {0}

-- statements are made with the leaves from k on, in order
abbrev pub InOrder : ℕ → List Change → Type 0
InOrder k [] = Unit {0}
InOrder k (x ∷ xs) = IsNext k x × InOrder (k + one_if (is_made x)) xs

-- the statement is made with the leaf
abbrev pub IsMade : ℕ → Statement → List Change → Type 0
IsMade leaf s xs = Has (Made leaf s) xs

-- P holds of the statement that a change makes, and of each that is made
abbrev pub OfMade : (Statement → Type 0) → Change → Type 0
OfMade P (Made leaf s) = P s
OfMade P _ = Unit {0}

abbrev pub EachMade : (Statement → Type 0) → List Change → Type 0
EachMade P xs = (leaf : ℕ) (s : Statement) → IsMade leaf s xs → P s

-- how many statements are made
abbrev pub made_count : List Change → ℕ
made_count xs = count_of is_made xs

-- ---- one change

-- of one change that is made twice
pub made_is : (l m : ℕ) (s t : Statement) → Made l s ≡ Made m t → (l ≡ m) × (s ≡ t)
made_is l m s t e = (cc, cc)

pub some_is : {A : Type 0} (x y : A) → Some x ≡ Some y → x ≡ y
some_is x y e = cc

-- the leaf of a change that comes next, and that it uses one
next_is : (k leaf : ℕ) (s : Statement) (x : Change) → IsNext k x → Made leaf s ≡ x → leaf ≡ k
next_is k leaf s x h e = subst (IsNext k) (sym e) h

uses_one : (leaf : ℕ) (s : Statement) (x : Change) → Made leaf s ≡ x → one_if (is_made x) ≡ 1
uses_one leaf s x e = ap (λ (c : Change). one_if (is_made c)) (sym e)

-- ---- one leaf

-- among leaves from k on none is below
from_least : (k leaf : ℕ) (s : Statement) (xs : List Change) → InOrder k xs → IsMade leaf s xs → k ≤ leaf
from_least k leaf s [] h m = absurd m
from_least k leaf s (x ∷ xs) h (inl e) = let is = next_is k leaf s x h.0 e in omega (arith, is)
from_least k leaf s (x ∷ xs) h (inr m) = let more = from_least (k + one_if (is_made x)) leaf s xs h.1 m in omega (arith, more)

-- the leaf of the first change isn't used again
not_again : (k leaf : ℕ) (s t : Statement) (x : Change) (xs : List Change) → InOrder k (x ∷ xs) → Made leaf s ≡ x → IsMade leaf t xs → ⊥
not_again k leaf s t x xs h e m =
    let is = next_is k leaf s x h.0 e in
    let one = uses_one leaf s x e in
    let more = from_least (k + one_if (is_made x)) leaf t xs h.1 m in
    omega (arith, is, one, more)

-- One leaf is of one statement,
pub one_statement : (k leaf : ℕ) (s t : Statement) (xs : List Change) → InOrder k xs → IsMade leaf s xs → IsMade leaf t xs → s ≡ t
one_statement k leaf s t [] h m n = absurd m
one_statement k leaf s t (x ∷ xs) h (inl e) (inl f) = (made_is leaf leaf s t (e ∙ sym f)).1
one_statement k leaf s t (x ∷ xs) h (inl e) (inr n) = absurd (not_again k leaf s t x xs h e n)
one_statement k leaf s t (x ∷ xs) h (inr m) (inl f) = absurd (not_again k leaf t s x xs h f m)
one_statement k leaf s t (x ∷ xs) h (inr m) (inr n) = one_statement (k + one_if (is_made x)) leaf s t xs h.1 m n

-- and at one place;
pub one_place : (k leaf : ℕ) (s t : Statement) (xs : List Change) (i j : ℕ) → InOrder k xs → slice_get xs i ≡ Some (Made leaf s) → slice_get xs j ≡ Some (Made leaf t) → i ≡ j
one_place k leaf s t [] i j h e f = absurd (let no : None ≡ Some (Made leaf s) = e in cc)
one_place k leaf s t (x ∷ xs) zero zero h e f = refl
one_place k leaf s t (x ∷ xs) zero (suc j) h e f = absurd (not_again k leaf s t x xs h (sym (some_is x (Made leaf s) e)) (has_at xs j (Made leaf t) f))
one_place k leaf s t (x ∷ xs) (suc i) zero h e f = absurd (not_again k leaf t s x xs h (sym (some_is x (Made leaf t) f)) (has_at xs i (Made leaf s) e))
one_place k leaf s t (x ∷ xs) (suc i) (suc j) h e f = ap (λ n. suc n) (one_place (k + one_if (is_made x)) leaf s t xs i j h.1 e f)

-- a leaf is how many statements were made before.
pub leaf_counts : (k leaf : ℕ) (s : Statement) (xs : List Change) (i : ℕ) → InOrder k xs → slice_get xs i ≡ Some (Made leaf s) → leaf ≡ k + made_count (take i xs)
unfolding gathered
leaf_counts k leaf s [] i h e = absurd (let no : None ≡ Some (Made leaf s) = e in cc)
leaf_counts k leaf s (x ∷ xs) zero h e = let is = next_is k leaf s x h.0 (sym (some_is x (Made leaf s) e)) in omega (arith, is)
leaf_counts k leaf s (x ∷ xs) (suc i) h e = let more = leaf_counts (k + one_if (is_made x)) leaf s xs i h.1 e in omega (arith, more)

-- ---- with more before or behind

pub made_before : (leaf : ℕ) (s : Statement) (xs ys : List Change) → IsMade leaf s xs → IsMade leaf s (xs ++ ys)
made_before leaf s xs ys m = has-left (Made leaf s) xs ys m

pub made_tail : (leaf : ℕ) (s : Statement) (xs ys : List Change) → IsMade leaf s ys → IsMade leaf s (xs ++ ys)
made_tail leaf s xs ys m = has-right (Made leaf s) xs ys m

-- the last
pub made_end : (leaf : ℕ) (s : Statement) (xs : List Change) → IsMade leaf s (xs ++ Made leaf s ∷ [])
made_end leaf s xs = made_tail leaf s xs (Made leaf s ∷ []) (inl refl)

-- what is made was made before, or it is the change
pub made_push : (leaf : ℕ) (s : Statement) (xs : List Change) (x : Change) → IsMade leaf s (xs ++ x ∷ []) → IsMade leaf s xs ⊎ (Made leaf s ≡ x)
made_push leaf s xs x m = by (has-append (Made leaf s) xs (x ∷ []) m)
  where
    by : IsMade leaf s xs ⊎ IsMade leaf s (x ∷ []) → IsMade leaf s xs ⊎ (Made leaf s ≡ x)
    by (inl a) = inl a
    by (inr (inl e)) = inr e
    by (inr (inr none)) = absurd none

-- what holds of each, and of what a change makes, holds with the change
pub each_made_push : (P : Statement → Type 0) (xs : List Change) (x : Change) → EachMade P xs → OfMade P x → EachMade P (xs ++ x ∷ [])
each_made_push P xs x h g leaf s m = by (made_push leaf s xs x m)
  where
    by : IsMade leaf s xs ⊎ (Made leaf s ≡ x) → P s
    by (inl a) = h leaf s a
    by (inr e) = subst (OfMade P) (sym e) g

-- leaves in order, and the next
pub order_push : (k : ℕ) (xs : List Change) (x : Change) → InOrder k xs → IsNext (k + made_count xs) x → InOrder k (xs ++ x ∷ [])
unfolding gathered
order_push k [] x o h = (subst (λ n. IsNext n x) (omega arith) h, tt)
order_push k (y ∷ xs) x o h = (o.0, order_push (k + one_if (is_made y)) xs x o.1 (subst (λ n. IsNext n x) (omega arith) h))

-- ---- entries of what was handed out

-- two entries of one party and one leaf are of one statement
abbrev pub Agree : MadeSeal → MadeSeal → Type 0
Agree x y = x.who ≡ y.who → x.leaf ≡ y.leaf → x.statement ≡ y.statement

-- each two
abbrev pub OneEach : List MadeSeal → Type 0
OneEach [] = Unit {0}
OneEach (x ∷ xs) = Each (Agree x) xs × OneEach xs

-- one more
pub one_more : (made : List MadeSeal) (y : MadeSeal) → OneEach made → Each (λ x. Agree x y) made → OneEach (made ++ y ∷ [])
one_more [] y o h = (tt, tt)
one_more (x ∷ xs) y o h = (push xs o.0 h.0, one_more xs y o.1 h.1)
  where
    push : (xs : List MadeSeal) → Each (Agree x) xs → Agree x y → Each (Agree x) (xs ++ y ∷ [])
    push [] e f = (f, tt)
    push (z ∷ zs) e f = (e.0, push zs e.1 f)
