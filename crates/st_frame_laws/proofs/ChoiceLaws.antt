-- What holds of each part of a choice, or of a list, holds of the whole.
use Rattle.std.proofs.Common.{◌≡◌, refl, sym, subst, ℕ, Bool, true, false, cond, zero, suc, nat_lt, nat_le, List, [], ◌∷◌, ◌++◌, inl, inr}
use Rattle.std.proofs.lemmas.Bool.{eqb-true}
use Rattle.std.specs.Prelude.{not, Option, Some, None, ◌&&◌, ◌||◌, nat_eq}
use Rattle.std.specs.Option.{IfSome}
use Rattle.std.specs.List.{AllByRecursion as Each, flat_map, slice_get}
use Rattle.st_counts.specs.Counts.{Has}
use Rattle.st_protocol.specs.Keeping.{given, or_else, or_last, greatest, greatest_last, higher, open_if, from, joined}
use Rattle.st_protocol.specs.Step.{first_below, all_below, to_list}

-- a test that is false
pub not_false : (a b : ℕ) → not (nat_eq a b) ≡ false → a ≡ b
not_false a b e = by (nat_eq a b) refl e
  where
    by : (c : Bool) → nat_eq a b ≡ c → not c ≡ false → a ≡ b
    by true is e = eqb-true a b is
    by false is e = absurd (let no : true ≡ false = e in cc)

-- of either of two
pub either : {A : Type 0} (Q : A → Type 0) (b : Bool) (x y : A) → Q x → Q y → Q (cond b x y)
either Q true x y h k = h
either Q false x y h k = k

-- of what an option chooses, where Q holds of what it may have
pub chosen : {A B : Type 0} (G : A → Type 0) (Q : B → Type 0) (x : Option A) (none : B) (some : A → B) → IfSome x G → Q none → ((a : A) → G a → Q (some a)) →
    Q (given x none some)
chosen G Q None none some g h k = h
chosen G Q (Some a) none some g h k = k a g

-- so, whatever the option has
pub chosen_any : {A B : Type 0} (Q : B → Type 0) (x : Option A) (none : B) (some : A → B) → Q none → ((a : A) → Q (some a)) → Q (given x none some)
chosen_any Q None none some h k = h
chosen_any Q (Some a) none some h k = k a

module _ {A : Type 0} (G : A → Type 0) where
  -- ---- of what an option has

  -- of either of two options
  pub either_has : (b : Bool) (x y : Option A) → IfSome x G → IfSome y G → IfSome (cond b x y) G
  either_has true x y h k = h
  either_has false x y h k = k

  -- of what is kept while a test holds
  pub open_has : (b : Bool) (x : Option A) → IfSome x G → IfSome (open_if b x) G
  open_has true x h = h
  open_has false x h = tt

  -- of what is kept from a key on
  pub from_has : (key : A → ℕ) (n : ℕ) (x : Option A) → IfSome x G → IfSome (from key n x) G
  from_has key n None h = tt
  from_has key n (Some x) h = either_has (nat_le n (key x)) (Some x) None h tt

  -- of the first
  pub first_has : (x y : Option A) → IfSome x G → IfSome y G → IfSome (or_else x y) G
  first_has None y h k = k
  first_has (Some a) y h k = h

  -- of the last
  pub last_has : (x y : Option A) → IfSome x G → IfSome y G → IfSome (or_last x y) G
  last_has x None h k = h
  last_has x (Some a) h k = k

  -- of the greater
  pub greatest_has : (key : A → ℕ) (x y : Option A) → IfSome x G → IfSome y G → IfSome (greatest key x y) G
  greatest_has key None y h k = k
  greatest_has key (Some x) None h k = h
  greatest_has key (Some x) (Some y) h k = either_has (nat_lt (key x) (key y)) (Some y) (Some x) k h

  -- of the greater, of equals the last
  pub greatest_last_has : (key : A → ℕ) (x y : Option A) → IfSome x G → IfSome y G → IfSome (greatest_last key x y) G
  greatest_last_has key None y h k = k
  greatest_last_has key (Some x) None h k = h
  greatest_last_has key (Some x) (Some y) h k = either_has (nat_lt (key y) (key x)) (Some x) (Some y) h k

  -- of the higher
  pub higher_has : (view local : A → ℕ) (x y : Option A) → IfSome x G → IfSome y G → IfSome (higher view local x y) G
  higher_has view local None y h k = k
  higher_has view local (Some x) None h k = h
  higher_has view local (Some x) (Some y) h k =
      either_has (nat_lt (view x) (view y) || (nat_eq (view x) (view y) && nat_lt (local x) (local y))) (Some y) (Some x) k h

  -- of what is picked of the lowest number that gives something
  pub first_below_has : (pick : ℕ → Option A) (k : ℕ) → ((i : ℕ) → IfSome (pick i) G) → IfSome (first_below pick k) G
  unfolding first_below
  first_below_has pick zero h = tt
  first_below_has pick (suc k) h = first_has (first_below pick k) (pick k) (first_below_has pick k h) (h k)

  -- ---- of each of a list

  -- of two lists
  pub append_all : (xs ys : List A) → Each G xs → Each G ys → Each G (xs ++ ys)
  append_all [] ys h k = k
  append_all (x ∷ xs) ys h k = (h.0, append_all xs ys h.1 k)

  -- of each of two lists
  pub append_parts : (xs ys : List A) → Each G (xs ++ ys) → Each G xs × Each G ys
  append_parts [] ys h = (tt, h)
  append_parts (x ∷ xs) ys h = let parts = append_parts xs ys h.1 in ((h.0, parts.0), parts.1)

  -- of one element, or none
  pub to_list_all : (x : Option A) → IfSome x G → Each G (to_list x)
  to_list_all None h = tt
  to_list_all (Some a) h = (h, tt)

  -- of the lists of the numbers below one
  pub all_below_all : (f : ℕ → List A) (k : ℕ) → ((i : ℕ) → Each G (f i)) → Each G (all_below f k)
  unfolding all_below
  all_below_all f zero h = tt
  all_below_all f (suc k) h = append_all (all_below f k) (f k) (all_below_all f k h) (h k)

  -- of lists joined
  pub joined_all : (xss : List (List A)) → Each (Each G) xss → Each G (joined xss)
  unfolding joined
  joined_all [] h = tt
  joined_all (xs ∷ more) h = append_all xs (joined more) h.0 (joined_all more h.1)

  -- of what each element gives
  pub flat_map_all : {X : Type 0} (H : X → Type 0) (f : X → List A) → ((x : X) → H x → Each G (f x)) → (xs : List X) → Each H xs → Each G (flat_map f xs)
  flat_map_all H f give [] h = tt
  flat_map_all H f give (x ∷ xs) h = append_all (f x) (flat_map f xs) (give x h.0) (flat_map_all H f give xs h.1)

  -- of an element at its place
  pub found_has : (xs : List A) (n : ℕ) → Each G xs → IfSome (slice_get xs n) G
  found_has [] n h = tt
  found_has (x ∷ xs) zero h = h.0
  found_has (x ∷ xs) (suc n) h = found_has xs n h.1

-- of what a test lets through
pub when_has : {A : Type 0} (G : A → Type 0) (b : Bool) (x : A) → (b ≡ true → G x) → IfSome (cond b (Some x) None) G
when_has G true x h = h refl
when_has G false x h = tt

-- of what an option has, where nothing is asked
pub if_any : {A : Type 0} (x : Option A) → IfSome x (λ a. Unit {0})
if_any None = tt
if_any (Some a) = tt

-- of each of a list, where nothing is asked
pub each_any : {A : Type 0} (xs : List A) → Each (λ (x : A). Unit {0}) xs
each_any [] = tt
each_any (x ∷ xs) = (tt, each_any xs)

-- of each of a list, where it follows
pub each_weaker : {A : Type 0} (G H : A → Type 0) → ((x : A) → G x → H x) → (xs : List A) → Each G xs → Each H xs
each_weaker G H f [] h = tt
each_weaker G H f (x ∷ xs) h = (f x h.0, each_weaker G H f xs h.1)

-- of an element that a list has
pub each_has : {A : Type 0} (P : A → Type 0) (xs : List A) (x : A) → Each P xs → Has x xs → P x
each_has P [] x h among = absurd among
each_has P (y ∷ ys) x h (inl e) = subst P (sym e) h.0
each_has P (y ∷ ys) x h (inr among) = each_has P ys x h.1 among

-- what stands at a place, the list has
pub has_at : {A : Type 0} (xs : List A) (i : ℕ) (x : A) → slice_get xs i ≡ Some x → Has x xs
has_at [] i x e = absurd (let no : None ≡ Some x = e in cc)
has_at (y ∷ ys) zero x e = inl (let is : Some y ≡ Some x = e in cc)
has_at (y ∷ ys) (suc i) x e = inr (has_at ys i x e)
