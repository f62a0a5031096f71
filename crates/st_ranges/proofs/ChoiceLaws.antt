-- What holds of each part of a choice, or of a list, holds of the whole.
use Rattle.std.proofs.Common.{ℕ, Bool, true, false, cond, zero, suc, nat_lt, nat_le, List, [], ◌∷◌, ◌++◌}
use Rattle.std.specs.Prelude.{Option, Some, None, ◌&&◌, ◌||◌, nat_eq}
use Rattle.std.specs.Option.{IfSome}
use Rattle.std.specs.List.{AllByRecursion as Each, flat_map, slice_get}
use Rattle.st_words.specs.declared.statement.Item.{Item}
use Rattle.st_message.specs.declared.message.ReportBody.{ReportBody}
use Rattle.st_protocol.specs.Words.{index_of}
use Rattle.st_protocol.specs.Keeping.{given, or_else, or_last, greatest, greatest_last, higher, open_if, from, joined}
use Rattle.st_protocol.specs.Step.{first_below, all_below, to_list}
use Rattle.st_protocol.specs.Forced.{item_at}
use Rattle.st_protocol.specs.Collecting.{Found, found_in, precedes, better, best_found, best_item, items_in}

-- of either of two
pub either : {A : Type 0} (Q : A → Type 0) (b : Bool) (x y : A) → Q x → Q y → Q (cond b x y)
either Q true x y h k = h
either Q false x y h k = k

-- of what an option chooses, where Q holds of what it may have
pub chosen : {A B : Type 0} (G : A → Type 0) (Q : B → Type 0) (x : Option A) (none : B) (some : A → B) → IfSome x G → Q none → ((a : A) → G a → Q (some a)) →
    Q (given x none some)
chosen G Q None none some g h k = h
chosen G Q (Some a) none some g h k = k a g

-- so, whatever the option has
pub chosen_any : {A B : Type 0} (Q : B → Type 0) (x : Option A) (none : B) (some : A → B) → Q none → ((a : A) → Q (some a)) → Q (given x none some)
chosen_any Q None none some h k = h
chosen_any Q (Some a) none some h k = k a

module _ {A : Type 0} (G : A → Type 0) where
  -- ---- of what an option has

  -- of either of two options
  pub either_has : (b : Bool) (x y : Option A) → IfSome x G → IfSome y G → IfSome (cond b x y) G
  either_has true x y h k = h
  either_has false x y h k = k

  -- of what is kept while a test holds
  pub open_has : (b : Bool) (x : Option A) → IfSome x G → IfSome (open_if b x) G
  open_has true x h = h
  open_has false x h = tt

  -- of what is kept from a key on
  pub from_has : (key : A → ℕ) (n : ℕ) (x : Option A) → IfSome x G → IfSome (from key n x) G
  from_has key n None h = tt
  from_has key n (Some x) h = either_has (nat_le n (key x)) (Some x) None h tt

  -- of the first
  pub first_has : (x y : Option A) → IfSome x G → IfSome y G → IfSome (or_else x y) G
  first_has None y h k = k
  first_has (Some a) y h k = h

  -- of the last
  pub last_has : (x y : Option A) → IfSome x G → IfSome y G → IfSome (or_last x y) G
  last_has x None h k = h
  last_has x (Some a) h k = k

  -- of the greater
  pub greatest_has : (key : A → ℕ) (x y : Option A) → IfSome x G → IfSome y G → IfSome (greatest key x y) G
  greatest_has key None y h k = k
  greatest_has key (Some x) None h k = h
  greatest_has key (Some x) (Some y) h k = either_has (nat_lt (key x) (key y)) (Some y) (Some x) k h

  -- of the greater, of equals the last
  pub greatest_last_has : (key : A → ℕ) (x y : Option A) → IfSome x G → IfSome y G → IfSome (greatest_last key x y) G
  greatest_last_has key None y h k = k
  greatest_last_has key (Some x) None h k = h
  greatest_last_has key (Some x) (Some y) h k = either_has (nat_lt (key y) (key x)) (Some x) (Some y) h k

  -- of the higher
  pub higher_has : (view local : A → ℕ) (x y : Option A) → IfSome x G → IfSome y G → IfSome (higher view local x y) G
  higher_has view local None y h k = k
  higher_has view local (Some x) None h k = h
  higher_has view local (Some x) (Some y) h k =
      either_has (nat_lt (view x) (view y) || (nat_eq (view x) (view y) && nat_lt (local x) (local y))) (Some y) (Some x) k h

  -- of what is picked of the lowest number that gives something
  pub first_below_has : (pick : ℕ → Option A) (k : ℕ) → ((i : ℕ) → IfSome (pick i) G) → IfSome (first_below pick k) G
  unfolding first_below
  first_below_has pick zero h = tt
  first_below_has pick (suc k) h = first_has (first_below pick k) (pick k) (first_below_has pick k h) (h k)

  -- ---- of each of a list

  -- of two lists
  pub append_all : (xs ys : List A) → Each G xs → Each G ys → Each G (xs ++ ys)
  append_all [] ys h k = k
  append_all (x ∷ xs) ys h k = (h.0, append_all xs ys h.1 k)

  -- of each of two lists
  pub append_parts : (xs ys : List A) → Each G (xs ++ ys) → Each G xs × Each G ys
  append_parts [] ys h = (tt, h)
  append_parts (x ∷ xs) ys h = let parts = append_parts xs ys h.1 in ((h.0, parts.0), parts.1)

  -- of one element, or none
  pub to_list_all : (x : Option A) → IfSome x G → Each G (to_list x)
  to_list_all None h = tt
  to_list_all (Some a) h = (h, tt)

  -- of the lists of the numbers below one
  pub all_below_all : (f : ℕ → List A) (k : ℕ) → ((i : ℕ) → Each G (f i)) → Each G (all_below f k)
  unfolding all_below
  all_below_all f zero h = tt
  all_below_all f (suc k) h = append_all (all_below f k) (f k) (all_below_all f k h) (h k)

  -- of lists joined
  pub joined_all : (xss : List (List A)) → Each (Each G) xss → Each G (joined xss)
  unfolding joined
  joined_all [] h = tt
  joined_all (xs ∷ more) h = append_all xs (joined more) h.0 (joined_all more h.1)

  -- of what each element gives
  pub flat_map_all : {X : Type 0} (H : X → Type 0) (f : X → List A) → ((x : X) → H x → Each G (f x)) → (xs : List X) → Each H xs → Each G (flat_map f xs)
  flat_map_all H f give [] h = tt
  flat_map_all H f give (x ∷ xs) h = append_all (f x) (flat_map f xs) (give x h.0) (flat_map_all H f give xs h.1)

  -- of an element at its place
  pub found_has : (xs : List A) (n : ℕ) → Each G xs → IfSome (slice_get xs n) G
  found_has [] n h = tt
  found_has (x ∷ xs) zero h = h.0
  found_has (x ∷ xs) (suc n) h = found_has xs n h.1

-- ---- of the best of reports

-- of what was found
abbrev ItemHas : (Item → Type 0) → Option Found → Type 0
ItemHas G o = IfSome (given o None (λ f. Some f.item)) G

-- of the better
better_has : (G : Item → Type 0) (x y : Option Found) → ItemHas G x → ItemHas G y → ItemHas G (better x y)
better_has G None y h k = k
better_has G (Some x) None h k = h
better_has G (Some x) (Some y) h k = either (ItemHas G) (precedes y x) (Some y) (Some x) k h

-- What each report's item of a number has, the best of them has.
pub best_item_has : (G : Item → Type 0) (n : ℕ) (rs : List ReportBody) → Each (λ (r : ReportBody). IfSome (item_at n (items_in r.statement)) G) rs → IfSome (best_item n rs) G
unfolding best_found
best_item_has G n [] h = tt
best_item_has G n (r ∷ rs) h = better_has G (found_in n r.statement) (best_found n rs) (by (item_at n (items_in r.statement)) h.0) (best_item_has G n rs h.1)
  where
    by : (o : Option Item) → IfSome o G → ItemHas G (given o None (λ i. Some (record { item = i; index = index_of r.statement })))
    by None h = tt
    by (Some i) h = h
