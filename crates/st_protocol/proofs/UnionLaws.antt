-- The union of reports takes the best of each number, whatever the order of the reports.
use Rattle.std.proofs.Common.{◌≡◌, ◌∙◌, ap, sym, subst, refl, ℕ, ◌+◌, ◌<◌, ◌≤◌, ◌⊎◌, inl, inr, Bool, true, false, cond, nat_lt, List, [], ◌∷◌, ◌++◌, arith}
use Rattle.std.proofs.lemmas.Bool.{ltb-true}
use Rattle.std.specs.Prelude.{◌≢◌, max, Option, Some, None}
use Rattle.st_words.specs.declared.deployment.TheConstants.{WINDOW}
use Rattle.st_words.specs.declared.statement.Item.{Item}
use Rattle.st_words.specs.declared.statement.Statement.{Statement}
use Rattle.st_message.specs.declared.message.ReportBody.{ReportBody}
use Rattle.st_counts.specs.Counts.{Has}
use Rattle.st_protocol.specs.Words.{index_of}
use Rattle.st_protocol.specs.Keeping.{given}
use Rattle.st_protocol.specs.Step.{all_below, to_list}
use Rattle.st_protocol.specs.Forced.{item_at, item_view, item_local}
use Rattle.st_protocol.specs.Collecting.{Found, found_in, precedes, better, best_found, most, base_in, items_in, union_items}

-- what is there is one
some_is : {A : Type 0} {x y : A} → Some x ≡ Some y → x ≡ y
some_is {x = x} e = ap (λ o. given o x (λ z. z)) e

-- ---- which of two precedes the other

-- of other indices, one precedes the other
one_precedes : (x y : Found) → x.index ≢ y.index → precedes y x ≡ false → precedes x y ≡ true
one_precedes x y other e = grind (arith, other, e)

-- y is at least as good
abbrev pub AsGood : Found → Found → Type 0
AsGood x y =
    (item_view x.item < item_view y.item)
    ⊎ ((item_view x.item ≡ item_view y.item)
    × ((item_local x.item < item_local y.item) ⊎ ((item_local x.item ≡ item_local y.item) × (y.index ≤ x.index))))

-- What x doesn't precede is at least as good.
pub as_good : (x y : Found) → precedes x y ≡ false → AsGood x y
as_good x y e = by (nat_lt (item_view x.item) (item_view y.item)) (nat_lt (item_local x.item) (item_local y.item)) refl refl
  where
    by : (a b : Bool) → nat_lt (item_view x.item) (item_view y.item) ≡ a → nat_lt (item_local x.item) (item_local y.item) ≡ b → AsGood x y
    by true b is more = inl (ltb-true (item_view x.item) (item_view y.item) is)
    by false true is more = inr (grind (arith, e, is), inl (ltb-true (item_local x.item) (item_local y.item) more))
    by false false is more = inr (grind (arith, e, is), inr (grind (arith, e, is, more), grind (arith, e, is, more)))

-- nor is it preceded
not_before : (x y : Found) → AsGood x y → precedes x y ≡ false
not_before x y (inl view) = grind (arith, view)
not_before x y (inr (view, inl local)) = grind (arith, view, local)
not_before x y (inr (view, inr (local, index))) = grind (arith, view, local, index)

-- through one between
as_good_through : (x y z : Found) → AsGood x y → AsGood y z → AsGood x z
as_good_through x y z (inl a) (inl b) = inl (omega (arith, a, b))
as_good_through x y z (inl a) (inr (b, more)) = inl (omega (arith, a, b))
as_good_through x y z (inr (a, more)) (inl b) = inl (omega (arith, a, b))
as_good_through x y z (inr (a, inl c)) (inr (b, inl d)) = inr (a ∙ b, inl (omega (arith, c, d)))
as_good_through x y z (inr (a, inl c)) (inr (b, inr (d, more))) = inr (a ∙ b, inl (omega (arith, c, d)))
as_good_through x y z (inr (a, inr (c, more))) (inr (b, inl d)) = inr (a ∙ b, inl (omega (arith, c, d)))
as_good_through x y z (inr (a, inr (c, i))) (inr (b, inr (d, j))) = inr (a ∙ b, inr (c ∙ d, omega (arith, i, j)))

-- of three
no_higher : (x y z : Found) → precedes z x ≡ false → precedes x y ≡ false → precedes z y ≡ false
no_higher x y z e more = not_before z y (as_good_through z x y (as_good z x e) (as_good x y more))

-- what precedes y and not x, y is preceded by x
between : (x y z : Found) → precedes z y ≡ true → precedes z x ≡ false → precedes x y ≡ true
between x y z e none = by (precedes x y) refl
  where
    by : (b : Bool) → precedes x y ≡ b → b ≡ true
    by true is = refl
    by false is = absurd (let no : true ≡ false = sym e ∙ no_higher x y z none is in cc)

-- nothing precedes itself
not_itself : (x : Found) → precedes x x ≡ false
not_itself x = not_before x x (inr (refl, inr (refl, omega arith)))

-- not both
not_both : (x y : Found) → precedes y x ≡ true → precedes x y ≡ false
not_both x y e = not_before x y (by (nat_lt (item_view x.item) (item_view y.item)) (nat_lt (item_local x.item) (item_local y.item)) refl refl)
  where
    by : (a b : Bool) → nat_lt (item_view x.item) (item_view y.item) ≡ a → nat_lt (item_local x.item) (item_local y.item) ≡ b → AsGood x y
    by true b is more = inl (ltb-true (item_view x.item) (item_view y.item) is)
    by false true is more = inr (grind (arith, e, is), inl (ltb-true (item_local x.item) (item_local y.item) more))
    by false false is more = inr (grind (arith, e, is), inr (grind (arith, e, is, more), grind (arith, e, is, more)))

-- ---- the best of all reports

-- something is found, which this one doesn't precede
abbrev pub Under : Found → Option Found → Type 0
Under x o = (y : Found) × ((o ≡ Some y) × (precedes x y ≡ false))

-- the better of two is as good as the first
under_first : (x : Found) (o : Option Found) → Under x (better (Some x) o)
under_first x None = (x, (refl, not_itself x))
under_first x (Some y) = by _ refl
  where
    by : (b : Bool) → precedes y x ≡ b → Under x (cond b (Some y) (Some x))
    by true e = (y, (refl, not_both x y e))
    by false e = (x, (refl, not_itself x))

-- and as the second
under_second : (x : Found) (o p : Option Found) → Under x p → Under x (better o p)
under_second x None p h = h
under_second x (Some y) None h = absurd (let none : None ≡ Some h.0 = h.1.0 in cc)
under_second x (Some y) (Some z) h = by _ refl
  where
    second : precedes x z ≡ false
    second = subst (λ w. precedes x w ≡ false) (some_is (sym h.1.0)) h.1.1

    by : (b : Bool) → precedes z y ≡ b → Under x (cond b (Some z) (Some y))
    by true e = (z, (refl, second))
    by false e = (y, (refl, no_higher z y x second e))

-- What is found is as good as each report's item.
pub best_found_under : (n : ℕ) (rs : List ReportBody) (r : ReportBody) (i : Item) → Has r rs → item_at n (items_in r.statement) ≡ Some i →
    Under (record { item = i; index = index_of r.statement }) (best_found n rs)
unfolding best_found
best_found_under n [] r i has e = absurd has
best_found_under n (x ∷ rs) r i (inl same) e =
    subst (λ o. Under (record { item = i; index = index_of r.statement }) (better o (best_found n rs)))
    (sym (ap (λ (y : ReportBody). found_in n y.statement) (sym same) ∙ ap (λ o. given o None (λ j. Some (record { item = j; index = index_of r.statement }))) e))
    (under_first (record { item = i; index = index_of r.statement }) (best_found n rs))
best_found_under n (x ∷ rs) r i (inr among) e =
    under_second (record { item = i; index = index_of r.statement }) (found_in n x.statement) (best_found n rs) (best_found_under n rs r i among e)

-- what stands in the middle is among the list
in_middle : {A : Type 0} (before after : List A) (x : A) → Has x (before ++ x ∷ after)
in_middle [] after x = inl refl
in_middle (y ∷ before) after x = inr (in_middle before after x)

-- The index of what is found is the lowest among equals.
pub lowest_index : (before after : List ReportBody) (r : ReportBody) (n : ℕ) (i : Item) (found : Found) → item_at n (items_in r.statement) ≡ Some i →
    best_found n (before ++ r ∷ after) ≡ Some found → item_view found.item ≡ item_view i → item_local found.item ≡ item_local i → found.index ≤ index_of r.statement
lowest_index before after r n i found e best view local =
    let under = best_found_under n (before ++ r ∷ after) r i (in_middle before after r) e in
    let none : precedes (record { item = i; index = index_of r.statement }) found ≡ false =
    subst (λ x. precedes (record { item = i; index = index_of r.statement }) x ≡ false) (some_is (sym under.1.0 ∙ best)) under.1.1
    in
    grind (arith, none, view, local)

-- ---- the order of reports

-- the better of two, of other indices
two_swap : (a b : Found) → a.index ≢ b.index → better (Some a) (Some b) ≡ better (Some b) (Some a)
two_swap a b other = by _ _ refl refl
  where
    by : (p q : Bool) → precedes b a ≡ p → precedes a b ≡ q → cond p (Some b) (Some a) ≡ cond q (Some a) (Some b)
    by true false e f = refl
    by false true e f = refl
    by true true e f = absurd (let no : true ≡ false = sym f ∙ not_both a b e in cc)
    by false false e f = absurd (let no : false ≡ true = sym f ∙ one_precedes a b other e in cc)

-- and two before a third
better_swap : (x y z : Option Found) → ((a b : Found) → x ≡ Some a → y ≡ Some b → a.index ≢ b.index) → better x (better y z) ≡ better y (better x z)
better_swap None y z other = refl
better_swap (Some a) None z other = refl
better_swap (Some a) (Some b) None other = two_swap a b (other a b refl refl)
better_swap (Some a) (Some b) (Some c) other = by _ _ refl refl
  where
    by : (p q : Bool) → precedes c b ≡ p → precedes c a ≡ q → better (Some a) (cond p (Some c) (Some b)) ≡ better (Some b) (cond q (Some c) (Some a))
    by true true e f = ap (λ t. cond t (Some c) (Some a)) f ∙ sym (ap (λ t. cond t (Some c) (Some b)) e)
    by true false e f = ap (λ t. cond t (Some c) (Some a)) f ∙ sym (ap (λ t. cond t (Some a) (Some b)) (between a b c e f))
    by false true e f = ap (λ t. cond t (Some b) (Some a)) (between b a c f e) ∙ sym (ap (λ t. cond t (Some c) (Some b)) e)
    by false false e f = two_swap a b (other a b refl refl)

-- the index of what a report has
index_found : (n : ℕ) (r : ReportBody) (a : Found) → found_in n r.statement ≡ Some a → a.index ≡ index_of r.statement
index_found n r a e = by (item_at n (items_in r.statement)) e
  where
    by : (o : Option Item) → given o None (λ i. Some (record { item = i; index = index_of r.statement })) ≡ Some a → a.index ≡ index_of r.statement
    by None none = absurd (let no : None ≡ Some a = none in cc)
    by (Some i) is = ap (λ (x : Found). x.index) (some_is (sym is))

-- the best of a number stays as it is
best_found_swap : (n : ℕ) (before after : List ReportBody) (a b : ReportBody) → index_of a.statement ≢ index_of b.statement →
    best_found n (before ++ a ∷ b ∷ after) ≡ best_found n (before ++ b ∷ a ∷ after)
unfolding best_found
best_found_swap n [] after a b other =
    better_swap (found_in n a.statement) (found_in n b.statement) (best_found n after) (λ x y is_x is_y same. other (sym (index_found n a x is_x) ∙ same ∙ index_found n b y is_y))
best_found_swap n (r ∷ before) after a b other = ap (better (found_in n r.statement)) (best_found_swap n before after a b other)

-- and so does the greatest
most_swap : (f : Statement → ℕ) (before after : List ReportBody) (a b : ReportBody) → most f (before ++ a ∷ b ∷ after) ≡ most f (before ++ b ∷ a ∷ after)
unfolding most
most_swap f [] after a b = max_swap (f a.statement) (f b.statement) (most f after)
  where
    max_swap : (x y z : ℕ) → max x (max y z) ≡ max y (max x z)
    max_swap x y z = grind arith
most_swap f (r ∷ before) after a b = ap (max (f r.statement)) (most_swap f before after a b)

-- Two neighbours of other indices may change places.
pub union_items_swap : (before after : List ReportBody) (a b : ReportBody) → index_of a.statement ≢ index_of b.statement →
    union_items (before ++ a ∷ b ∷ after) ≡ union_items (before ++ b ∷ a ∷ after)
union_items_swap before after a b other =
    ap (λ base. items base (λ n. best_found n (before ++ a ∷ b ∷ after))) (most_swap base_in before after a b)
    ∙ ap (items (most base_in (before ++ b ∷ a ∷ after))) (λ i n. best_found_swap n before after a b other i)
  where
    items : ℕ → (ℕ → Option Found) → List Item
    items base best = all_below (λ k. to_list (given (best (base + 1 + k)) None (λ f. Some f.item))) WINDOW
