-- What the list of seals tells of each party and statement, once one more seal is handed out.
use Rattle.std.proofs.Common.{ℕ, ◌≡◌, Bool, true, false, cond, Option, Some, None, List, [], ◌∷◌, ◌++◌, refl, ap, sym, ◌∙◌}
use Rattle.std.specs.Prelude.{nat_eq, ◌&&◌, ◌||◌}
use Rattle.std.specs.Option.{is_some}
use Rattle.std.proofs.lemmas.Bool.Decides.{Decides-eqb}
use Rattle.st_words.specs.declared.ids.Who.{Who}
use Rattle.st_words.specs.declared.statement.Statement.{Statement}
use Rattle.st_message.specs.declared.made.MadeSeal.{MadeSeal}
use Rattle.st_protocol.specs.Keeping.{or_else}
use Rattle.st_protocol.specs.Words.{same_who, same_statement}
use Rattle.st_protocol.specs.World.{has_made, has_handed}
use Rattle.st_protocol.proofs.SameLaws.{same_who-Decides, same_statement-Decides}
use Rattle.st_made.specs.Keys.{first_leaf, seal_of}

-- ---- what the first leaf tells

-- there is a first leaf exactly where a seal was handed out
pub first_of_made : (list : List MadeSeal) (who : Who) (s : Statement) → is_some (first_leaf list who s) ≡ has_made list who s
unfolding first_leaf has_made
first_of_made [] who s = refl
first_of_made (x ∷ xs) who s = by (same_who x.who who && same_statement x.statement s) (first_of_made xs who s)
  where
    by : (b : Bool) → is_some (first_leaf xs who s) ≡ has_made xs who s → is_some (cond b (Some x.leaf) (first_leaf xs who s)) ≡ (b || has_made xs who s)
    by true rest = refl
    by false rest = rest

-- with the first leaf a seal was handed out
pub first_is_handed : (list : List MadeSeal) (who : Who) (leaf : ℕ) (s : Statement) → first_leaf list who s ≡ Some leaf → has_handed list who leaf s ≡ true
unfolding first_leaf has_handed
first_is_handed [] who leaf s e = absurd (let no : None ≡ Some leaf = e in cc)
first_is_handed (x ∷ xs) who leaf s e = by (same_who x.who who) (same_statement x.statement s) e (first_is_handed xs who leaf s)
  where
    same : (a b : ℕ) → Some a ≡ Some b → nat_eq a b ≡ true
    same a b is = let here : a ≡ b = cc in (Decides-eqb a b).1 here

    by : (a c : Bool) → cond (a && c) (Some x.leaf) (first_leaf xs who s) ≡ Some leaf → (first_leaf xs who s ≡ Some leaf → has_handed xs who leaf s ≡ true)
        → (a && nat_eq x.leaf leaf && c || has_handed xs who leaf s) ≡ true
    by true true is rest = ap (λ b. true && b && true || has_handed xs who leaf s) (same x.leaf leaf is)
    by true false is rest = others (nat_eq x.leaf leaf) (rest is)
      where
        others : (b : Bool) → has_handed xs who leaf s ≡ true → (true && b && false || has_handed xs who leaf s) ≡ true
        others true h = h
        others false h = h
    by false c is rest = rest is

-- where none was handed out, none was with any leaf
pub none_is_handed : (list : List MadeSeal) (who : Who) (leaf : ℕ) (s : Statement) → first_leaf list who s ≡ None → has_handed list who leaf s ≡ false
unfolding first_leaf has_handed
none_is_handed [] who leaf s e = refl
none_is_handed (x ∷ xs) who leaf s e = by (same_who x.who who) (nat_eq x.leaf leaf) (same_statement x.statement s) e (none_is_handed xs who leaf s)
  where
    by : (a b c : Bool) → cond (a && c) (Some x.leaf) (first_leaf xs who s) ≡ None → (first_leaf xs who s ≡ None → has_handed xs who leaf s ≡ false)
        → (a && b && c || has_handed xs who leaf s) ≡ false
    by true b true is rest = absurd (let no : Some x.leaf ≡ None = is in cc)
    by true true false is rest = rest is
    by true false false is rest = rest is
    by false b c is rest = rest is

-- ---- one seal more

-- one more seal at the end
first_last : (list : List MadeSeal) (who : Who) (leaf : ℕ) (s : Statement) (v : Who) (t : Statement) →
    first_leaf (list ++ seal_of who leaf s ∷ []) v t ≡ or_else (first_leaf list v t) (cond (same_who who v && same_statement s t) (Some leaf) None)
unfolding first_leaf
first_last [] who leaf s v t = refl
first_last (x ∷ xs) who leaf s v t = by (same_who x.who v && same_statement x.statement t) (first_last xs who leaf s v t)
  where
    by : (b : Bool) → first_leaf (xs ++ seal_of who leaf s ∷ []) v t ≡ or_else (first_leaf xs v t) (cond (same_who who v && same_statement s t) (Some leaf) None)
        → cond b (Some x.leaf) (first_leaf (xs ++ seal_of who leaf s ∷ []) v t)
        ≡ or_else (cond b (Some x.leaf) (first_leaf xs v t)) (cond (same_who who v && same_statement s t) (Some leaf) None)
    by true rest = refl
    by false rest = rest

or_nothing : (x : Option ℕ) → x ≡ or_else x None
or_nothing None = refl
or_nothing (Some n) = refl

-- The first leaf over the list with one more seal: that seal's where there was none, and else the same.
pub first_more : (list : List MadeSeal) (who : Who) (leaf : ℕ) (s : Statement) (first : Option ℕ) (v : Who) (t : Statement) → first_leaf list who s ≡ first →
    cond (same_who who v && same_statement s t) (or_else first (Some leaf)) (first_leaf list v t) ≡ first_leaf (list ++ seal_of who leaf s ∷ []) v t
first_more list who leaf s first v t is = by (same_who who v) (same_statement s t) refl refl ∙ sym (first_last list who leaf s v t)
  where
    by : (a b : Bool) → same_who who v ≡ a → same_statement s t ≡ b
        → cond (a && b) (or_else first (Some leaf)) (first_leaf list v t) ≡ or_else (first_leaf list v t) (cond (a && b) (Some leaf) None)
    by true true same_party same_words =
        ap (λ (o : Option ℕ). or_else o (Some leaf))
        (sym is
        ∙ ((λ i. first_leaf list ((same_who-Decides who v).0 same_party i) s)
        ∙ (λ i. first_leaf list v ((same_statement-Decides s t).0 same_words i))))
    by true false same_party same_words = or_nothing (first_leaf list v t)
    by false b same_party same_words = or_nothing (first_leaf list v t)
