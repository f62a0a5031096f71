-- What is kept once a seal is handed out.
use Rattle.std.proofs.Common.{◌≡◌, ℕ, Bool, true, false, cond, Option, Some, None, List, [], ◌∷◌, ◌++◌, refl, sym, ap, ◌∙◌}
use Rattle.std.specs.Prelude.{◌&&◌, MatchOption}
use Rattle.std.specs.Str.{bytes_eq}
use Rattle.std.specs.BTreeMap.{BTreeMap}
use Rattle.std.specs.Map.{lookup}
use Rattle.std.specs.Ordering.{is_eq, nat_cmp}
use Rattle.std.specs.Cmp.Lexicographic.{slice_cmp}
use Rattle.std.proofs.lemmas.List.{same_from_push}
use Rattle.st_words.specs.declared.ids.Who.{Who}
use Rattle.st_words.specs.declared.statement.Statement.{Statement}
use Rattle.st_words.specs.Ranges.{KeepsStatement, FitsStatement}
use Rattle.st_message.specs.declared.made.MadeSeal.{MadeSeal}
use Rattle.st_protocol.specs.Keeping.{or_else}
use Rattle.st_protocol.specs.Words.{same_who, same_statement}
use Rattle.st_protocol.specs.World.{has_handed}
use Rattle.st_protocol.proofs.SameLaws.{same_who-Decides, same_statement-Decides}
use Rattle.st_made.specs.Keys.{key_spelling, leaf_at, first_leaf, seal_of, KeepsFirst, with_seal}
use Rattle.st_made.proofs.KeyLaws.{same_key}
use Rattle.st_made.proofs.NotedLaws.{first_is_handed, none_is_handed, first_more}

-- ---- the list

-- a list from which what was put last is taken off
pub taken_back : (last : Option MadeSeal) (before more after : List MadeSeal) (x : MadeSeal) → more ≡ before ++ x ∷ []
    → MatchOption last ((more ≡ []) × (after ≡ [])) (λ y. more ≡ after ++ y ∷ []) → after ≡ before
taken_back None [] more after x is popped = absurd (let no : [] ≡ x ∷ [] = sym popped.0 ∙ is in cc)
taken_back None (b ∷ bs) more after x is popped = absurd (let no : [] ≡ b ∷ (bs ++ x ∷ []) = sym popped.0 ∙ is in cc)
taken_back (Some y) before more after x is popped = (same_from_push after before y x (sym popped ∙ is)).0

-- a seal that was handed out before is not noted again
pub made_still : (list : List MadeSeal) (who : Who) (leaf : ℕ) (s : Statement) → has_handed list who leaf s ≡ true → list ≡ with_seal list who leaf s
made_still list who leaf s handed = sym (ap (λ (b : Bool). cond b list (list ++ seal_of who leaf s ∷ [])) handed)

-- as the first one
pub made_first : (list : List MadeSeal) (who : Who) (leaf : ℕ) (s : Statement) → first_leaf list who s ≡ Some leaf → list ≡ with_seal list who leaf s
made_first list who leaf s first = made_still list who leaf s (first_is_handed list who leaf s first)

-- one that wasn't is
pub made_more : (list more : List MadeSeal) (who : Who) (leaf : ℕ) (s t : Statement) → has_handed list who leaf s ≡ false → more ≡ list ++ seal_of who leaf t ∷ [] → t ≡ s → more ≡ with_seal list who leaf s
made_more list more who leaf s t fresh is same =
    is ∙ (ap (λ (u : Statement). list ++ seal_of who leaf u ∷ []) same ∙ sym (ap (λ (b : Bool). cond b list (list ++ seal_of who leaf s ∷ [])) fresh))

-- the first over a statement wasn't
pub made_new : (list more : List MadeSeal) (who : Who) (leaf : ℕ) (s t : Statement) → first_leaf list who s ≡ None → more ≡ list ++ seal_of who leaf t ∷ [] → t ≡ s → more ≡ with_seal list who leaf s
made_new list more who leaf s t none is same = made_more list more who leaf s t (none_is_handed list who leaf s none) is same

-- ---- the leaves

module _ {K : Type 0} (read : K → List ℕ) (list more : List MadeSeal) (who : Who) (leaf : ℕ) (s t : Statement) (is : more ≡ list ++ seal_of who leaf t ∷ []) (same : t ≡ s) where
  -- the first leaves over the longer list
  firsts : (first : Option ℕ) (v : Who) (u : Statement) → first_leaf list who s ≡ first
      → cond (same_who who v && same_statement s u) (or_else first (Some leaf)) (first_leaf list v u) ≡ first_leaf more v u
  firsts first v u was =
      first_more list who leaf s first v u was
      ∙ sym (ap (λ (xs : List MadeSeal). first_leaf xs v u) (is ∙ ap (λ (w : Statement). list ++ seal_of who leaf w ∷ []) same))

  -- a first seal's leaf is kept
  pub keeps_new : (old new : BTreeMap K ℕ) → KeepsStatement s → FitsStatement s → first_leaf list who s ≡ None
      → ((bytes : List ℕ) → leaf_at read new bytes ≡ cond (bytes_eq (key_spelling who s) bytes) (Some leaf) (leaf_at read old bytes)) → KeepsFirst read old list → KeepsFirst read new more
  keeps_new old new ks fs none adds keeps = λ v u ku fu.
      adds (key_spelling v u)
      ∙ ((λ i. cond (same_key who v s u ks fs ku fu i) (Some leaf) (keeps v u ku fu i))
      ∙ firsts None v u none)

  -- a further seal's isn't
  pub keeps_again : (leaves : BTreeMap K ℕ) (first : ℕ) → first_leaf list who s ≡ Some first → KeepsFirst read leaves list → KeepsFirst read leaves more
  keeps_again leaves first was keeps = λ v u ku fu.
      keeps v u ku fu ∙ (by v u (same_who who v) (same_statement s u) refl refl ∙ firsts (Some first) v u was)
    where
      by : (v : Who) (u : Statement) (a b : Bool) → same_who who v ≡ a → same_statement s u ≡ b
          → first_leaf list v u ≡ cond (same_who who v && same_statement s u) (Some first) (first_leaf list v u)
      by v u true true same_party same_words =
          sym (λ i. first_leaf list ((same_who-Decides who v).0 same_party i) ((same_statement-Decides s u).0 same_words i))
          ∙ (was ∙ sym (λ i. cond (same_party i && same_words i) (Some first) (first_leaf list v u)))
      by v u true false same_party same_words = sym (λ i. cond (same_party i && same_words i) (Some first) (first_leaf list v u))
      by v u false b same_party same_words = sym (λ i. cond (same_party i && same_words i) (Some first) (first_leaf list v u))

-- the leaves are kept where the entries are as before
pub keeps_still : {K : Type 0} (read : K → List ℕ) (old new : BTreeMap K ℕ) (list same : List MadeSeal) → new.entries ≡ old.entries → same ≡ list → KeepsFirst read old list → KeepsFirst read new same
keeps_still read old new list same entries is keeps = λ v u ku fu.
    ap (λ es. lookup (λ k. is_eq (slice_cmp nat_cmp (key_spelling v u) (read k))) es) entries ∙ (keeps v u ku fu ∙ sym (ap (λ (xs : List MadeSeal). first_leaf xs v u) is))
