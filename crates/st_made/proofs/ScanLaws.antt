-- A seal is looked for in the list, one after another.
use Rattle.std.proofs.Common.{◌≡◌, ◌∙◌, ap, sym, ℕ, ◌+◌, ◌<◌, ◌≤◌, Bool, true, false, List, ◌∷◌, length, get_or, drop}
use Rattle.std.specs.Prelude.{nat_eq, ◌&&◌, ◌||◌, ◌↔◌, IsTrue}
use Rattle.std.proofs.lemmas.Bool.Decides.{Decides-and, Decides-like, Decides-eqb, same_from_decides}
use Rattle.std.proofs.lemmas.List.{at_drop_more, at_drop_all}
use Rattle.st_words.specs.declared.ids.Who.{Who}
use Rattle.st_words.specs.declared.statement.Statement.{Statement}
use Rattle.st_message.specs.declared.made.MadeSeal.{MadeSeal}
use Rattle.st_protocol.specs.Words.{same_who, same_statement}
use Rattle.st_protocol.specs.World.{has_handed}
use Rattle.st_protocol.proofs.SameLaws.{same_who-Decides, same_statement-Decides}

-- the test of a seal
seal_test : (b : Bool) (x : MadeSeal) (who : Who) (leaf : ℕ) (s : Statement) → IsTrue b ↔ ((x.who ≡ who) × (x.leaf ≡ leaf) × (x.statement ≡ s))
    → b ≡ (same_who x.who who && nat_eq x.leaf leaf && same_statement x.statement s)
seal_test b x who leaf s is =
    same_from_decides b (same_who x.who who && nat_eq x.leaf leaf && same_statement x.statement s)
    (Decides-like b (λ e. ((e.0, e.1), e.2)) (λ e. (e.0.0, e.0.1, e.1)) is)
    (Decides-and (same_who x.who who && nat_eq x.leaf leaf) (same_statement x.statement s)
    (Decides-and (same_who x.who who) (nat_eq x.leaf leaf) (same_who-Decides x.who who) (Decides-eqb x.leaf leaf)) (same_statement-Decides x.statement s))

module _ (seals : List MadeSeal) (i : ℕ) (x : MadeSeal) (who : Who) (leaf : ℕ) (s : Statement) (b : Bool) (below : i < length seals) (here : x ≡ get_or seals i x)
    (is : IsTrue b ↔ ((x.who ≡ who) × (x.leaf ≡ leaf) × (x.statement ≡ s))) where
  -- what is left, by the test of its first seal
  left : has_handed (drop i seals) who leaf s ≡ (b || has_handed (drop (i + 1) seals) who leaf s)
  unfolding has_handed
  left =
      at_drop_more (λ (xs : List MadeSeal). has_handed xs who leaf s) seals i x below
      ∙ (ap (λ (y : MadeSeal). has_handed (y ∷ drop (i + 1) seals) who leaf s) (sym here)
      ∙ ap (λ t. t || has_handed (drop (i + 1) seals) who leaf s) (sym (seal_test b x who leaf s is)))

  -- that seal
  pub is_found : b ≡ true → has_handed (drop i seals) who leaf s ≡ true
  is_found e = left ∙ ap (λ t. t || has_handed (drop (i + 1) seals) who leaf s) e

  -- another is gone past
  pub goes_past : b ≡ false → has_handed (drop (i + 1) seals) who leaf s ≡ has_handed (drop i seals) who leaf s
  goes_past e = sym (left ∙ ap (λ t. t || has_handed (drop (i + 1) seals) who leaf s) e)

-- no seal is left
pub none_is_left : (seals : List MadeSeal) (i : ℕ) (who : Who) (leaf : ℕ) (s : Statement) → length seals ≤ i → has_handed (drop i seals) who leaf s ≡ false
unfolding has_handed
none_is_left seals i who leaf s past = at_drop_all (λ (xs : List MadeSeal). has_handed xs who leaf s) seals i past
