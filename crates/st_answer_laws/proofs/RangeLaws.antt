-- What is in range rises: so the signers of a Quorum, the sites of a proof and the servers of a bundle are distinct, and a list has one item a number.
use Rattle.std.proofs.Common.{◌≡◌, ℕ, ◌+◌, ◌<◌, ◌≤◌, List, [], ◌∷◌, map, sym, ◌∙◌, ap, subst, inl, inr, arith}
use Rattle.std.specs.Prelude.{All}
use Rattle.std.specs.List.{AllByRecursion as Each}
use Rattle.std.proofs.lemmas.List.Elements.{recursion_from_All}
use Rattle.st_fields.specs.Spelling.{KeepsEach}
use Rattle.st_words.specs.declared.limits.ItemLimits.{ItemLimits}
use Rattle.st_words.specs.declared.statement.Item.{Item}
use Rattle.st_words.specs.Ranges.{KeepsItem, after_item}
use Rattle.st_seal.specs.declared.quorum.Signed.{Signed}
use Rattle.st_message.specs.declared.message.SiteWord.{SiteWord}
use Rattle.st_wire.specs.declared.rising.Rising.{Rising}
use Rattle.st_wire.specs.Ranges.{KeepsSigned, after_signed, first, KeepsQuorum, KeepsSite, after_site, KeepsSites}
use Rattle.st_counts.specs.Counts.{Has, Distinct, AllOf}
use Rattle.st_counts.proofs.MemberLaws.{has-map}
use Rattle.st_protocol.specs.Words.{Quorum}
use Rattle.st_answer_laws.specs.Sound.{indices}

module _ {A S : Type 0} (Keeps : S → A → Type 0) (next : S → A → S) (least : S → ℕ) (key : A → ℕ) (low : (s : S) (a : A) → Keeps s a → least s ≤ key a) (over : (s : S) (a : A) → Keeps s a → key a + 1 ≤ least (next s a)) where
  -- each key is above those before it
  key-above : (s : S) (xs : List A) → KeepsEach Keeps next s xs → (k : ℕ) → Has k (map key xs) → least s ≤ k
  key-above s [] h k has = absurd has
  key-above s (x ∷ xs) h k (inl same) = let a : least s ≤ key x = low s x h.0 in omega (arith, same, a)
  key-above s (x ∷ xs) h k (inr among) =
      let a : least s ≤ key x = low s x h.0 in
      let b : key x + 1 ≤ least (next s x) = over s x h.0 in
      let c : least (next s x) ≤ k = key-above (next s x) xs h.1 k among in
      omega (arith, a, b, c)

  -- so they are distinct
  pub keys-distinct : (s : S) (xs : List A) → KeepsEach Keeps next s xs → Distinct (map key xs)
  keys-distinct s [] h = tt
  keys-distinct s (x ∷ xs) h = (
    λ has.
        let b : key x + 1 ≤ least (next s x) = over s x h.0 in
        let c : least (next s x) ≤ key x = key-above (next s x) xs h.1 (key x) has in
        omega (arith, b, c),
    keys-distinct (next s x) xs h.1,
  )

-- who sealed
pub quorum-distinct : (q : Quorum) → KeepsQuorum q → Distinct (indices q)
quorum-distinct q h =
    keys-distinct KeepsSigned after_signed (λ (r : Rising). r.least) (λ (x : Signed). x.index) (λ r x k. k.0) (λ r x k. omega arith) first q h.1

-- what each of a list's elements is kept for
kept-all : {A S : Type 0} (Keeps : S → A → Type 0) (next : S → A → S) (P : A → Type 0) → ((s : S) (a : A) → Keeps s a → P a) → (s : S) (xs : List A) → KeepsEach Keeps next s xs → AllOf P xs
kept-all Keeps next P give s [] h = tt
kept-all Keeps next P give s (x ∷ xs) h = (give s x h.0, kept-all Keeps next P give (next s x) xs h.1)

-- the words of sites
pub words-distinct : (ws : List SiteWord) → KeepsSites ws → Distinct (map (λ (x : SiteWord). x.site.0) ws) × AllOf (λ (x : SiteWord). Distinct (indices x.quorum)) ws
words-distinct ws h = (
  keys-distinct KeepsSite after_site (λ (r : Rising). r.least) (λ (x : SiteWord). x.site.0) (λ r x k. k.0) (λ r x k. omega arith) first ws h.1,
  kept-all KeepsSite after_site (λ (x : SiteWord). Distinct (indices x.quorum)) (λ r x k. quorum-distinct x.quorum k.1) first ws h.1,
)

-- the Quorums behind a report's items
pub quorums-distinct : (qs : List Quorum) → All KeepsQuorum qs → AllOf (λ q. Distinct (indices q)) qs
quorums-distinct qs h = each qs (recursion_from_All KeepsQuorum qs h)
  where
    each : (xs : List Quorum) → Each KeepsQuorum xs → AllOf (λ q. Distinct (indices q)) xs
    each [] k = tt
    each (x ∷ xs) k = (quorum-distinct x k.0, each xs k.1)

-- ---- items

-- of each number there is one
one-each : (is : List Item) → Distinct (map (λ (i : Item). i.number.0) is) → (i j : Item) → Has i is → Has j is → i.number.0 ≡ j.number.0 → i ≡ j
one-each [] distinct i j a b same = absurd a
one-each (x ∷ xs) distinct i j (inl a) (inl b) same = a ∙ sym b
one-each (x ∷ xs) distinct i j (inl a) (inr b) same =
    absurd (distinct.0 (subst (λ z. Has z (map (λ (m : Item). m.number.0) xs)) (sym same ∙ ap (λ (m : Item). m.number.0) a) (has-map (λ (m : Item). m.number.0) j xs b)))
one-each (x ∷ xs) distinct i j (inr a) (inl b) same =
    absurd (distinct.0 (subst (λ z. Has z (map (λ (m : Item). m.number.0) xs)) (same ∙ ap (λ (m : Item). m.number.0) b) (has-map (λ (m : Item). m.number.0) i xs a)))
one-each (x ∷ xs) distinct i j (inr a) (inr b) same = one-each xs distinct.1 i j a b same

-- Items in range: one a number, and none above the limits.
pub record Limited (limits : ItemLimits) (is : List Item) : Type 0 where
  pub one : (i j : Item) → Has i is → Has j is → i.number.0 ≡ j.number.0 → i ≡ j
  pub window : (i : Item) → Has i is → i.number.0 ≤ limits.most
  pub views : (i : Item) → Has i is → i.view.0 ≤ limits.most_view

pub items-limited : (limits : ItemLimits) (is : List Item) → KeepsEach KeepsItem after_item limits is → Limited limits is
items-limited limits is h =
    record {
      one = one-each is (keys-distinct KeepsItem after_item (λ (x : ItemLimits). x.after + 1) (λ (i : Item). i.number.0) (λ x i k. let a : x.after < i.number.0 = k.0 in omega (arith, a)) (λ x i k. omega arith) limits is h);
      window = λ i has. (within limits is h i has).0;
      views = λ i has. (within limits is h i has).1;
    }
  where
    within : (x : ItemLimits) (xs : List Item) → KeepsEach KeepsItem after_item x xs → (i : Item) → Has i xs → (i.number.0 ≤ x.most) × (i.view.0 ≤ x.most_view)
    within x [] k i has = absurd has
    within x (y ∷ ys) k i (inl same) = subst (λ (z : Item). (z.number.0 ≤ x.most) × (z.view.0 ≤ x.most_view)) (sym same) (k.0.1, k.0.2)
    within x (y ∷ ys) k i (inr among) = within (after_item x y) ys k.1 i among
