-- The union of a bundle, by the definitions, is a union of its reports, by the rules of the agreement proof.
use Rattle.std.proofs.Common.{◌≡◌, ℕ, ◌+◌, ◌-◌, ◌<◌, ◌≤◌, ◌⊎◌, zero, suc, List, [], ◌∷◌, map, refl, sym, ◌∙◌, ap, subst, inl, inr, ⊎_elim, arith}
use Rattle.std.specs.Prelude.{max, Option, Some, None}
use Rattle.std.specs.Option.{IfSome}
use Rattle.std.specs.List.{AllByRecursion as Each}
use Rattle.st_words.specs.declared.deployment.TheConstants.{WINDOW}
use Rattle.st_words.specs.declared.statement.Item.{Item}
use Rattle.st_words.specs.declared.statement.Statement.{Statement}
use Rattle.st_message.specs.declared.message.ReportBody.{ReportBody}
use Rattle.st_counts.specs.Counts.{Has}
use Rattle.st_counts.proofs.MemberLaws.{has-append, has-map, map-has}
use Rattle.st_agreement.specs.Reports.{Report, IsUnion}
use Rattle.st_agreement.specs.Rules.{Covers}
use Rattle.st_protocol.specs.Words.{index_of}
use Rattle.st_protocol.specs.Keeping.{given}
use Rattle.st_protocol.specs.Step.{all_below, to_list}
use Rattle.st_protocol.specs.Forced.{item_at}
use Rattle.st_protocol.specs.Collecting.{Found, view_in, base_in, items_in, most, best_item, union_items}
use Rattle.st_protocol.proofs.UnionLaws.{AsGood, as_good, best_found_under}
use Rattle.st_ranges.proofs.ChoiceLaws.{best_item_has}
use Rattle.st_answer_laws.proofs.ForcedLaws.{some-is, item_at-found, item_at-none, OneEach}
use Rattle.st_answer_laws.proofs.ViewLaws.{all_below-has}

-- a report's statement, as the agreement proof has reports
abbrev pub report_in : Statement → Report
report_in t = record { server = index_of t; view = view_in t; base = base_in t; items = items_in t }

abbrev pub reports_in : List ReportBody → List Report
reports_in rs = map (λ (r : ReportBody). report_in r.statement) rs

-- What a report in range has: one item a number, of the window above its base.
pub record IsRanged (r : ReportBody) : Type 0 where
  pub one : OneEach (items_in r.statement)
  pub window : (i : Item) → Has i (items_in r.statement) → i.number.0 ≤ base_in r.statement + WINDOW

-- at least as high
abbrev pub High : Item → Item → Type 0
High i j = (i.view.0 < j.view.0) ⊎ ((i.view.0 ≡ j.view.0) × (i.local.0 ≤ j.local.0))

-- as what is as good is
good-high : (x y : Found) → AsGood x y → High x.item y.item
good-high x y (inl view) = inl view
good-high x y (inr (view, inl local)) = inr (view, omega (arith, local))
good-high x y (inr (view, inr (local, index))) = inr (view, omega (arith, local))

-- what is found is at least as high as the item
abbrev Over : Item → Option Item → Type 0
Over i o = (j : Item) × ((o ≡ Some j) × High i j)

-- the best is as high as each report's item
best-over : (n : ℕ) (rs : List ReportBody) (r : ReportBody) (i : Item) → Has r rs → item_at n (items_in r.statement) ≡ Some i → Over i (best_item n rs)
best-over n rs r i has e =
    let under = best_found_under n rs r i has e in (
      under.0.item,
      (ap (λ o. given o None (λ (f : Found). Some f.item)) under.1.0, good-high (record { item = i; index = index_of r.statement }) under.0 (as_good (record { item = i; index = index_of r.statement }) under.0 under.1.1)),
    )

-- An item of a report, of this number.
pub record IsOf (rs : List ReportBody) (n : ℕ) (i : Item) : Type 0 where
  pub report : ReportBody
  pub among : Has report rs
  pub item_among : Has i (items_in report.statement)
  pub of_number : i.number.0 ≡ n

-- each report's item of the number is one
each-of : (n : ℕ) (all rs : List ReportBody) → ((r : ReportBody) → Has r rs → Has r all) → Each (λ (r : ReportBody). IfSome (item_at n (items_in r.statement)) (IsOf all n)) rs
each-of n all [] within = tt
each-of n all (r ∷ rs) within = (by (item_at n (items_in r.statement)) refl, each-of n all rs (λ x has. within x (inr has)))
  where
    by : (o : Option Item) → item_at n (items_in r.statement) ≡ o → IfSome o (IsOf all n)
    by None e = tt
    by (Some i) e = let found = item_at-found n (items_in r.statement) i e in record { report = r; among = within r (inl refl); item_among = found.0; of_number = found.1 }

-- and so is the best of them
best-of : (n : ℕ) (rs : List ReportBody) (i : Item) → best_item n rs ≡ Some i → IsOf rs n i
best-of n rs i e = subst (λ o. IfSome o (IsOf rs n)) e (best_item_has (IsOf rs n) n rs (each-of n rs rs (λ r has. has)))

-- a number whose list has it
all_below-found : {A : Type 0} (f : ℕ → List A) (k : ℕ) (x : A) → Has x (all_below f k) → (i : ℕ) × ((i < k) × Has x (f i))
unfolding all_below
all_below-found f zero x has = absurd has
all_below-found f (suc k) x has = ⊎_elim (λ before. let found = all_below-found f k x before in let less : found.0 < k = found.1.0 in (found.0, (omega (arith, less), found.1.1))) (λ last. (k, (omega arith, last))) (has-append x (all_below f k) (f k) has)

list-has : {A : Type 0} (o : Option A) (x : A) → Has x (to_list o) → o ≡ Some x
list-has None x has = absurd has
list-has (Some a) x (inl same) = ap Some (sym same)
list-has (Some a) x (inr none) = absurd none

-- the greatest base is as great as each
base-most : (rs : List ReportBody) (r : ReportBody) → Has r rs → base_in r.statement ≤ most base_in rs
unfolding most
base-most [] r has = absurd has
base-most (x ∷ rs) r (inl same) = subst (λ (y : ReportBody). base_in y.statement ≤ max (base_in x.statement) (most base_in rs)) (sym same) (left (base_in x.statement) (most base_in rs))
  where
    left : (a b : ℕ) → a ≤ max a b
    left a b = grind arith
base-most (x ∷ rs) r (inr among) = right (base_in x.statement) (most base_in rs) (base-most rs r among)
  where
    right : (a b : ℕ) → base_in r.statement ≤ b → base_in r.statement ≤ max a b
    right a b low = grind (arith, low)

-- The union's items are a union of the reports.
pub items-union : (rs : List ReportBody) → ((r : ReportBody) → Has r rs → IsRanged r) → IsUnion (reports_in rs) (most base_in rs) (union_items rs)
items-union rs ranged =
    record {
      based = λ x has.
          let one = map-has (λ (r : ReportBody). report_in r.statement) x rs has in
          let low : base_in one.0.statement ≤ base = base-most rs one.0 one.1.0 in
          subst (λ (y : Report). y.base ≤ base) one.1.1 low;
      each = λ i has.
          let found : IsOf rs (base + 1 + (place i has).0) i = from i has in
          (report_in found.report.statement, (has-map (λ (r : ReportBody). report_in r.statement) found.report rs found.among, found.item_among));
      covers = λ x i has among above.
          let one = map-has (λ (r : ReportBody). report_in r.statement) x rs has in
          let r : ReportBody = one.0 in
          let item : Has i (items_in r.statement) = subst (λ (y : Report). Has i y.items) (sym one.1.1) among in
          let low : i.number.0 ≤ base_in r.statement + WINDOW = (ranged r one.1.0).window i item in
          let high : base_in r.statement ≤ base = base-most rs r one.1.0 in
          covered r i one.1.0 item above (omega (arith, low, high));
      one = λ i j in_i in_j same.
          let a : i.number.0 ≡ base + 1 + (place i in_i).0 = (from i in_i).of_number in
          let b : j.number.0 ≡ base + 1 + (place j in_j).0 = (from j in_j).of_number in
          let k : (place i in_i).0 ≡ (place j in_j).0 = omega (arith, a, b, same) in
          some-is i j (sym (there i in_i) ∙ ap (λ z. best_item (base + 1 + z) rs) k ∙ there j in_j);
    }
  where
    base : ℕ
    base = most base_in rs

    place : (i : Item) → Has i (union_items rs) → (k : ℕ) × ((k < WINDOW) × Has i (to_list (best_item (base + 1 + k) rs)))
    place i has = all_below-found (λ k. to_list (best_item (base + 1 + k) rs)) WINDOW i has

    there : (i : Item) (has : Has i (union_items rs)) → best_item (base + 1 + (place i has).0) rs ≡ Some i
    there i has = list-has (best_item (base + 1 + (place i has).0) rs) i (place i has).1.1

    from : (i : Item) (has : Has i (union_items rs)) → IsOf rs (base + 1 + (place i has).0) i
    from i has = best-of (base + 1 + (place i has).0) rs i (there i has)

    by_first : (r : ReportBody) (i : Item) (n : ℕ) → Has r rs → Has i (items_in r.statement) → i.number.0 ≡ n → (o : Option Item) → item_at n (items_in r.statement) ≡ o → item_at n (items_in r.statement) ≡ Some i
    by_first r i n among item number None e = absurd (item_at-none n (items_in r.statement) e i item number)
    by_first r i n among item number (Some j) e =
        let found = item_at-found n (items_in r.statement) j e in
        let same : j ≡ i = (ranged r among).one j i found.0 item (found.1 ∙ sym number) in
        e ∙ ap Some same

    covered : (r : ReportBody) (i : Item) → Has r rs → Has i (items_in r.statement) → base < i.number.0 → i.number.0 ≤ base + WINDOW → Covers (union_items rs) i.number.0 i.view.0 i.local.0
    covered r i among item above low =
        let k : ℕ = i.number.0 - (base + 1) in
        let number : i.number.0 ≡ base + 1 + k = omega (arith, above) in
        let less : k < WINDOW = omega (arith, above, low) in
        let over : Over i (best_item (base + 1 + k) rs) = best-over (base + 1 + k) rs r i among (by_first r i (base + 1 + k) among item number (item_at (base + 1 + k) (items_in r.statement)) refl) in
        let of : IsOf rs (base + 1 + k) over.0 = best-of (base + 1 + k) rs over.0 over.1.0 in
        record {
          item = over.0;
          among = all_below-has (λ z. to_list (best_item (base + 1 + z) rs)) WINDOW k over.0 less (subst (λ (o : Option Item). Has over.0 (to_list o)) (sym over.1.0) (inl refl));
          of_number = of.of_number ∙ sym number;
          high = over.1.1;
        }
