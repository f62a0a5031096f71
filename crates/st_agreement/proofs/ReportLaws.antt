-- The union of a bundle of reports is one over the reporters' records.
use Rattle.std.proofs.Common.{◌≡◌, ℕ, ◌<◌, ◌≤◌, ◌⊎◌, ◌==◌, IsTrue, List, sym, ◌∙◌, subst, inl, inr, ⊎_elim, arith}
use Rattle.std.specs.List.{list_any}
use Rattle.std.proofs.lemmas.Bool.{eqb-true}
use Rattle.st_words.specs.declared.value.Value.{Value}
use Rattle.st_words.specs.declared.statement.Item.{Item}
use Rattle.st_message.specs.declared.change.Change.{Change}
use Rattle.st_counts.specs.Counts.{Has, Found}
use Rattle.st_counts.proofs.MemberLaws.{any-found}
use Rattle.st_agreement.specs.MiniSteps.{Invariant}
use Rattle.st_agreement.specs.Records.{made_of, view_of, local_of}
use Rattle.st_agreement.specs.Reports.{Report, local_report, global_report, IsUnion, IsLocalBundle, IsGlobalBundle}
use Rattle.st_agreement.specs.Rules.{History, Makes, Covers, CoversView}
use Rattle.st_agreement.specs.Sites.{Sites, leader}
use Rattle.st_agreement.specs.Statements.{proposal, accept}
use Rattle.st_agreement.specs.Unions.{IsLocalUnion, IsGlobalUnion}
use Rattle.st_agreement.specs.Worlds.{World}
use Rattle.st_agreement.proofs.HistoryLaws.{made-rule, made-newest, made-proposal, made-accept, MadeProposal, MadeAccept, local-kept, view-kept}

-- ---- a report covers what its server ever makes in lower views

-- by the records of a server that reported on a local view
pub record CoversLocal (s local base : ℕ) (items : List Item) (rs : List Change) : Type 0 where
  pub entered : local ≤ local_of rs
  pub covers : (g l n : ℕ) (v : Value) → Has (proposal s g l n v) (made_of rs) → l < local → base < n → Covers items n g l

-- so it is of each server that reported on a local view
pub report-covers_local : (d : Sites) (s local : ℕ) (r : Report) (rs : List Change) → History d s rs → Has (local_report s local r) (made_of rs) → CoversLocal s local r.base r.items rs
report-covers_local d s local r =
    made-rule d s (local_report s local r) (CoversLocal s local r.base r.items)
    (λ c rs allowed before. record {
      entered = omega (arith, before.entered, local-kept d s c rs allowed);
      covers = λ g l n v made lower above.
          ⊎_elim
          (λ was. before.covers g l n v was lower above)
          (λ (makes : Makes d s (proposal s g l n v) rs). let now : l ≡ local_of rs = makes.1.local in absurd (omega (arith, before.entered)))
          (made-newest d s c rs (proposal s g l n v) allowed made);
    })
    (λ leaf rs history makes. record {
      entered = omega (arith, makes.1.entered);
      covers = λ g l n v made lower above.
          ⊎_elim
          (λ (same : proposal s g l n v ≡ local_report s local r). absurd (cc))
          (λ was. let rule : MadeProposal s s g l n v rs = made-proposal d s s g l n v rs history was in makes.1.covers s g l n v rule.prepared above)
          made;
    })

-- by the records of a server that reported on a view
pub record CoversGlobal (s view base : ℕ) (items : List Item) (rs : List Change) : Type 0 where
  pub entered : view ≤ view_of rs
  pub covers : (g n : ℕ) (v : Value) → Has (accept s g n v) (made_of rs) → g < view → base < n → CoversView items n g

-- so it is of each server that reported on a view
pub report-covers_global : (d : Sites) (s view : ℕ) (r : Report) (rs : List Change) → History d s rs → Has (global_report s view r) (made_of rs) → CoversGlobal s view r.base r.items rs
report-covers_global d s view r =
    made-rule d s (global_report s view r) (CoversGlobal s view r.base r.items)
    (λ c rs allowed before. record {
      entered = omega (arith, before.entered, view-kept d s c rs allowed);
      covers = λ g n v made lower above.
          ⊎_elim
          (λ was. before.covers g n v was lower above)
          (λ (makes : Makes d s (accept s g n v) rs). let now : g ≡ view_of rs = makes.1.view in absurd (omega (arith, before.entered)))
          (made-newest d s c rs (accept s g n v) allowed made);
    })
    (λ leaf rs history makes. record {
      entered = omega (arith, makes.1.entered);
      covers = λ g n v made lower above.
          ⊎_elim
          (λ (same : accept s g n v ≡ global_report s view r). absurd (cc))
          (λ was. let rule : MadeAccept d s s g n v rs = made-accept d s s g n v rs history was in makes.1.covers (leader d g) g rule.local n v rule.accepted above)
          made;
    })

-- ---- and so does the union

-- higher than what is higher
higher : (g l g2 l2 g3 l3 : ℕ) → (g < g2) ⊎ ((g ≡ g2) × (l ≤ l2)) → (g2 < g3) ⊎ ((g2 ≡ g3) × (l2 ≤ l3)) → (g < g3) ⊎ ((g ≡ g3) × (l ≤ l3))
higher g l g2 l2 g3 l3 (inl a) (inl b) = inl (omega arith)
higher g l g2 l2 g3 l3 (inl a) (inr b) = inl (omega (arith, b.0))
higher g l g2 l2 g3 l3 (inr a) (inl b) = inl (omega (arith, a.0))
higher g l g2 l2 g3 l3 (inr a) (inr b) = inr (a.0 ∙ b.0, omega (arith, a.1, b.1))

-- what a report covers its union covers, above its base
union-covers : (reports : List Report) (base : ℕ) (items : List Item) (r : Report) (n g l : ℕ) → IsUnion reports base items → Has r reports → base < n → Covers r.items n g l → Covers items n g l
union-covers reports base items r n g l union among above covered =
    let over : base < covered.item.number.0 = subst (λ x. base < x) (sym covered.of_number) above in
    let there : Covers items covered.item.number.0 covered.item.view.0 covered.item.local.0 = union.covers r covered.item among covered.among over in
    record {
      item = there.item;
      among = there.among;
      of_number = there.of_number ∙ covered.of_number;
      high = higher g l covered.item.view.0 covered.item.local.0 there.item.view.0 there.item.local.0 covered.high there.high;
    }

-- the same, by views alone
union-covers_view : (reports : List Report) (base : ℕ) (items : List Item) (r : Report) (n g : ℕ) → IsUnion reports base items → Has r reports → base < n → CoversView r.items n g → CoversView items n g
union-covers_view reports base items r n g union among above covered =
    let over : base < covered.item.number.0 = subst (λ x. base < x) (sym covered.of_number) above in
    let there : Covers items covered.item.number.0 covered.item.view.0 covered.item.local.0 = union.covers r covered.item among covered.among over in
    let low : g ≤ covered.item.view.0 = covered.high in
    record {
      item = there.item;
      among = there.among;
      of_number = there.of_number ∙ covered.of_number;
      high = ⊎_elim (λ (more : covered.item.view.0 < there.item.view.0). omega arith) (λ same. omega (arith, same.0)) there.high;
    }

-- The union of a bundle on a local view.
pub bundle-local_union : (d : Sites) (w : World) (s local greatest base : ℕ) (items : List Item) (reports : List Report) → Invariant d w → s < d.sites → IsLocalBundle d w s local reports → IsUnion reports base items → ((r : Report) → Has r reports → r.view ≤ greatest) → IsLocalUnion d w s local greatest base items
bundle-local_union d w s local greatest base items reports inv exists bundle union high =
    let covered : (k : ℕ) → Has k (d.correct s) → IsTrue (list_any (λ (r : Report). r.server == k) reports) → (r : Report) × (Has r reports × CoversLocal s local r.base r.items (w.records s k)) =
    λ k correct reports_k.
    let some : Found (λ (r : Report). r.server == k) reports = any-found (λ (r : Report). r.server == k) reports reports_k in
    let server : some.element.server ≡ k = eqb-true some.element.server k some.passes in
    let made : Has (local_report s local some.element) (made_of (w.records s k)) =
    subst (λ x. Has (local_report s local some.element) (made_of (w.records s x))) server
    (bundle.made some.element some.among (subst (λ x. Has x (d.correct s)) (sym server) correct)) in
    (some.element, (some.among, report-covers_local d s local some.element (w.records s k) (inv.history s k exists correct) made)) in
    record {
      reports = λ k. list_any (λ (r : Report). r.server == k) reports;
      many = bundle.many;
      entered = λ k correct reports_k. (covered k correct reports_k).1.1.entered;
      covers = λ k correct reports_k g l n v made lower above.
          let r = covered k correct reports_k in
          let based : r.0.base ≤ base = union.based r.0 r.1.0 in
          union-covers reports base items r.0 n g l union r.1.0 above (r.1.1.covers g l n v made lower (omega arith));
      bounded = λ i among.
          let r = union.each i among in
          let bound : i.view.0 ≤ r.0.view = bundle.bounded r.0 i r.1.0 r.1.1 in
          let below : r.0.view ≤ greatest = high r.0 r.1.0 in
          omega arith;
      backed = λ i among. let r = union.each i among in bundle.backed r.0 i r.1.0 r.1.1;
      one = union.one;
    }

-- The union of a bundle on a view.
pub bundle-global_union : (d : Sites) (w : World) (s view base : ℕ) (items : List Item) (reports : List Report) → Invariant d w → s < d.sites → IsGlobalBundle d w s view reports → IsUnion reports base items → IsGlobalUnion d w s view base items
bundle-global_union d w s view base items reports inv exists bundle union =
    let covered : (k : ℕ) → Has k (d.correct s) → IsTrue (list_any (λ (r : Report). r.server == k) reports) → (r : Report) × (Has r reports × CoversGlobal s view r.base r.items (w.records s k)) =
    λ k correct reports_k.
    let some : Found (λ (r : Report). r.server == k) reports = any-found (λ (r : Report). r.server == k) reports reports_k in
    let server : some.element.server ≡ k = eqb-true some.element.server k some.passes in
    let made : Has (global_report s view some.element) (made_of (w.records s k)) =
    subst (λ x. Has (global_report s view some.element) (made_of (w.records s x))) server
    (bundle.made some.element some.among (subst (λ x. Has x (d.correct s)) (sym server) correct)) in
    (some.element, (some.among, report-covers_global d s view some.element (w.records s k) (inv.history s k exists correct) made)) in
    record {
      reports = λ k. list_any (λ (r : Report). r.server == k) reports;
      many = bundle.many;
      entered = λ k correct reports_k. (covered k correct reports_k).1.1.entered;
      covers = λ k correct reports_k g n v made lower above.
          let r = covered k correct reports_k in
          let based : r.0.base ≤ base = union.based r.0 r.1.0 in
          union-covers_view reports base items r.0 n g union r.1.0 above (r.1.1.covers g n v made lower (omega arith));
      backed = λ i among. let r = union.each i among in bundle.backed r.0 i r.1.0 r.1.1;
      one = union.one;
    }
