-- A forced value is its client's own.
use Rattle.std.proofs.Common.{◌≡◌, ℕ, ◌<◌, Bool, true, false, cond, zero, suc, nat_eq, List, refl, subst}
use Rattle.std.specs.Prelude.{Option, Some, None, IsTrue}
use Rattle.st_words.specs.declared.value.Value.{Value}
use Rattle.st_words.specs.declared.statement.Item.{Item}
use Rattle.st_message.specs.declared.change.Change.{Change}
use Rattle.st_message.specs.declared.change.Change.TheVariants.{Made}
use Rattle.st_counts.specs.Counts.{Has}
use Rattle.st_agreement.specs.MiniSteps.{HasMaker, Invariant}
use Rattle.st_agreement.specs.Rules.{SiteUnion}
use Rattle.st_agreement.specs.Sites.{Sites, AreSites, leader}
use Rattle.st_agreement.specs.Statements.{prepare, is_prepare}
use Rattle.st_agreement.specs.Worlds.{World, IsOwn, stands}
use Rattle.st_agreement.proofs.GrowLaws.{leader-lt}
use Rattle.st_agreement.proofs.HistoryLaws.{made-recorded}
use Rattle.st_agreement.proofs.StatementLaws.{is_prepare-true}
use Rattle.st_agreement.proofs.VoiceLaws.{stands-recorded, proposal-prepared}
use Rattle.st_protocol.specs.Keeping.{given, or_else}
use Rattle.st_protocol.specs.State.{Held, Answers}
use Rattle.st_protocol.specs.Forced.{item_at, local_held, site_held, highest_item, above_zero, local_item, forced_value}
use Rattle.st_answer_laws.specs.Support.{Support}
use Rattle.st_answer_laws.proofs.ForcedLaws.{some-is, item_at-found, site_unions, IsOneOf, site_unions-found, IsTop, Says, says-all}
use Rattle.st_answer_laws.proofs.StandLaws.{held-local, held-site, site-one}

-- what is given of an option
pub record IsGiven {A B : Type 0} (o : Option A) (f : A → Option B) (b : B) : Type 0 where
  pub element : A
  pub is_there : o ≡ Some element
  pub gives : f element ≡ Some b

pub given-is : {A B : Type 0} (o : Option A) (f : A → Option B) (b : B) → given o None f ≡ Some b → IsGiven o f b
given-is None f b e = absurd (let none : None ≡ Some b = e in cc)
given-is (Some a) f b e = record { element = a; is_there = refl; gives = e }

-- what counts above 0 is there
above_zero-is : {A : Type 0} (n : ℕ) (x : Option A) (a : A) → above_zero n x ≡ Some a → x ≡ Some a
above_zero-is zero x a e = absurd (let none : None ≡ Some a = e in cc)
above_zero-is (suc n) x a e = e

module _ (d : Sites) (w : World) (s : ℕ) (q : Answers) (rs : List Change) (sites : AreSites d) (inv : Invariant d w) (exists : s < d.sites) (support : Support d w s q rs) where
  -- the value of a Prepare that stands
  prepare-own : (k g l n : ℕ) (v : Value) → k < d.sites → IsTrue (stands d w k (is_prepare k g l n v)) → IsOwn w v
  prepare-own k g l n v less stand =
      let who : HasMaker d w k (prepare k g l n v) = stands-recorded d w k (is_prepare k g l n v) (prepare k g l n v) sites inv less (is_prepare-true k g l n v) stand in
      let made = made-recorded (w.records k who.server) (prepare k g l n v) who.recorded in
      inv.backed k who.server less who.correct (Made made.0 (prepare k g l n v)) made.1

  -- of the local union's item
  local-own : (n : ℕ) (i : Item) → local_item q.here q.unions n ≡ Some i → IsOwn w i.value
  local-own n i e =
      let held = given-is (above_zero q.here.local (local_held q.here q.unions)) (λ (u : Held). given (item_at n u.items) None (λ (j : Item). cond (nat_eq j.view.0 q.here.view) (Some j) None)) i e in
      let item = given-is (item_at n held.element.items) (λ (j : Item). cond (nat_eq j.view.0 q.here.view) (Some j) None) i held.gives in
      let is_held : local_held q.here q.unions ≡ Some held.element = above_zero-is q.here.local (local_held q.here q.unions) held.element held.is_there in
      let found = item_at-found n held.element.items item.element item.is_there in
      let stand = (held-local d w s q rs inv exists support held.element is_held).backed item.element found.0 in
      subst (λ (j : Item). IsOwn w j.value) (by_test (nat_eq item.element.view.0 q.here.view) item.element item.gives)
      (prepare-own s item.element.view.0 item.element.local.0 item.element.number.0 item.element.value exists stand)
    where
      by_test : (b : Bool) (j : Item) → cond b (Some j) None ≡ Some i → j ≡ i
      by_test true j f = some-is j i f
      by_test false j f = absurd (let none : None ≡ Some i = f in cc)

  -- of the sites' highest item
  sites-own : (n : ℕ) (i : Item) → highest_item (site_held q.here q.unions) n q.here.seat.sites ≡ Some i → IsOwn w i.value
  sites-own n i e =
      let held : ℕ → Option Held = site_held q.here q.unions in
      let top : IsTop n (site_unions held q.here.seat.sites) i =
      subst (λ (o : Option Item). Says n (site_unions held q.here.seat.sites) o) e
      (says-all held n q.here.seat.sites (λ k u less f. site-one d w s q rs inv exists support k u (subst (λ m. k < m) support.sites less) f)) in
      let one : IsOneOf held q.here.seat.sites top.union = site_unions-found held q.here.seat.sites top.union top.among in
      let less : top.union.site < d.sites = subst (λ m. top.union.site < m) support.sites one.below in
      let has : Has i one.union.items = subst (λ (x : SiteUnion). Has i x.items) one.same top.item_among in
      let stand = (held-site d w s q rs inv exists support top.union.site one.union less one.is_held).backed i has in
      let lead : leader d i.view.0 < d.sites = leader-lt d i.view.0 sites in
      prepare-own (leader d i.view.0) i.view.0 i.local.0 i.number.0 i.value lead
      (proposal-prepared d w (leader d i.view.0) i.view.0 i.local.0 i.number.0 i.value sites inv lead stand)

  -- A forced value is its client's own.
  pub forced-own : (n : ℕ) (v : Value) → forced_value q.here q.unions n ≡ Some v → IsOwn w v
  forced-own n v e = by_item (local_item q.here q.unions n) refl e
    where
      sites_item : Option Item
      sites_item = above_zero q.here.view (highest_item (site_held q.here q.unions) n q.here.seat.sites)

      by_item : (o : Option Item) → local_item q.here q.unions n ≡ o → given (or_else o sites_item) None (λ i. Some i.value) ≡ Some v → IsOwn w v
      by_item (Some i) is f = subst (λ (x : Value). IsOwn w x) (some-is i.value v f) (local-own n i is)
      by_item None is f =
          let item = given-is sites_item (λ (i : Item). Some i.value) v f in
          subst (λ (x : Value). IsOwn w x) (some-is item.element.value v item.gives)
          (sites-own n item.element (above_zero-is q.here.view (highest_item (site_held q.here q.unions) n q.here.seat.sites) item.element item.is_there))
