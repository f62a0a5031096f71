-- A value that is forced by the definitions of duties, or left free by them, may stand by the rules of the agreement proof.
use Rattle.std.proofs.Common.{◌≡◌, ℕ, ◌+◌, ◌/◌, ◌<◌, ◌≤◌, ◌⊎◌, Bool, true, false, cond, nat_eq, nat_lt, nat_le, List, length, refl, sym, ◌∙◌, ap, subst, inl, inr, ⊎_elim, arith}
use Rattle.std.specs.Prelude.{◌&&◌, not, max, Option, Some, None}
use Rattle.std.proofs.lemmas.Bool.{eqb-true, eq-eqb, lt-ltb}
use Rattle.st_words.specs.declared.value.Value.{Value}
use Rattle.st_words.specs.declared.statement.Item.{Item}
use Rattle.st_words.specs.declared.statement.Statement.{Statement}
use Rattle.st_message.specs.declared.change.Change.{Change}
use Rattle.st_message.specs.declared.change.Change.TheVariants.{Made, Union}
use Rattle.st_counts.specs.Counts.{Has}
use Rattle.st_agreement.specs.MiniSteps.{HasMaker, Invariant}
use Rattle.st_agreement.specs.Records.{unions_of}
use Rattle.st_agreement.specs.Rules.{HeldLocal, SiteUnion, HeldSites, ForcedBySites, FreeOfSites, FollowsSites, MayStand}
use Rattle.st_agreement.specs.Sites.{Sites}
use Rattle.st_agreement.specs.Statements.{local_union, global_union}
use Rattle.st_agreement.specs.Unions.{IsLocalUnion, IsGlobalUnion}
use Rattle.st_agreement.specs.Worlds.{World}
use Rattle.st_agreement.proofs.HistoryLaws.{made-recorded, union-recorded}
use Rattle.st_protocol.specs.Keeping.{given, or_else}
use Rattle.st_protocol.specs.State.{OfLocal, Held, Answers}
use Rattle.st_protocol.specs.Step.{majority}
use Rattle.st_protocol.specs.Forced.{item_at, local_held, site_held, sites_held, highest_item, greatest_base, above_zero, local_item, forced_value, lacks_sites, lacks_local, forced_of, waits}
use Rattle.st_answer_laws.specs.Support.{Support}
use Rattle.st_answer_laws.proofs.ForcedLaws.{zero-or, above_zero-none, above_zero-some, item_at-found, item_at-none, OneEach, site_unions, IsOneOf, site_unions-found, site_unions-length, site_unions-distinct, Says, says-all, greatest_base-above}

-- The value is the forced one, where one is forced.
abbrev pub Obeys : Option Value → Value → Type 0
Obeys None v = Unit {0}
Obeys (Some u) v = u ≡ v

-- ---- what is held

module _ (d : Sites) (w : World) (s : ℕ) (q : Answers) (rs : List Change) (inv : Invariant d w) (exists : s < d.sites) (support : Support d w s q rs) where
  -- the local union that is held is one
  pub held-local : (u : Held) → local_held q.here q.unions ≡ Some u → IsLocalUnion d w s q.here.local u.greatest u.base u.items
  held-local u e =
      let t : Statement = local_union s q.here.local u.greatest u.base u.items in
      let held : Has t (unions_of rs) = support.tells.local_held q.here.local s u (ap (λ x. q.unions (OfLocal q.here.local) x) (sym support.site) ∙ e) in
      let seen = union-recorded rs t held in
      let who : HasMaker d w s t = support.backed (Union t seen.0) seen.1 in
      let made = made-recorded (w.records s who.server) t who.recorded in
      inv.backed s who.server exists who.correct (Made made.0 t) made.1

  -- so is each site's
  pub held-site : (k : ℕ) (u : Held) → k < d.sites → site_held q.here q.unions k ≡ Some u → IsGlobalUnion d w k q.here.view u.base u.items
  held-site k u less e =
      let t : Statement = global_union k q.here.view u.base u.items in
      let held : Has t (unions_of rs) = support.tells.global_held q.here.view k u e in
      let seen = union-recorded rs t held in
      let who : HasMaker d w k t = support.backed (Union t seen.0) seen.1 in
      let made = made-recorded (w.records k who.server) t who.recorded in
      inv.backed k who.server less who.correct (Made made.0 t) made.1

  -- they have one item a number
  local-one : (u : Held) → local_held q.here q.unions ≡ Some u → OneEach u.items
  local-one u e = (held-local u e).one

  pub site-one : (k : ℕ) (u : Held) → k < d.sites → site_held q.here q.unions k ≡ Some u → OneEach u.items
  site-one k u less e = (held-site k u less e).one

  -- ---- nothing is missing

  -- neither site unions nor a local union
  not-missing : (a b : Bool) (x y : ℕ) → (a ≡ true → nat_lt x y ≡ true) → nat_lt (cond a x 0) (cond a y (cond b 1 0)) ≡ false → (a ≡ false) × (b ≡ false)
  not-missing true b x y less e = let yes : nat_lt x y ≡ true = less refl in absurd (cc)
  not-missing false true x y less e = absurd (let never : nat_lt 0 1 ≡ false = e in cc)
  not-missing false false x y less e = (refl, refl)

  no-lack : waits (forced_of q.here q.unions) ≡ false → (lacks_sites q.here q.unions ≡ false) × (lacks_local q.here q.unions ≡ false)
  unfolding forced_of
  no-lack e = not-missing (lacks_sites q.here q.unions) (lacks_local q.here q.unions) (sites_held q.here q.unions) (majority q.here) (λ t. second _ _ t) e
    where
      second : (a b : Bool) → (a && b) ≡ true → b ≡ true
      second true b t = t
      second false b t = absurd (let no_ : false ≡ true = t in cc)

  -- the view is 0, or a majority of sites' unions are held
  enough-sites : lacks_sites q.here q.unions ≡ false → 0 < q.here.view → majority q.here ≤ sites_held q.here q.unions
  enough-sites e above = by_test (nat_lt 0 q.here.view) (lt-ltb 0 q.here.view above) e
    where
      by_test : (a : Bool) → a ≡ true → (a && nat_lt (sites_held q.here q.unions) (majority q.here)) ≡ false → majority q.here ≤ sites_held q.here q.unions
      by_test true is f = grind (arith, f)
      by_test false is f = absurd (let no_ : false ≡ true = is in cc)

  -- A usable local union is held.
  record Usable : Type 0 where
    pub union : Held
    pub is_held : local_held q.here q.unions ≡ Some union
    pub low : union.greatest ≤ q.here.view

  enough-local : lacks_local q.here q.unions ≡ false → 0 < q.here.local → Usable
  enough-local e above = by_test (nat_lt 0 q.here.local) (lt-ltb 0 q.here.local above) (local_held q.here q.unions) refl e
    where
      by_test : (a : Bool) → a ≡ true → (o : Option Held) → local_held q.here q.unions ≡ o → (a && not (given o false (λ u. nat_le u.greatest q.here.view))) ≡ false → Usable
      by_test false is o held f = absurd (let no_ : false ≡ true = is in cc)
      by_test true is None held f = absurd (let no_ : true ≡ false = f in cc)
      by_test true is (Some u) held f = record { union = u; is_held = held; low = grind (arith, f) }

  -- ---- below the number

  base-local : (u : Held) (n : ℕ) → 0 < q.here.local → local_held q.here q.unions ≡ Some u → (forced_of q.here q.unions).base < n → u.base < n
  unfolding forced_of
  base-local u n above e less =
      let is : given (above_zero q.here.local (local_held q.here q.unions)) 0 (λ (x : Held). x.base) ≡ u.base = ap (λ (o : Option Held). given o 0 (λ (x : Held). x.base)) (above_zero-some q.here.local (local_held q.here q.unions) above ∙ e) in
      middle q.here.executed (given (above_zero q.here.local (local_held q.here q.unions)) 0 (λ (x : Held). x.base)) _ is less
    where
      middle : (a b c : ℕ) → b ≡ u.base → max a (max b c) < n → u.base < n
      middle a b c is low = grind (arith, is, low)

  base-site : (k : ℕ) (u : Held) (n : ℕ) → 0 < q.here.view → k < q.here.seat.sites → site_held q.here q.unions k ≡ Some u → (forced_of q.here q.unions).base < n → u.base < n
  unfolding forced_of
  base-site k u n above less e low =
      last q.here.executed _ (nat_eq q.here.view 0) (greatest_base (site_held q.here q.unions) q.here.seat.sites) (not_zero above) (greatest_base-above (site_held q.here q.unions) q.here.seat.sites k u less e) low
    where
      not_zero : {a : ℕ} → 0 < a → nat_eq a 0 ≡ false
      not_zero {a} pos = grind (arith, pos)

      last : (a b : ℕ) (z : Bool) (c : ℕ) → z ≡ false → u.base ≤ c → max a (max b (cond z 0 c)) < n → u.base < n
      last a b true c is high under = absurd (let no_ : true ≡ false = is in cc)
      last a b false c is high under = grind (arith, high, under)

  -- ---- what the sites say

  held-sites : (n : ℕ) → lacks_sites q.here q.unions ≡ false → 0 < q.here.view → (forced_of q.here q.unions).base < n → HeldSites d q.here.view n rs
  unfolding sites_held
  held-sites n lack above low =
      let held : ℕ → Option Held = site_held q.here q.unions in
      let all : List SiteUnion = site_unions held q.here.seat.sites in
      let enough : majority q.here ≤ sites_held q.here q.unions = enough-sites lack above in
      let many : q.here.seat.sites / 2 + 1 ≤ length all = omega (arith, enough, site_unions-length held q.here.seat.sites) in
      record {
        unions = all;
        distinct = site_unions-distinct held q.here.seat.sites;
        within = λ x has. let one : IsOneOf held q.here.seat.sites x = site_unions-found held q.here.seat.sites x has in let below : x.site < q.here.seat.sites = one.below in subst (λ m. x.site < m) support.sites below;
        many = subst (λ m. m / 2 + 1 ≤ length all) support.sites many;
        held = λ x has.
            let one : IsOneOf held q.here.seat.sites x = site_unions-found held q.here.seat.sites x has in
            subst (λ (y : SiteUnion). Has (global_union x.site q.here.view y.base y.items) (unions_of rs)) (sym one.same)
            (support.tells.global_held q.here.view x.site one.union one.is_held);
        above = λ x has.
            let one : IsOneOf held q.here.seat.sites x = site_unions-found held q.here.seat.sites x has in
            subst (λ (y : SiteUnion). y.base < n) (sym one.same) (base-site x.site one.union n above one.below one.is_held low);
      }

  -- the sites' unions force the value or leave it free
  follows-sites : (n : ℕ) (v : Value) → lacks_sites q.here q.unions ≡ false → (forced_of q.here q.unions).base < n →
      Obeys (given (above_zero q.here.view (highest_item (site_held q.here q.unions) n q.here.seat.sites)) None (λ i. Some i.value)) v → FollowsSites d q.here.view n v rs
  unfolding held-sites
  follows-sites n v lack low obeys =
      ⊎_elim inl
      (λ (above : 0 < q.here.view).
      let held : ℕ → Option Held = site_held q.here q.unions in
      let says : Says n (site_unions held q.here.seat.sites) (highest_item held n q.here.seat.sites) =
      says-all held n q.here.seat.sites (λ k u less e. site-one k u (subst (λ m. k < m) support.sites less) e) in
      inr (
        held-sites n lack above low,
        by_item (highest_item held n q.here.seat.sites) says
            (subst (λ (o : Option Item). Obeys (given o None (λ i. Some i.value)) v) (above_zero-some q.here.view (highest_item held n q.here.seat.sites) above) obeys),
      ))
      (zero-or q.here.view)
    where
      by_item : (o : Option Item) → Says n (site_unions (site_held q.here q.unions) q.here.seat.sites) o → Obeys (given o None (λ i. Some i.value)) v →
          ForcedBySites n v (site_unions (site_held q.here q.unions) q.here.seat.sites) ⊎ FreeOfSites n (site_unions (site_held q.here q.unions) q.here.seat.sites)
      by_item None says ob = inr says
      by_item (Some i) says ob =
          inl (record { union = says.union; among = says.among; item = i; item_among = says.item_among; of_number = says.of_number; of_value = ob; highest = says.highest })

  -- ---- what may stand

  -- The value is the forced one, or none is forced: it may stand.
  pub may-stand : (n : ℕ) (v : Value) → waits (forced_of q.here q.unions) ≡ false → (forced_of q.here q.unions).base < n → Obeys (forced_value q.here q.unions n) v →
      MayStand d s q.here.view q.here.local n v rs
  may-stand n v waiting low obeys = by_local (zero-or q.here.local)
    where
      sites_item : Option Item
      sites_item = above_zero q.here.view (highest_item (site_held q.here q.unions) n q.here.seat.sites)

      lacks : (lacks_sites q.here q.unions ≡ false) × (lacks_local q.here q.unions ≡ false)
      lacks = no-lack waiting

      -- where the local union says nothing, the sites' do
      by_sites : local_item q.here q.unions n ≡ None → FollowsSites d q.here.view n v rs
      by_sites e =
          follows-sites n v lacks.0 low (subst (λ (o : Option Item). Obeys (given (or_else o sites_item) None (λ i. Some i.value)) v) e obeys)

      -- the local union that is held
      with_union : 0 < q.here.local → (ready : Usable) → HeldLocal s q.here.view q.here.local n rs
      with_union above ready =
          record {
            greatest = ready.union.greatest;
            base = ready.union.base;
            items = ready.union.items;
            held = support.tells.local_held q.here.local s ready.union (ap (λ x. q.unions (OfLocal q.here.local) x) (sym support.site) ∙ ready.is_held);
            usable = ready.low;
            above = base-local ready.union n above ready.is_held low;
          }

      local_at : Held → Option Item
      local_at u = given (item_at n u.items) None (λ i. cond (nat_eq i.view.0 q.here.view) (Some i) None)

      item_is : 0 < q.here.local → (ready : Usable) → local_item q.here q.unions n ≡ local_at ready.union
      item_is above ready = ap (λ (o : Option Held). given o None local_at) (above_zero-some q.here.local (local_held q.here q.unions) above ∙ ready.is_held)

      by_view : (above : 0 < q.here.local) (ready : Usable) (i : Item) → item_at n ready.union.items ≡ Some i → (b : Bool) → nat_eq i.view.0 q.here.view ≡ b → local_item q.here q.unions n ≡ cond b (Some i) None → MayStand d s q.here.view q.here.local n v rs
      by_view above ready i e true same is =
          let found = item_at-found n ready.union.items i e in
          inl (record {
            union = with_union above ready;
            item = i;
            among = found.0;
            of_number = found.1;
            of_view = eqb-true i.view.0 q.here.view same;
            of_value = subst (λ (o : Option Item). Obeys (given (or_else o sites_item) None (λ x. Some x.value)) v) is obeys;
          })
      by_view above ready i e false other is =
          inr (
            inr (record {
              union = with_union above ready;
              free = λ j has number view.
                  let found = item_at-found n ready.union.items i e in
                  let same : j ≡ i = local-one ready.union ready.is_held j i has found.0 (number ∙ sym found.1) in
                  let yes : nat_eq i.view.0 q.here.view ≡ true = eq-eqb i.view.0 q.here.view (ap (λ (x : Item). x.view.0) (sym same) ∙ view) in
                  cc;
            }),
            by_sites is,
          )

      by_item : (above : 0 < q.here.local) (ready : Usable) (o : Option Item) → item_at n ready.union.items ≡ o → local_item q.here q.unions n ≡ given o None (λ i. cond (nat_eq i.view.0 q.here.view) (Some i) None) → MayStand d s q.here.view q.here.local n v rs
      by_item above ready None e is =
          inr (inr (record { union = with_union above ready; free = λ j has number view. item_at-none n ready.union.items e j has number }), by_sites is)
      by_item above ready (Some i) e is = by_view above ready i e (nat_eq i.view.0 q.here.view) refl is

      by_local : (q.here.local ≡ 0) ⊎ (0 < q.here.local) → MayStand d s q.here.view q.here.local n v rs
      by_local (inl none) =
          inr (inl none, by_sites (ap (λ (o : Option Held). given o None local_at) (above_zero-none q.here.local (local_held q.here q.unions) none)))
      by_local (inr above) =
          let ready : Usable = enough-local lacks.1 above in
          by_item above ready (item_at n ready.union.items) refl (item_is above ready)
