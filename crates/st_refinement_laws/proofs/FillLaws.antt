-- The fill may be taken: one Prepare after the other, of forced values, of no-ops below them, and of pending updates.
use Rattle.std.proofs.Common.{◌≡◌, ℕ, ◌+◌, ◌-◌, ◌%◌, ◌<◌, ◌≤◌, ◌⊎◌, Bool, true, false, cond, zero, suc, nat_eq, nat_le, List, [], ◌∷◌, ◌++◌, refl, sym, ◌∙◌, ap, subst, inl, inr, arith}
use Rattle.std.specs.Prelude.{◌&&◌, not, min, max, Option, Some, None, is_some}
use Rattle.std.proofs.lemmas.Bool.{eqb-true, eq-eqb, lt-ltb, le-leb}
use Rattle.st_words.specs.declared.deployment.TheConstants.{WINDOW, LAST_NUMBER}
use Rattle.st_words.specs.declared.value.Value.{Value}
use Rattle.st_words.specs.declared.value.Value.TheVariants as values
use Rattle.st_words.specs.declared.statement.Statement.{Statement}
use Rattle.st_words.specs.declared.statement.Statement.TheVariants.{Prepare}
use Rattle.st_message.specs.declared.change.Change.{Change}
use Rattle.st_message.specs.declared.change.Change.TheVariants.{Made}
use Rattle.st_message.specs.declared.change.Heard.{Heard}
use Rattle.st_message.specs.declared.step.Form.TheVariants as forms
use Rattle.st_message.specs.declared.step.Step.{Step}
use Rattle.st_counts.specs.Counts.{Has, AllOf}
use Rattle.st_agreement.specs.Records.{made_of, view_of, local_of}
use Rattle.st_agreement.specs.Rules.{HeldLocal, HeldSites, FreeOfLocal, FollowsSites, MayStand}
use Rattle.st_agreement.specs.Sites.{Sites, leader}
use Rattle.st_agreement.specs.Statements.{prepare}
use Rattle.st_agreement.specs.Worlds as plain
use Rattle.st_protocol.specs.Words.{Bytes, a_prepare}
use Rattle.st_protocol.specs.Keeping.{given}
use Rattle.st_protocol.specs.State.{Place, AtPrepare, at_place, same_place, Here, Sealing, Slots, Pended, Answers}
use Rattle.st_protocol.specs.Step.{idle, then, making, when, first_below, rep, to_site}
use Rattle.st_protocol.specs.Step as step
use Rattle.st_protocol.specs.Forced.{Forced, forced_value, forced_of, forced_above, waits}
use Rattle.st_protocol.specs.Assigning.{is_assigned, next_pending, fill_value, Filling, fill_makes, fill_number, fills, fill}
use Rattle.st_protocol.specs.World.{Deployment, World}
use Rattle.st_answer_laws.specs.Sound.{IsSoundHeard}
use Rattle.st_answer_laws.specs.Plain.{onto, sites_in, plain_of}
use Rattle.st_answer_laws.specs.Support.{MayStep}
use Rattle.st_answer_laws.proofs.ForcedLaws.{some-is}
use Rattle.st_answer_laws.proofs.StandLaws.{Obeys, may-stand}
use Rattle.st_answer_laws.proofs.OwnLaws.{given-is, forced-own}
use Rattle.st_answer_laws.proofs.RecordLaws.{onto-append}
use Rattle.st_answer_laws.proofs.SealLaws.{first-of-two, second-of-two}
use Rattle.st_answer_laws.proofs.WayLaws.{then-may, when-may, idle-may}
use Rattle.st_answer_laws.proofs.ExecuteLaws.{first_below-found}
use Rattle.st_answer_laws.proofs.NormalLaws.{Context, at-prepare, not-true}

-- ---- what may stand still may, one made statement later

stand-local : (s g l n k : ℕ) (t : Statement) (rs : List Change) → HeldLocal s g l n rs → HeldLocal s g l n (Made k t ∷ rs)
stand-local s g l n k t rs h = record { greatest = h.greatest; base = h.base; items = h.items; held = h.held; usable = h.usable; above = h.above }

stand-sites : (d : Sites) (g n k : ℕ) (t : Statement) (rs : List Change) → HeldSites d g n rs → HeldSites d g n (Made k t ∷ rs)
stand-sites d g n k t rs h = record { unions = h.unions; distinct = h.distinct; within = h.within; many = h.many; held = h.held; above = h.above }

pub stand-more : (d : Sites) (s g l n : ℕ) (v : Value) (k : ℕ) (t : Statement) (rs : List Change) → MayStand d s g l n v rs → MayStand d s g l n v (Made k t ∷ rs)
unfolding stand-local stand-sites
stand-more d s g l n v k t rs (inl h) =
    inl (record { union = stand-local s g l n k t rs h.union; item = h.item; among = h.among; of_number = h.of_number; of_view = h.of_view; of_value = h.of_value })
stand-more d s g l n v k t rs (inr h) = inr (by_local h.0, by_sites h.1)
  where
    by_local : (l ≡ 0) ⊎ FreeOfLocal s g l n rs → (l ≡ 0) ⊎ FreeOfLocal s g l n (Made k t ∷ rs)
    by_local (inl e) = inl e
    by_local (inr f) = inr (record { union = stand-local s g l n k t rs f.union; free = f.free })

    by_sites : FollowsSites d g n v rs → FollowsSites d g n v (Made k t ∷ rs)
    by_sites (inl e) = inl e
    by_sites (inr f) = inr (stand-sites d g n k t rs f.0, f.1)

module _ {Wire : Type 0} (d : Deployment Wire) (world : World Wire) (s : ℕ) (q : Answers) (rs : List Change) (on : Context d world s q rs) where
  -- The fill so far may be taken; then the views are as before, what might stand still may, and what its slots don't have wasn't made.
  record Filled (filling : Filling) : Type 0 where
    pub may : MayStep (sites_in d) (plain_of d world) s rs filling.step
    pub view : view_of (onto filling.step.changes rs) ≡ view_of rs
    pub local : local_of (onto filling.step.changes rs) ≡ local_of rs
    pub stands : (n : ℕ) (v : Value) → MayStand (sites_in d) s q.here.view q.here.local n v rs → MayStand (sites_in d) s q.here.view q.here.local n v (onto filling.step.changes rs)
    pub unmade : (n : ℕ) (u : Value) → q.here.executed < n → filling.slots.made (AtPrepare q.here.view q.here.local n) ≡ None → ¬ Has (prepare s q.here.view q.here.local n u) (made_of (onto filling.step.changes rs))

  place : ℕ → Place
  place n = AtPrepare q.here.view q.here.local n

  three : {a b c : Bool} → a ≡ true → b ≡ true → c ≡ true → ((a && b) && c) ≡ true
  three {a} {b} {c} x y z = ap (λ k. (k && b) && c) x ∙ ap (λ k. k && c) y ∙ z

  -- nothing is filled yet
  filled-first : (leaf : ℕ) → Filled (record { step = idle; leaf = leaf; slots = q.slots })
  filled-first leaf =
      record {
        may = idle-may (sites_in d) (plain_of d world) s rs;
        view = refl;
        local = refl;
        stands = λ n v h. h;
        unmade = λ n u above free has.
            let no_ : at_place (AtPrepare q.here.view q.here.local n) (prepare s q.here.view q.here.local n u) ≡ false =
            on.support.tells.unmade (AtPrepare q.here.view q.here.local n)
            (three (le-leb q.here.view q.here.view (omega arith)) (le-leb q.here.local q.here.local (omega arith)) (lt-ltb q.here.executed n above)) free (prepare s q.here.view q.here.local n u) has in
            let yes : at_place (AtPrepare q.here.view q.here.local n) (prepare s q.here.view q.here.local n u) ≡ true = at-prepare s q.here.view q.here.local n u in
            cc;
      }

  -- one Prepare more
  filled-more : (filling : Filling) (n : ℕ) (x : Value × Bytes) → leader (sites_in d) q.here.view ≡ s → waits (forced_of q.here q.unions) ≡ false → (forced_of q.here q.unions).base < n → q.here.executed < n →
      filling.slots.made (AtPrepare q.here.view q.here.local n) ≡ None → Obeys (forced_value q.here q.unions n) x.0 → plain.IsOwn (plain_of d world) x.0 → Filled filling → Filled (fill_makes q.here filling n x)
  filled-more filling n x leads waiting low above free obeys own filled =
      let site : q.here.seat.site ≡ s = on.support.site in
      let t : Statement = a_prepare q.here.seat.site q.here.view q.here.local n x.0 in
      let old : List Change = onto filling.step.changes rs in
      let c : Change = Made filling.leaf t in
      let more : onto (filling.step.changes ++ c ∷ []) rs ≡ c ∷ old = onto-append filling.step.changes (c ∷ []) rs in
      let stand = filled.stands n x.0 (may-stand (sites_in d) (plain_of d world) s q rs on.invariant on.exists on.support n x.0 waiting low obeys) in
      record {
        may = then-may (sites_in d) (plain_of d world) s rs filling.step (making filling.leaf t (forms.Assign x.1) (to_site q.here)) filled.may
            (record {
              simple = (tt, tt);
              may = (
                (
                  site,
                  record {
                    leads = sym leads;
                    view = on.support.tells.view ∙ sym filled.view;
                    local = on.support.tells.local ∙ sym filled.local;
                    first = λ u has. filled.unmade n u above free has;
                    value = stand;
                  },
                ),
                (own, tt),
              );
              puts = ((site, (inl refl, tt)), tt);
            });
        view = ap view_of more ∙ filled.view;
        local = ap local_of more ∙ filled.local;
        stands = λ m v h.
            subst (λ (z : List Change). MayStand (sites_in d) s q.here.view q.here.local m v z) (sym more) (stand-more (sites_in d) s q.here.view q.here.local m v filling.leaf t old (filled.stands m v h));
        unmade = λ m u over none has.
            let either : (prepare s q.here.view q.here.local m u ≡ t) ⊎ Has (prepare s q.here.view q.here.local m u) (made_of old) = subst (λ (z : List Change). Has (prepare s q.here.view q.here.local m u) (made_of z)) more has in
            by_slot m u over (same_place (AtPrepare q.here.view q.here.local n) (AtPrepare q.here.view q.here.local m)) refl none either;
      }
    where
      number_of : Statement → ℕ
      number_of (Prepare s2 g l m v) = m.0
      number_of _ = 0

      by_slot : (m : ℕ) (u : Value) → q.here.executed < m → (b : Bool) → same_place (AtPrepare q.here.view q.here.local n) (AtPrepare q.here.view q.here.local m) ≡ b →
          cond b (Some (record { leaf = filling.leaf; statement = a_prepare q.here.seat.site q.here.view q.here.local n x.0 })) (filling.slots.made (AtPrepare q.here.view q.here.local m)) ≡ None →
          (prepare s q.here.view q.here.local m u ≡ a_prepare q.here.seat.site q.here.view q.here.local n x.0) ⊎ Has (prepare s q.here.view q.here.local m u) (made_of (onto filling.step.changes rs)) → ⊥
      by_slot m u over true is none either = let some : Some (record { leaf = filling.leaf; statement = a_prepare q.here.seat.site q.here.view q.here.local n x.0 }) ≡ None = none in cc
      by_slot m u over false is none (inr has) = filled.unmade m u over none has
      by_slot m u over false is none (inl same) =
          let number : m ≡ n = ap number_of same in
          let yes : same_place (AtPrepare q.here.view q.here.local n) (AtPrepare q.here.view q.here.local m) ≡ true = three (eq-eqb q.here.view q.here.view refl) (eq-eqb q.here.local q.here.local refl) (eq-eqb n m (sym number)) in
          cc

  -- what is filled in obeys the unions, and is its client's own
  value-may : (slots : Slots) (n : ℕ) (x : Value × Bytes) → fill_value q.here slots q.pending (forced_of q.here q.unions) n ≡ Some x → Obeys (forced_value q.here q.unions n) x.0 × plain.IsOwn (plain_of d world) x.0
  unfolding forced_of
  value-may slots n x e = by_forced (forced_value q.here q.unions n) refl e
    where
      pending : Option (Value × Bytes)
      pending = given (next_pending q.here slots q.pending) None (λ k. Some (values.Update k.update, k.seal))

      by_above : (b : Bool) → cond b (Some (values.Noop, [])) pending ≡ Some x → plain.IsOwn (plain_of d world) x.0
      by_above true f = subst (λ (y : Value × Bytes). plain.IsOwn (plain_of d world) y.0) (some-is (values.Noop, []) x f) tt
      by_above false f =
          let next = given-is (next_pending q.here slots q.pending) (λ (k : Pended). Some (values.Update k.update, k.seal)) x f in
          let found = first_below-found (λ c. given (q.pending c) None (λ (k : Pended). cond (is_assigned q.here slots k.update) None (Some k))) q.here.seat.clients next.element next.is_there in
          let kept = given-is (q.pending found.0) (λ (k : Pended). cond (is_assigned q.here slots k.update) None (Some k)) next.element found.1.1 in
          subst (λ (y : Value × Bytes). plain.IsOwn (plain_of d world) y.0) (some-is _ x next.gives)
          (subst (λ (k : Pended). Has k.update (plain_of d world).updates) (by_test (is_assigned q.here slots kept.element.update) kept.element next.element kept.gives) (on.keeps.pending found.0 kept.element kept.is_there))
        where
          by_test : (b : Bool) (k m : Pended) → cond b None (Some k) ≡ Some m → k ≡ m
          by_test true k m g = absurd (let none : None ≡ Some m = g in cc)
          by_test false k m g = some-is k m g

      by_forced : (o : Option Value) → forced_value q.here q.unions n ≡ o → given o (cond (forced_above q.here (forced_of q.here q.unions) n) (Some (values.Noop, [])) pending) (λ v. Some (v, [])) ≡ Some x → Obeys o x.0 × plain.IsOwn (plain_of d world) x.0
      by_forced None is f = (tt, by_above (forced_above q.here (forced_of q.here q.unions) n) f)
      by_forced (Some v) is f =
          let same : v ≡ x.0 = ap (λ (y : Value × Bytes). y.0) (some-is (v, []) x f) in
          (same, subst (λ (y : Value). plain.IsOwn (plain_of d world) y) same (forced-own (sites_in d) (plain_of d world) s q rs on.sites on.invariant on.exists on.support n v is))

  module _ (leads : leader (sites_in d) q.here.view ≡ s) (waiting : waits (forced_of q.here q.unions) ≡ false) where
    -- one number
    number-filled : (filling next : Filling) (n : ℕ) → (forced_of q.here q.unions).base < n → q.here.executed < n → fill_number q.here q.pending (forced_of q.here q.unions) filling n ≡ Some next → Filled filling → Filled next
    unfolding fill_number
    number-filled filling next n low above e filled = by_made (filling.slots.made (AtPrepare q.here.view q.here.local n)) refl e
      where
        by_leaf : (b : Bool) → filling.slots.made (AtPrepare q.here.view q.here.local n) ≡ None → cond b None (given (fill_value q.here filling.slots q.pending (forced_of q.here q.unions) n) None (λ x. Some (fill_makes q.here filling n x))) ≡ Some next → Filled next
        by_leaf true free f = absurd (let none : None ≡ Some next = f in cc)
        by_leaf false free f =
            let x = given-is (fill_value q.here filling.slots q.pending (forced_of q.here q.unions) n) (λ (y : Value × Bytes). Some (fill_makes q.here filling n y)) next f in
            let may = value-may filling.slots n x.element x.is_there in
            subst (λ (y : Filling). Filled y) (some-is _ next x.gives) (filled-more filling n x.element leads waiting low above free may.0 may.1 filled)

        by_made : (o : Option Sealing) → filling.slots.made (AtPrepare q.here.view q.here.local n) ≡ o →
            cond (is_some o) (Some filling) (cond (nat_le q.here.seat.capacity filling.leaf) None (given (fill_value q.here filling.slots q.pending (forced_of q.here q.unions) n) None (λ x. Some (fill_makes q.here filling n x)))) ≡ Some next → Filled next
        by_made (Some m) is f = subst (λ (y : Filling). Filled y) (some-is filling next f) filled
        by_made None is f = by_leaf (nat_le q.here.seat.capacity filling.leaf) is f

    -- so many numbers
    all-filled : (k n : ℕ) (filling : Filling) → (forced_of q.here q.unions).base < n → q.here.executed < n → Filled filling → Filled (fills q.here q.pending (forced_of q.here q.unions) k n filling)
    unfolding fills
    all-filled zero n filling low above filled = filled
    all-filled (suc k) n filling low above filled = by_number (fill_number q.here q.pending (forced_of q.here q.unions) filling n) refl (λ next f. all-filled k (n + 1) next (omega (arith, low)) (omega (arith, above)) f)
      where
        by_number : (o : Option Filling) → fill_number q.here q.pending (forced_of q.here q.unions) filling n ≡ o → ((next : Filling) → Filled next → Filled (fills q.here q.pending (forced_of q.here q.unions) k (n + 1) next)) →
            Filled (given o filling (fills q.here q.pending (forced_of q.here q.unions) k (n + 1)))
        by_number None is later = filled
        by_number (Some next) is later = later next (number-filled filling next n low above is filled)

  -- the base isn't below what is executed
  base-above : q.here.executed ≤ (forced_of q.here q.unions).base
  unfolding forced_of
  base-above = above q.here.executed _
    where
      above : (a b : ℕ) → a ≤ max a b
      above a b = grind arith

  -- The fill.
  pub fill-may : MayStep (sites_in d) (plain_of d world) s rs (fill q.here q.slots q.pending (forced_of q.here q.unions))
  unfolding fill
  fill-may =
      let base : ℕ = (forced_of q.here q.unions).base in
      when-may (sites_in d) (plain_of d world) s rs _ _
      (λ holds.
      let both = first-of-two (nat_eq q.here.seat.index (rep q.here) && nat_eq q.here.seat.site (step.leader q.here)) (not (waits (forced_of q.here q.unions))) holds in
      let waiting : waits (forced_of q.here q.unions) ≡ false = not-true _ (second-of-two (nat_eq q.here.seat.index (rep q.here) && nat_eq q.here.seat.site (step.leader q.here)) (not (waits (forced_of q.here q.unions))) holds) in
      let led : q.here.seat.site ≡ q.here.view % q.here.seat.sites = eqb-true _ _ (second-of-two (nat_eq q.here.seat.index (rep q.here)) (nat_eq q.here.seat.site (step.leader q.here)) both) in
      let leads : q.here.view % d.sites ≡ s = subst (λ m. q.here.view % m ≡ s) on.support.sites (sym led ∙ on.support.site) in
      (all-filled leads waiting (min (q.here.executed + WINDOW) LAST_NUMBER - base) (base + 1) (record { step = idle; leaf = q.here.leaf; slots = q.slots }) (omega arith) (omega (arith, base-above)) (filled-first q.here.leaf)).may)

-- ---- the fill keeps nothing

module _ (here : Here) (pending : ℕ → Option Pended) (forced : Forced) where
  number-heard : (filling next : Filling) (n : ℕ) → fill_number here pending forced filling n ≡ Some next → filling.step.heard ≡ [] → next.step.heard ≡ []
  unfolding fill_number
  number-heard filling next n e none = by_made (is_some (filling.slots.made (AtPrepare here.view here.local n))) e
    where
      by_leaf : (b : Bool) → cond b None (given (fill_value here filling.slots pending forced n) None (λ x. Some (fill_makes here filling n x))) ≡ Some next → next.step.heard ≡ []
      by_leaf true f = absurd (let no_ : None ≡ Some next = f in cc)
      by_leaf false f =
          let x = given-is (fill_value here filling.slots pending forced n) (λ (y : Value × Bytes). Some (fill_makes here filling n y)) next f in
          subst (λ (y : Filling). y.step.heard ≡ []) (some-is _ next x.gives) (ap (λ (hs : List Heard). hs ++ []) none)

      by_made : (b : Bool) → cond b (Some filling) (cond (nat_le here.seat.capacity filling.leaf) None (given (fill_value here filling.slots pending forced n) None (λ x. Some (fill_makes here filling n x)))) ≡ Some next → next.step.heard ≡ []
      by_made true f = subst (λ (y : Filling). y.step.heard ≡ []) (some-is filling next f) none
      by_made false f = by_leaf (nat_le here.seat.capacity filling.leaf) f

  all-heard : (k n : ℕ) (filling : Filling) → filling.step.heard ≡ [] → (fills here pending forced k n filling).step.heard ≡ []
  unfolding fills
  all-heard zero n filling none = none
  all-heard (suc k) n filling none = by_number (fill_number here pending forced filling n) refl (λ next h. all-heard k (n + 1) next h)
    where
      by_number : (o : Option Filling) → fill_number here pending forced filling n ≡ o → ((next : Filling) → next.step.heard ≡ [] → (fills here pending forced k (n + 1) next).step.heard ≡ []) →
          (given o filling (fills here pending forced k (n + 1))).step.heard ≡ []
      by_number None is later = none
      by_number (Some next) is later = later next (number-heard filling next n is none)

-- The fill keeps nothing.
pub fill-heard : {Wire : Type 0} (d : Deployment Wire) (world : World Wire) (here : Here) (slots : Slots) (pending : ℕ → Option Pended) (forced : Forced) → AllOf (IsSoundHeard d world) (fill here slots pending forced).heard
unfolding fill
fill-heard d world here slots pending forced =
    by_test (nat_eq here.seat.index (rep here) && nat_eq here.seat.site (step.leader here) && not (waits forced))
  where
    all : Step
    all = (fills here pending forced (min (here.executed + WINDOW) LAST_NUMBER - forced.base) (forced.base + 1) (record { step = idle; leaf = here.leaf; slots = slots })).step

    by_test : (b : Bool) → AllOf (IsSoundHeard d world) (when b all).heard
    by_test true = subst (λ (hs : List Heard). AllOf (IsSoundHeard d world) hs) (sym (all-heard here pending forced (min (here.executed + WINDOW) LAST_NUMBER - forced.base) (forced.base + 1) (record { step = idle; leaf = here.leaf; slots = slots }) refl)) tt
    by_test false = tt
