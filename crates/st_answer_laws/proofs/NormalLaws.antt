-- The normal case: assignments, shares of Prepares, Proposals, and the fill are steps that may be taken.
use Rattle.std.proofs.Common.{◌≡◌, ℕ, ◌+◌, ◌*◌, ◌%◌, ◌<◌, ◌≤◌, Bool, true, false, cond, nat_eq, nat_lt, nat_le, List, [], ◌∷◌, ◌++◌, filter, refl, sym, ◌∙◌, ap, subst, inl, arith}
use Rattle.std.specs.Prelude.{◌&&◌, ◌||◌, not, Option, Some, None, is_none, IsTrue}
use Rattle.std.proofs.lemmas.Bool.{eqb-true, eq-eqb, lt-ltb, leb-true, le-leb}
use Rattle.st_words.specs.declared.deployment.TheConstants.{WINDOW}
use Rattle.st_words.specs.declared.value.Value.{Value}
use Rattle.st_words.specs.declared.value.Value.TheVariants as values
use Rattle.st_words.specs.declared.statement.Statement.{Statement}
use Rattle.st_seal.specs.declared.quorum.Signed.{Signed}
use Rattle.st_message.specs.declared.message.Message.TheVariants as messages
use Rattle.st_message.specs.declared.change.Change.{Change}
use Rattle.st_message.specs.declared.change.Change.TheVariants.{Prepared}
use Rattle.st_message.specs.declared.event.Scope.{Scope}
use Rattle.st_message.specs.declared.reason.Reason.{Reason}
use Rattle.st_message.specs.declared.step.Form.{Form}
use Rattle.st_message.specs.declared.step.Form.TheVariants as forms
use Rattle.st_message.specs.declared.step.Step.{Step}
use Rattle.st_counts.specs.Counts.{Has, AllOf, numbers_below}
use Rattle.st_agreement.specs.MiniSteps.{Invariant}
use Rattle.st_agreement.specs.Records.{view_of, local_of, executed_of}
use Rattle.st_agreement.specs.Sites.{AreSites, leader}
use Rattle.st_agreement.specs.Statements.{prepare, proposal, is_prepare, is_proposal}
use Rattle.st_agreement.specs.Worlds as plain
use Rattle.st_agreement.proofs.StatementLaws.{is_prepare-refl, is_proposal-refl}
use Rattle.st_protocol.specs.Words.{Bytes, Quorum, server_at, a_prepare, a_proposal, site_of, same_value}
use Rattle.st_protocol.specs.Keeping.{given}
use Rattle.st_protocol.specs.State.{Place, AtPrepare, AtProposal, at_place, open_place, Share, Answers}
use Rattle.st_protocol.specs.Step.{Refused, Steps, making, recording, keeping, when, decides, count_below, says, agreeing, with_share, completes, servers, quorum, out_of_window, to_rep, to_site}
use Rattle.st_protocol.specs.Forced.{forced_value, forced_of, forced_above, waits}
use Rattle.st_protocol.specs.Assigning.{is_noop, is_empty, is_other_value, prepares, completes_prepare, keeps_prepare, assigns, keeps_assigned, assign_reasons, assign_step, on_assign, prepare_reasons, prepare_step, on_prepare}
use Rattle.st_protocol.specs.Ordering.{proposal_reasons, proposal_step, on_proposal}
use Rattle.st_words.specs.declared.ids.Who.TheVariants as parties
use Rattle.st_words.specs.declared.value.Update.{Update}
use Rattle.st_words.specs.declared.statement.Statement.TheVariants.{ClientUpdate}
use Rattle.st_protocol.specs.Known.{Sealed, seals_of, in_quorum, in_client_seal}
use Rattle.st_protocol.specs.World.{Deployment, World, servers_of, is_correct}
use Rattle.st_protocol.proofs.SameLaws.{same_value-Decides, same_statement-Decides}
use Rattle.st_protocol.proofs.PartLaws.{NoneTrue}
use Rattle.st_answer_laws.specs.Fair.{HasFewFaulty}
use Rattle.st_answer_laws.specs.Plain.{onto, sites_in, plain_of}
use Rattle.st_answer_laws.specs.Sound.{indices, IsHonestSeal, IsSound}
use Rattle.st_answer_laws.specs.Support.{Support, MayStep}
use Rattle.st_answer_laws.proofs.StandLaws.{Obeys, may-stand}
use Rattle.st_answer_laws.proofs.OwnLaws.{forced-own}
use Rattle.st_answer_laws.proofs.RangeLaws.{quorum-distinct}
use Rattle.st_answer_laws.proofs.SealLaws.{made-by, first-of-two, second-of-two, Did, a-quorum, share-quorum, sealed-stands}
use Rattle.st_answer_laws.proofs.KeepLaws.{Keeps, updates-of}
use Rattle.st_answer_laws.proofs.WayLaws.{of-site, then-may, when-may}

-- ---- tests

-- a part that answers a step passed all its tests
pub decides-steps : (ts : List (Bool × Reason)) (step x : Step) → decides ts step ≡ Steps x → NoneTrue ts × (step ≡ x)
decides-steps [] step x e = (tt, steps e)
  where
    steps : Steps step ≡ Steps x → step ≡ x
    steps f = cc
decides-steps (t ∷ ts) step x e = by_test t.0 refl e (decides-steps ts step x)
  where
    by_test : (b : Bool) → t.0 ≡ b → cond b (Refused t.1) (decides ts step) ≡ Steps x → (decides ts step ≡ Steps x → NoneTrue ts × (step ≡ x)) → ((t.0 ≡ false) × NoneTrue ts) × (step ≡ x)
    by_test true is f later = absurd (let no_ : Refused t.1 ≡ Steps x = f in cc)
    by_test false is f later = ((is, (later f).0), (later f).1)

pub not-false : (b : Bool) → not b ≡ false → b ≡ true
not-false true e = refl
not-false false e = absurd (let no_ : true ≡ false = e in cc)

pub not-true : (b : Bool) → not b ≡ true → b ≡ false
not-true true e = absurd (let no_ : false ≡ true = e in cc)
not-true false e = refl

pub or-false : (a b : Bool) → (a || b) ≡ false → (a ≡ false) × (b ≡ false)
or-false true b e = absurd (let no_ : true ≡ false = e in cc)
or-false false b e = (refl, e)

-- a test that is only asked where a is true
pub and-false : (a b : Bool) → (a && b) ≡ false → a ≡ true → b ≡ false
and-false true b e is = e
and-false false b e is = absurd (let no_ : false ≡ true = is in cc)

pub leb-false : (a b : ℕ) → nat_le a b ≡ false → b < a
leb-false a b e = grind (arith, e)

-- no statement was made there
pub is-none : {A : Type 0} (o : Option A) → is_none o ≡ true → o ≡ None
is-none None e = refl
is-none (Some a) e = absurd (let no_ : false ≡ true = e in cc)

-- the local views and views that a statement of a slot names, as the test has them
pub at-prepare : (s g l n : ℕ) (v : Value) → at_place (AtPrepare g l n) (prepare s g l n v) ≡ true
at-prepare s g l n v = three (eq-eqb g g refl) (eq-eqb l l refl) (eq-eqb n n refl)
  where
    three : {a b c : Bool} → a ≡ true → b ≡ true → c ≡ true → ((a && b) && c) ≡ true
    three {a} {b} {c} x y z = ap (λ k. (k && b) && c) x ∙ ap (λ k. k && c) y ∙ z

-- ---- a server on its way

-- All that a part's answer is judged by: a correct server's state in a world with the invariant, and what it heard.
pub record Context {Wire : Type 0} (d : Deployment Wire) (world : World Wire) (s : ℕ) (q : Answers) (rs : List Change) : Type 0 where
  pub few : HasFewFaulty d
  pub sites : AreSites (sites_in d)
  pub exists : s < d.sites
  pub invariant : Invariant (sites_in d) (plain_of d world)
  pub support : Support (sites_in d) (plain_of d world) s q rs
  pub keeps : Keeps d world q

module _ {Wire : Type 0} (d : Deployment Wire) (world : World Wire) (s : ℕ) (q : Answers) (rs : List Change) (on : Context d world s q rs) where
  -- a share of a site's server that is named as a correct one was made by it
  abbrev pub IsOwnShare : Statement → Signed → Type 0
  IsOwnShare t signed = IsTrue (is_correct d s signed.index) → Did d world on.few s t signed.index

  -- a number that isn't beyond the window
  pub in-window : (n : ℕ) → out_of_window q.here n ≡ false → n ≤ executed_of rs + WINDOW
  in-window n e =
      let parts = or-false (nat_le n q.here.executed) (nat_lt (q.here.executed + WINDOW) n) e in
      let low : n ≤ q.here.executed + WINDOW = low-from (q.here.executed + WINDOW) parts.1 in
      omega (arith, low, on.support.tells.executed)
    where
      low-from : (m : ℕ) → nat_lt m n ≡ false → n ≤ m
      low-from m f = grind (arith, f)

  -- with a quorum of shares the statement stands
  pub completed-stands : (p : Place) (t : Statement) (test : Statement → Bool) (signed : Signed) → site_of t ≡ s → IsTrue (test t) → IsOwnShare t signed →
      completes q.here (q.slots.shares p) t signed ≡ true → IsTrue (plain.stands (sites_in d) (plain_of d world) s test)
  unfolding agreeing
  completed-stands p t test signed site passes own done =
      let shares : ℕ → Option Share = with_share (q.slots.shares p) t signed in
      let enough : quorum q.here ≤ count_below (λ i. says t (shares i)) (servers q.here) = leb-true _ _ done in
      let many : 2 * d.f + 1 ≤ count_below (λ i. says t (shares i)) (servers_of d) = subst (λ f. 2 * f + 1 ≤ count_below (λ i. says t (shares i)) (3 * f + 1)) on.support.faults enough in
      sealed-stands d world on.few s t test (filter (λ i. says t (shares i)) (numbers_below (servers_of d))) on.exists passes
      (share-quorum d world on.few s t shares many (λ i said correct. by_index (nat_eq signed.index i) i refl said correct))
    where
      kept : (o : Option Share) (i : ℕ) → q.slots.shares p i ≡ o → IsTrue (says t o) → IsTrue (is_correct d s i) → Did d world on.few s t i
      kept None i e said correct = absurd (let no_ : false ≡ true = said in cc)
      kept (Some x) i e said correct =
          let same : x.statement ≡ t = (same_statement-Decides x.statement t).0 said in
          let of_site : site_of x.statement ≡ s = ap site_of same ∙ site in
          subst (λ (y : Statement). Has y ((plain_of d world).made s i)) same
          (subst (λ z. Has x.statement ((plain_of d world).made z i)) of_site
          (on.keeps.shares p i x e (subst (λ z. IsTrue (is_correct d z i)) (sym of_site) correct)))

      by_index : (b : Bool) (i : ℕ) → nat_eq signed.index i ≡ b → IsTrue (says t (cond b (Some (record { statement = t; seal = signed.seal })) (q.slots.shares p i))) → IsTrue (is_correct d s i) → Did d world on.few s t i
      by_index true i is said correct =
          let index : signed.index ≡ i = eqb-true signed.index i is in
          subst (λ j. Did d world on.few s t j) index (own (subst (λ j. IsTrue (is_correct d s j)) (sym index) correct))
      by_index false i is said correct = kept (q.slots.shares p i) i refl said correct

  -- ---- a Prepare is complete

  -- A step of what follows a complete slot, after these records of the present views.
  prepares-may : (leaf view local n : ℕ) (v : Value) (w : Quorum) (more : List Change) → view ≡ view_of more → local ≡ local_of more → n ≤ executed_of more + WINDOW →
      IsTrue (plain.stands (sites_in d) (plain_of d world) s (is_prepare s view local n v)) → MayStep (sites_in d) (plain_of d world) s more (prepares q.here q.slots leaf view local n v w)
  prepares-may leaf view local n v w more in_view in_local window stand =
      let site : q.here.seat.site ≡ s = on.support.site in
      then-may (sites_in d) (plain_of d world) s more (recording (Prepared (a_prepare q.here.seat.site view local n v) w))
      (when (is_none (q.slots.made (AtProposal view local n))) (making leaf (a_proposal q.here.seat.site view local n v) forms.Share (to_rep q.here)))
      (record { simple = (tt, tt); may = ((site, in_view, in_local, window), (stand, tt)); puts = tt })
      (when-may (sites_in d) (plain_of d world) s (Prepared (a_prepare q.here.seat.site view local n v) w ∷ more) (is_none (q.slots.made (AtProposal view local n)))
      (making leaf (a_proposal q.here.seat.site view local n v) forms.Share (to_rep q.here))
      (λ free. record {
        simple = (tt, tt);
        may = ((site, record { view = in_view; local = in_local; prepared = inl (ap (λ z. prepare z view local n v) (sym site)) }), (tt, tt));
        puts = ((tt, (inl refl, (omega (arith, in_view), omega (arith, in_local)))), tt);
      }))

  -- the share is kept, and what follows
  keeps_prepare-may : (leaf site view local n : ℕ) (v : Value) (signed : Signed) (more : List Change) → site ≡ s → view ≡ view_of more → local ≡ local_of more → n ≤ executed_of more + WINDOW →
      IsOwnShare (a_prepare site view local n v) signed → MayStep (sites_in d) (plain_of d world) s more (keeps_prepare q.here q.slots leaf site view local n v signed)
  keeps_prepare-may leaf site view local n v signed more of_site in_view in_local window own =
      then-may (sites_in d) (plain_of d world) s more (keeping (messages.Share (a_prepare site view local n v) signed)) _ (record { simple = tt; may = tt; puts = tt })
      (when-may (sites_in d) (plain_of d world) s more (completes_prepare q.here q.slots site view local n v signed) _
      (λ done. prepares-may leaf view local n v _ more in_view in_local window
      (completed-stands (AtPrepare view local n) (a_prepare site view local n v) (is_prepare s view local n v) signed of_site
      (subst (λ z. IsTrue (is_prepare s view local n v (prepare z view local n v))) (sym of_site) (is_prepare-refl s view local n v)) own done)))

  -- the share in a message that is sound
  share-own : (t : Statement) (signed : Signed) → site_of t ≡ s → AllOf (IsHonestSeal d world) (in_quorum (site_of t) t (signed ∷ [])) → IsOwnShare t signed
  unfolding in_quorum
  share-own t signed site honest correct =
      subst (λ z. Has t ((plain_of d world).made z signed.index)) site
      (made-by (server_at (site_of t) signed.index) world.made [] t (honest.0 (subst (λ z. IsTrue (is_correct d z signed.index)) (sym site) correct)))

  -- The share of a Prepare.
  pub prepare-may : (site view local n : ℕ) (v : Value) (signed : Signed) (step : Step) → IsSound d world (messages.Share (a_prepare site view local n v) signed) →
      on_prepare q.here q.slots site view local n v signed ≡ Steps step → MayStep (sites_in d) (plain_of d world) s rs step
  unfolding seals_of
  prepare-may site view local n v signed step sound e =
      let passed = decides-steps (prepare_reasons q.here q.slots site view local n v signed) (prepare_step q.here q.slots site view local n v signed) step e in
      let of_site : site ≡ s = eqb-true site q.here.seat.site (not-false _ passed.0.0) ∙ on.support.site in
      let here : (nat_eq view q.here.view && nat_eq local q.here.local) ≡ true = not-false _ passed.0.1.0 in
      let in_view : view ≡ view_of rs = eqb-true view q.here.view (first-of-two _ _ here) ∙ on.support.tells.view in
      let in_local : local ≡ local_of rs = eqb-true local q.here.local (second-of-two _ _ here) ∙ on.support.tells.local in
      subst (λ (x : Step). MayStep (sites_in d) (plain_of d world) s rs x) passed.1
      (keeps_prepare-may q.here.leaf site view local n v signed rs of_site in_view in_local (in-window n passed.0.1.1.0) (share-own (a_prepare site view local n v) signed of_site sound.honest))

  -- ---- a Prepare is made

  -- A Prepare of a value that obeys the unions, in an open slot of the present views, may be made.
  pub makes-prepare : (leaf n : ℕ) (v : Value) (form : Form) (to : Scope) → leader (sites_in d) q.here.view ≡ s → waits (forced_of q.here q.unions) ≡ false → (forced_of q.here q.unions).base < n → q.here.executed < n →
      q.slots.made (AtPrepare q.here.view q.here.local n) ≡ None → Obeys (forced_value q.here q.unions n) v → plain.IsOwn (plain_of d world) v →
      MayStep (sites_in d) (plain_of d world) s rs (making leaf (a_prepare q.here.seat.site q.here.view q.here.local n v) form to)
  makes-prepare leaf n v form to leads waiting low unexecuted free obeys own =
      let site : q.here.seat.site ≡ s = on.support.site in
      let stand = may-stand (sites_in d) (plain_of d world) s q rs on.invariant on.exists on.support n v waiting low obeys in
      record {
        simple = (tt, tt);
        may = (
          (
            site,
            record {
              leads = sym leads;
              view = on.support.tells.view;
              local = on.support.tells.local;
              first = λ u has.
                  let no_ : at_place (AtPrepare q.here.view q.here.local n) (prepare s q.here.view q.here.local n u) ≡ false = on.support.tells.unmade (AtPrepare q.here.view q.here.local n) opened free (prepare s q.here.view q.here.local n u) has in
                  let yes : at_place (AtPrepare q.here.view q.here.local n) (prepare s q.here.view q.here.local n u) ≡ true = at-prepare s q.here.view q.here.local n u in
                  cc;
              value = stand;
            },
          ),
          (own, tt),
        );
        puts = ((of-site s form (a_prepare q.here.seat.site q.here.view q.here.local n v) site, (inl refl, tt)), tt);
      }
    where
      three : {a b c : Bool} → a ≡ true → b ≡ true → c ≡ true → ((a && b) && c) ≡ true
      three {a} {b} {c} x y z = ap (λ k. (k && b) && c) x ∙ ap (λ k. k && c) y ∙ z

      opened : open_place q.here (AtPrepare q.here.view q.here.local n) ≡ true
      opened = three (le-leb q.here.view q.here.view (omega arith)) (le-leb q.here.local q.here.local (omega arith)) (lt-ltb q.here.executed n unexecuted)

  -- ---- an assignment

  -- a value that isn't another one obeys the unions
  obeys-assigned : (n : ℕ) (v : Value) (seal : Bytes) → is_other_value q.here (forced_of q.here q.unions) n v seal ≡ false → Obeys (forced_value q.here q.unions n) v
  unfolding forced_of
  obeys-assigned n v seal e = by_forced (forced_value q.here q.unions n) e
    where
      by_forced : (o : Option Value) → given o (cond (is_noop v) (not (forced_above q.here (forced_of q.here q.unions) n)) (is_empty seal)) (λ u. not (same_value u v)) ≡ false → Obeys o v
      by_forced None f = tt
      by_forced (Some u) f = (same_value-Decides u v).0 (not-false _ f)

  -- an update in an assignment with its client's seal is its client's own
  assigned-update : (view local n : ℕ) (u : Update) (seal : Bytes) (signed : Signed) → IsSound d world (messages.Assign (record { 0 = view }) (record { 0 = local }) (record { 0 = n }) (values.Update u) seal signed) →
      is_empty seal ≡ false → Has u (plain_of d world).updates
  unfolding seals_of
  assigned-update view local n u seal signed sound some =
      let x : Sealed = record { who = parties.Client u.client; statement = ClientUpdate u; seal = seal } in
      let rest : List Sealed = in_quorum (view % d.sites) (a_prepare (view % d.sites) view local n (values.Update u)) (signed ∷ []) in
      let honest : AllOf (IsHonestSeal d world) (x ∷ rest) = subst (λ b. AllOf (IsHonestSeal d world) (cond b [] (x ∷ []) ++ rest)) some sound.honest in
      updates-of u.client world.made [] u (honest.0 (lt-ltb u.client.0 d.clients sound.exact.0))

  -- and is its client's own
  assigned-own : (view local n : ℕ) (v : Value) (seal : Bytes) (signed : Signed) → IsSound d world (messages.Assign (record { 0 = view }) (record { 0 = local }) (record { 0 = n }) v seal signed) →
      is_other_value q.here (forced_of q.here q.unions) n v seal ≡ false → plain.IsOwn (plain_of d world) v
  unfolding forced_of
  assigned-own view local n v seal signed sound e = by_forced (forced_value q.here q.unions n) refl v sound e
    where
      by_seal : (u : Value) (b : Bool) → is_empty seal ≡ b → IsSound d world (messages.Assign (record { 0 = view }) (record { 0 = local }) (record { 0 = n }) u seal signed) →
          cond (is_noop u) (not (forced_above q.here (forced_of q.here q.unions) n)) b ≡ false → plain.IsOwn (plain_of d world) u
      by_seal values.Noop b is sound_ f = tt
      by_seal (values.Update u) true is sound_ f = absurd (let no_ : true ≡ false = f in cc)
      by_seal (values.Update u) false is sound_ f = assigned-update view local n u seal signed sound_ is

      by_forced : (o : Option Value) → forced_value q.here q.unions n ≡ o → (u : Value) → IsSound d world (messages.Assign (record { 0 = view }) (record { 0 = local }) (record { 0 = n }) u seal signed) →
          given o (cond (is_noop u) (not (forced_above q.here (forced_of q.here q.unions) n)) (is_empty seal)) (λ x. not (same_value x u)) ≡ false → plain.IsOwn (plain_of d world) u
      by_forced None is u sound_ f = by_seal u (is_empty seal) refl sound_ f
      by_forced (Some x) is u sound_ f =
          subst (λ (y : Value). plain.IsOwn (plain_of d world) y) ((same_value-Decides x u).0 (not-false _ f))
          (forced-own (sites_in d) (plain_of d world) s q rs on.sites on.invariant on.exists on.support n x is)

  -- the representative's share in an assignment
  assign-share : (view local n : ℕ) (v : Value) (seal : Bytes) (signed : Signed) → view % d.sites ≡ s → IsSound d world (messages.Assign (record { 0 = view }) (record { 0 = local }) (record { 0 = n }) v seal signed) →
      IsOwnShare (a_prepare q.here.seat.site view local n v) signed
  unfolding seals_of in_quorum
  assign-share view local n v seal signed leads sound correct =
      let t : ℕ → Statement = λ z. a_prepare z view local n v in
      let honest : AllOf (IsHonestSeal d world) (in_quorum (view % d.sites) (t (view % d.sites)) (signed ∷ [])) = all-right (in_client_seal v seal) _ sound.honest in
      let own : Has (t (view % d.sites)) ((plain_of d world).made (view % d.sites) signed.index) =
      made-by (server_at (view % d.sites) signed.index) world.made [] (t (view % d.sites)) (honest.0 (subst (λ z. IsTrue (is_correct d z signed.index)) (sym leads) correct)) in
      subst (λ z. Has (t z) ((plain_of d world).made s signed.index)) (leads ∙ sym on.support.site)
      (subst (λ z. Has (t (view % d.sites)) ((plain_of d world).made z signed.index)) leads own)
    where
      all-right : (xs zs : List Sealed) → AllOf (IsHonestSeal d world) (xs ++ zs) → AllOf (IsHonestSeal d world) zs
      all-right [] zs h = h
      all-right (a ∷ xs) zs h = all-right xs zs h.1

  -- An assignment.
  pub assign-may : (view local n : ℕ) (v : Value) (seal : Bytes) (signed : Signed) (step : Step) → IsSound d world (messages.Assign (record { 0 = view }) (record { 0 = local }) (record { 0 = n }) v seal signed) →
      on_assign q.here q.slots (forced_of q.here q.unions) view local n v seal signed ≡ Steps step → MayStep (sites_in d) (plain_of d world) s rs step
  assign-may view local n v seal signed step sound e =
      let passed = decides-steps (assign_reasons q.here q.slots (forced_of q.here q.unions) view local n v seal signed) (assign_step q.here q.slots view local n v signed) step e in
      let at_site : view % q.here.seat.sites ≡ q.here.seat.site = eqb-true _ _ (not-false _ passed.0.0) in
      let leads : view % d.sites ≡ s = subst (λ m. view % m ≡ s) on.support.sites (at_site ∙ on.support.site) in
      let here : (nat_eq view q.here.view && nat_eq local q.here.local) ≡ true = not-false _ passed.0.1.0 in
      let of_view : view ≡ q.here.view = eqb-true view q.here.view (first-of-two _ _ here) in
      let of_local : local ≡ q.here.local = eqb-true local q.here.local (second-of-two _ _ here) in
      let in_view : view ≡ view_of rs = of_view ∙ on.support.tells.view in
      let in_local : local ≡ local_of rs = of_local ∙ on.support.tells.local in
      let window = or-false (nat_le n q.here.executed) _ passed.0.1.1.0 in
      let unexecuted : q.here.executed < n = leb-false n q.here.executed window.0 in
      subst (λ (x : Step). MayStep (sites_in d) (plain_of d world) s rs x) passed.1
      (then-may (sites_in d) (plain_of d world) s rs _ _
      (when-may (sites_in d) (plain_of d world) s rs (assigns q.slots view local n) _ (λ new.
      made-there of_view of_local leads unexecuted (is-none _ new) (and-false _ _ passed.0.1.1.1.1.1.0 new) (leb-false _ _ (and-false _ _ passed.0.1.1.1.1.1.1.0 new)) (and-false _ _ passed.0.1.1.1.1.1.1.1.0 new)))
      (when-may (sites_in d) (plain_of d world) s _ (keeps_assigned q.here q.slots view local n) _ (λ keep.
      keeps_prepare-may _ q.here.seat.site view local n v signed _ on.support.site (in_view ∙ sym (stays-view (assigns q.slots view local n))) (in_local ∙ sym (stays-local (assigns q.slots view local n)))
      (omega (arith, in-window n passed.0.1.1.0, stays-executed (assigns q.slots view local n)))
      (assign-share view local n v seal signed leads sound))))
    where
      made : Step
      made = making q.here.leaf (a_prepare q.here.seat.site view local n v) forms.Share (to_site q.here)

      stays-view : (b : Bool) → view_of (onto (when b made).changes rs) ≡ view_of rs
      stays-view true = refl
      stays-view false = refl

      stays-executed : (b : Bool) → executed_of (onto (when b made).changes rs) ≡ executed_of rs
      stays-executed true = refl
      stays-executed false = refl

      stays-local : (b : Bool) → local_of (onto (when b made).changes rs) ≡ local_of rs
      stays-local true = refl
      stays-local false = refl

      made-there : view ≡ q.here.view → local ≡ q.here.local → view % d.sites ≡ s → q.here.executed < n → q.slots.made (AtPrepare view local n) ≡ None →
          waits (forced_of q.here q.unions) ≡ false → (forced_of q.here q.unions).base < n → is_other_value q.here (forced_of q.here q.unions) n v seal ≡ false → MayStep (sites_in d) (plain_of d world) s rs made
      made-there of_view of_local leads unexecuted free waiting low same =
          subst (λ g. MayStep (sites_in d) (plain_of d world) s rs (making q.here.leaf (a_prepare q.here.seat.site g local n v) forms.Share (to_site q.here))) (sym of_view)
          (subst (λ l. MayStep (sites_in d) (plain_of d world) s rs (making q.here.leaf (a_prepare q.here.seat.site q.here.view l n v) forms.Share (to_site q.here))) (sym of_local)
          (makes-prepare q.here.leaf n v forms.Share (to_site q.here) (subst (λ g. g % d.sites ≡ s) of_view leads) waiting low unexecuted
          (subst (λ g. q.slots.made (AtPrepare g q.here.local n) ≡ None) of_view (subst (λ l. q.slots.made (AtPrepare view l n) ≡ None) of_local free))
          (obeys-assigned n v seal same) (assigned-own view local n v seal signed sound same)))

  -- ---- a Proposal's certificate

  pub proposal-may : (site view local n : ℕ) (v : Value) (w : Quorum) (step : Step) → IsSound d world (messages.Certificate (a_proposal site view local n v) w) →
      on_proposal q.here q.slots site view local n v w ≡ Steps step → MayStep (sites_in d) (plain_of d world) s rs step
  unfolding seals_of
  proposal-may site view local n v w step sound e =
      let passed = decides-steps (proposal_reasons q.here q.slots view n) (proposal_step q.here site view local n v w) step e in
      let of_view : view ≡ q.here.view = eqb-true view q.here.view (not-false _ passed.0.0) in
      let in_view : view ≡ view_of rs = of_view ∙ on.support.tells.view in
      let exists : site < d.sites = sound.exact.0.0.0 in
      let leads : view % d.sites ≡ site = sound.exact.0.0.1 in
      let t : Statement = a_proposal site view local n v in
      let stand : IsTrue (plain.stands (sites_in d) (plain_of d world) site (is_proposal site view local n v)) =
      sealed-stands d world on.few site t (is_proposal site view local n v) (indices w) exists (is_proposal-refl site view local n v)
      (a-quorum d world on.few site t w sound.exact.1 (quorum-distinct w sound.ranged.0.1) sound.honest) in
      subst (λ (x : Step). MayStep (sites_in d) (plain_of d world) s rs x) passed.1
      (record {
        simple = (tt, (tt, tt));
        may = (
          (sym leads, in_view, in-window n passed.0.1.0),
          (
            subst (λ z. IsTrue (plain.stands (sites_in d) (plain_of d world) z (is_proposal z view local n v))) (sym leads) stand,
            ((on.support.site, record { view = in_view; local = local; accepted = inl (ap (λ z. proposal z view local n v) leads) }), (tt, tt)),
          ),
        );
        puts = ((tt, (inl refl, omega (arith, in_view))), tt);
      })
