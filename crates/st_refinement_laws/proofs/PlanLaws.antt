-- A course on its way is a context; messages of the normal case and the tick are carried out.
use Rattle.std.proofs.Common.{◌≡◌, ℕ, ◌+◌, ◌<◌, Bool, true, false, cond, zero, suc, nat_eq, List, [], ◌∷◌, ◌++◌, refl, sym, ◌∙◌, subst, inl, arith}
use Rattle.std.specs.Prelude.{◌&&◌, ◌%◌, Option, Some, None, is_some, is_none}
use Rattle.std.proofs.lemmas.Bool.{eqb-true}
use Rattle.st_words.specs.declared.deployment.TheConstants.{WINDOW}
use Rattle.st_words.specs.declared.ids.LocalView.{LocalView}
use Rattle.st_words.specs.declared.ids.Number.{Number}
use Rattle.st_words.specs.declared.ids.SiteId.{SiteId}
use Rattle.st_words.specs.declared.ids.View.{View}
use Rattle.st_words.specs.declared.statement.Statement.{Statement}
use Rattle.st_words.specs.declared.statement.Statement.TheVariants.{Prepare, Proposal, Accept}
use Rattle.st_seal.specs.declared.quorum.Signed.{Signed}
use Rattle.st_message.specs.declared.message.Message.{Message}
use Rattle.st_message.specs.declared.message.Message.TheVariants as messages
use Rattle.st_message.specs.declared.change.Change.{Change}
use Rattle.st_message.specs.declared.change.Change.TheVariants.{Made}
use Rattle.st_message.specs.declared.message.ReportBody.{ReportBody}
use Rattle.st_message.specs.declared.change.Heard.{Heard}
use Rattle.st_message.specs.declared.event.Scope.{Scope}
use Rattle.st_message.specs.declared.step.Form.TheVariants as forms
use Rattle.st_message.specs.declared.step.Out.{Out}
use Rattle.st_message.specs.declared.step.Out.TheVariants.{Make, Send}
use Rattle.st_message.specs.declared.step.Step.{Step}
use Rattle.st_counts.specs.Counts.{Has, AllOf}
use Rattle.st_agreement.specs.MiniSteps.{Backed, BackedMade, IsCurrent, Invariant}
use Rattle.st_agreement.specs.Rules.{History, Makes}
use Rattle.st_agreement.specs.Records.{made_of, view_of, local_of}
use Rattle.st_agreement.specs.Sites.{Sites, AreSites}
use Rattle.st_agreement.proofs.HistoryLaws.{made-prepare}
use Rattle.st_protocol.specs.Words.{Bytes, Quorum, a_prepare, site_of, to_server_at}
use Rattle.st_protocol.specs.Keeping.{given}
use Rattle.st_protocol.specs.State.{AtPrepare, AtProposal, AtAccept, Term, OfLocal, OfGlobal, at_place, at_vc, at_union, at_reply, Sealing, Share, Completed, Answers}
use Rattle.st_protocol.specs.Questions.{here_of, questions}
use Rattle.st_protocol.specs.Growth.{hears}
use Rattle.st_protocol.specs.Step.{servers, Steps, idle, then, making, keeping, completing, putting, when, all_below, to_list, rep, to_rep, to_site, completes, completed, certifies}
use Rattle.st_protocol.specs.Forced.{forced_of}
use Rattle.st_protocol.specs.Assigning.{update_reasons, update_step, assigns, keeps_assigned, completes_prepare, prepares, keeps_prepare, assign_reasons, assign_step, prepare_reasons, prepare_step, proposal_share_reasons, proposal_share_step}
use Rattle.st_protocol.specs.Ordering.{accept_share_reasons, accept_share_step, proposal_reasons, proposal_step, keeps_and_executes, accept_reasons, accept_step}
use Rattle.st_protocol.specs.Reconciling.{ask}
use Rattle.st_protocol.specs.Duty.{Pen, Course, begins, carries, carries_changes, of_kind, share_of, report_again, prepare_again, number_again, certificate_again, certificates_again, ask_to, tick_out}
use Rattle.st_words.specs.declared.value.Update.{Update}
use Rattle.st_words.specs.declared.value.Value.{Value}
use Rattle.st_message.specs.declared.event.Scope.TheVariants as scopes
use Rattle.st_protocol.specs.Known.{Sealed, seals_of, in_quorum, in_client_seal}
use Rattle.st_protocol.specs.World.{Deployment, World, seat_of}
use Rattle.st_protocol.proofs.QuestionLaws.{one_heard}
use Rattle.st_ranges.specs.Deployments.{KeepsRanges}
use Rattle.st_answer_laws.specs.Fair.{HasFewFaulty}
use Rattle.st_answer_laws.specs.Plain.{onto, newest, sites_in, plain_of}
use Rattle.st_answer_laws.specs.Sound.{IsHonestSeal, IsSound, IsSoundHeard}
use Rattle.st_answer_laws.specs.Support.{Support, MayPut, MayStep}
use Rattle.st_answer_laws.proofs.RecordLaws.{newest-push, tells}
use Rattle.st_answer_laws.proofs.SealLaws.{first-of-two, second-of-two}
use Rattle.st_answer_laws.proofs.KeepLaws.{Keeps, keeps}
use Rattle.st_answer_laws.proofs.WayLaws.{all-append, may-history, may-backed, idle-may, OnCourse, on-begins, on-carries, on-executions, on-heard, AreExecutions}
use Rattle.st_answer_laws.proofs.ExecuteLaws.{executed-all}
use Rattle.st_answer_laws.proofs.NormalLaws.{decides-steps, not-false, Context, prepare-may, assign-may, proposal-may}

-- ---- what is heard of a step

heard-when : (P : Heard → Type 0) (b : Bool) (step : Step) → AllOf P step.heard → AllOf P (when b step).heard
heard-when P true step h = h
heard-when P false step h = tt

-- ---- outputs below a number

pub puts-below : (s : ℕ) (rs : List Change) (f : ℕ → List Out) (k : ℕ) → ((i : ℕ) → AllOf (MayPut s rs) (f i)) → AllOf (MayPut s rs) (all_below f k)
unfolding all_below
puts-below s rs f zero all = tt
puts-below s rs f (suc k) all = all-append (MayPut s rs) (all_below f k) (f k) (puts-below s rs f k all) (all k)

-- a Reply may always be handed out
current-reply : (n : ℕ) (t : Statement) (rs : List Change) → at_reply n t ≡ true → IsCurrent t rs
current-reply n (Proposal s g l m v) rs e = absurd (let no_ : false ≡ true = e in cc)
current-reply n (Accept s g m v) rs e = absurd (let no_ : false ≡ true = e in cc)
current-reply n _ rs e = tt

-- what asks for a view, and a union
current-vc : (t : Term) (x : Statement) (rs : List Change) → at_vc t x ≡ true → IsCurrent x rs
current-vc t (Proposal s g l m v) rs e = absurd (let no_ : false ≡ true = e in cc)
current-vc t (Accept s g m v) rs e = absurd (let no_ : false ≡ true = e in cc)
current-vc t _ rs e = tt

current-union : (t : Term) (x : Statement) (rs : List Change) → at_union t x ≡ true → IsCurrent x rs
current-union t (Proposal s g l m v) rs e = absurd (let no_ : false ≡ true = e in cc)
current-union t (Accept s g m v) rs e = absurd (let no_ : false ≡ true = e in cc)
current-union t _ rs e = tt

-- a Prepare, and a Proposal and an Accept of the present views
current-prepare : (g l n : ℕ) (x : Statement) (rs : List Change) → at_place (AtPrepare g l n) x ≡ true → IsCurrent x rs
current-prepare g l n (Proposal s g2 l2 m v) rs e = absurd (let no_ : false ≡ true = e in cc)
current-prepare g l n (Accept s g2 m v) rs e = absurd (let no_ : false ≡ true = e in cc)
current-prepare g l n _ rs e = tt

current-proposal : (g l n : ℕ) (x : Statement) (rs : List Change) → g ≡ view_of rs → l ≡ local_of rs → at_place (AtProposal g l n) x ≡ true → IsCurrent x rs
current-proposal g l n (Proposal s g2 l2 m v) rs in_view in_local e =
    let both = first-of-two (nat_eq g g2.0 && nat_eq l l2.0) (nat_eq n m.0) e in
    let of_view : g ≡ g2.0 = eqb-true g g2.0 (first-of-two (nat_eq g g2.0) (nat_eq l l2.0) both) in
    let of_local : l ≡ l2.0 = eqb-true l l2.0 (second-of-two (nat_eq g g2.0) (nat_eq l l2.0) both) in
    (omega (arith, of_view, in_view), omega (arith, of_local, in_local))
current-proposal g l n (Accept s g2 m v) rs in_view in_local e = absurd (let no_ : false ≡ true = e in cc)
current-proposal g l n _ rs in_view in_local e = tt

current-accept : (g n : ℕ) (x : Statement) (rs : List Change) → g ≡ view_of rs → at_place (AtAccept g n) x ≡ true → IsCurrent x rs
current-accept g n (Accept s g2 m v) rs in_view e =
    let of_view : g ≡ g2.0 = eqb-true g g2.0 (first-of-two (nat_eq g g2.0) (nat_eq n m.0) e) in
    omega (arith, of_view, in_view)
current-accept g n (Proposal s g2 l2 m v) rs in_view e = absurd (let no_ : false ≡ true = e in cc)
current-accept g n _ rs in_view e = tt

-- a Prepare that was made is of the own site
prepare-site : (d : Sites) (s g l n : ℕ) (x : Statement) (rs : List Change) → History d s rs → Has x (made_of rs) → at_place (AtPrepare g l n) x ≡ true → site_of x ≡ s
prepare-site d s g l n (Prepare s2 g2 l2 n2 v) rs history has e = (made-prepare d s s2.0 g2.0 l2.0 n2.0 v rs history has).site
prepare-site d s g l n _ rs history has e = absurd (let no_ : false ≡ true = e in cc)

-- a statement goes out again
share-may : (s : ℕ) (rs : List Change) (o : Option Sealing) (to : Scope) → ((m : Sealing) → o ≡ Some m → Has m.statement (made_of rs) × IsCurrent m.statement rs) → AllOf (MayPut s rs) (share_of o to)
share-may s rs None to may = tt
share-may s rs (Some m) to may = ((tt, may m refl), tt)

module _ {Wire : Type 0} (d : Deployment Wire) (world : World Wire) (few : HasFewFaulty d) (ranges : KeepsRanges d) (sites : AreSites (sites_in d)) (s k : ℕ) (exists : s < d.sites) (correct : Has k ((sites_in d).correct s))
    (inv : Invariant (sites_in d) (plain_of d world)) (sound_heard : AllOf (IsSoundHeard d world) (world.nodes s k).heard) where
  abbrev pub bodies : List (List Change)
  bodies = (world.nodes s k).bodies

  abbrev pub heard : List Heard
  heard = (world.nodes s k).heard

  abbrev pub On : Course → Type 0
  On way = OnCourse d world s k (seat_of d s k) bodies heard way

  -- a course on its way is a context
  pub context-on : (way : Course) → On way → Context d world s way.now (onto way.changes (newest bodies))
  unfolding bodies heard On questions here_of
  context-on way on =
      let rs : List Change = newest bodies in
      let history = may-history (sites_in d) (plain_of d world) s rs way.changes (inv.history s k exists correct) on.may in
      let backed = may-backed (sites_in d) (plain_of d world) s rs way.changes (inv.backed s k exists correct) on.may in
      let more : newest (bodies ++ way.changes ∷ []) ≡ onto way.changes rs = newest-push bodies way.changes in
      let q : Answers = questions (seat_of d s k) (bodies ++ way.changes ∷ []) (heard ++ way.heard) in
      let at_q : Context d world s q (onto way.changes rs) =
      record {
        few = few;
        sites = sites;
        exists = exists;
        invariant = inv;
        support = subst (λ (z : List Change). Support (sites_in d) (plain_of d world) s q z) more
            (record {
              site = refl;
              sites = refl;
              faults = refl;
              tells = tells (sites_in d) s (seat_of d s k) (bodies ++ way.changes ∷ []) (heard ++ way.heard) (subst (λ (z : List Change). History (sites_in d) s z) (sym more) history);
              history = subst (λ (z : List Change). History (sites_in d) s z) (sym more) history;
              backed = subst (λ (z : List Change). (c : Change) → Has c z → Backed (sites_in d) (plain_of d world) s c) (sym more) backed;
            });
        keeps = keeps d world few (seat_of d s k) (bodies ++ way.changes ∷ []) (heard ++ way.heard) (all-append (IsSoundHeard d world) heard way.heard sound_heard on.sound);
      } in
      subst (λ (x : Answers). Context d world s x (onto way.changes rs)) (sym on.follows) at_q

  -- what the state answers
  abbrev pub state : Answers
  state = questions (seat_of d s k) bodies heard

  -- it is a context too
  pub context : Context d world s state (newest bodies)
  unfolding bodies heard state On begins
  context = context-on (begins state) (on-begins d world s k (seat_of d s k) bodies heard)

  -- a step that may be taken is carried out
  pub carried : (pen : Pen) (step : Step) → MayStep (sites_in d) (plain_of d world) s (newest bodies) step → AllOf (IsSoundHeard d world) step.heard → On (carries pen (begins state) step)
  unfolding On state begins
  carried pen step may sound = on-carries d world s k (seat_of d s k) bodies heard pen (begins state) step may sound (on-begins d world s k (seat_of d s k) bodies heard)

  -- ---- messages

  -- a share at the representative: nothing is recorded
  pub certifies-course : (pen : Pen) (shares : ℕ → Option Share) (t : Statement) (signed : Signed) (to : Scope) (step : Step) → IsSound d world (messages.Share t signed) → certifies state.here shares t signed to ≡ step → On (carries pen (begins state) step)
  certifies-course pen shares t signed to step sound e =
      subst (λ (x : Step). On (carries pen (begins state) x)) e
      (by_test (completes state.here shares t signed))
    where
      by_test : (b : Bool) → On (carries pen (begins state) (then (keeping (messages.Share t signed)) (when b (completing (messages.Certificate t (completed state.here shares t signed)) to))))
      by_test true = carried pen _ (record { simple = tt; may = tt; puts = (tt, tt) }) ((λ own. sound), ((λ own. absurd (let no_ : true ≡ false = own in cc)), tt))
      by_test false = carried pen _ (record { simple = tt; may = tt; puts = tt }) ((λ own. sound), tt)

  -- an Accept certificate: it is kept, and what is in hand is executed
  pub executes-course : (pen : Pen) (m : Message) (step : Step) → IsSound d world m → keeps_and_executes state.here state.hand m ≡ step → On (carries pen (begins state) step)
  unfolding On state heard bodies carries begins
  executes-course pen m step sound e =
      subst (λ (x : Step). On (carries pen (begins state) x)) e
      (on-heard d world s k (seat_of d s k) bodies heard (carries_changes pen (begins state) changes) (h ∷ []) ((λ own. sound), tt)
      (on-executions d world s k (seat_of d s k) bodies heard pen (begins state) changes refl (subst (λ m. AreExecutions d world (m + 1) changes) context.support.tells.executed all) (on-begins d world s k (seat_of d s k) bodies heard))).0
    where
      h : Heard
      h = record { own = false; message = m }

      changes : List Change
      changes = (keeps_and_executes state.here state.hand m).changes

      kept : Keeps d world (hears state h)
      kept =
          subst (λ (x : Answers). Keeps d world x) (one_heard (seat_of d s k) bodies heard h)
          (keeps d world few (seat_of d s k) bodies (heard ++ h ∷ []) (all-append (IsSoundHeard d world) heard (h ∷ []) sound_heard ((λ own. sound), tt)))

      all : AreExecutions d world (state.here.executed + 1) changes
      all = executed-all d world state h kept context.support.sites

  -- an update: the Reply that was made goes out again, or the update is kept
  update-course : (pen : Pen) (u : Update) (seal : Bytes) (last place : ℕ) (step : Step) → IsSound d world (messages.Update u seal) → update_step last (state.making.reply place) u seal ≡ step → On (carries pen (begins state) step)
  update-course pen u seal last place step sound e = subst (λ (x : Step). On (carries pen (begins state) x)) e (by_test (nat_eq u.time last))
    where
      by_reply : (o : Option Sealing) → state.making.reply place ≡ o → On (carries pen (begins state) (given o idle (λ r. putting (Make r.statement forms.Reply (scopes.Client u.client)))))
      by_reply None is = carried pen idle (idle-may (sites_in d) (plain_of d world) s (newest bodies)) tt
      by_reply (Some r) is =
          let made = context.support.tells.reply place r is in
          carried pen _ (record { simple = tt; may = tt; puts = ((tt, (made.0, current-reply place r.statement (newest bodies) made.1)), tt) }) tt

      by_test : (b : Bool) → On (carries pen (begins state) (cond b (given (state.making.reply place) idle (λ r. putting (Make r.statement forms.Reply (scopes.Client u.client)))) (keeping (messages.Update u seal))))
      by_test true = by_reply (state.making.reply place) refl
      by_test false = carried pen _ (record { simple = tt; may = tt; puts = tt }) ((λ own. sound), tt)

  -- what a complete slot has follow keeps nothing
  prepares-heard : (leaf view local n : ℕ) (v : Value) (w : Quorum) → AllOf (IsSoundHeard d world) (prepares state.here state.slots leaf view local n v w).heard
  prepares-heard leaf view local n v w = heard-when (IsSoundHeard d world) (is_none (state.slots.made (AtProposal view local n))) _ tt

  -- a share that is kept
  keeps_prepare-heard : (leaf site view local n : ℕ) (v : Value) (signed : Signed) → IsSound d world (messages.Share (a_prepare site view local n v) signed) → AllOf (IsSoundHeard d world) (keeps_prepare state.here state.slots leaf site view local n v signed).heard
  keeps_prepare-heard leaf site view local n v signed sound =
      ((λ own. sound), heard-when (IsSoundHeard d world) (completes_prepare state.here state.slots site view local n v signed) _ (prepares-heard leaf view local n v (completed state.here (state.slots.shares (AtPrepare view local n)) (a_prepare site view local n v) signed)))

  -- an assignment's share is as sound as the assignment
  assigned-sound : (view local n : ℕ) (v : Value) (seal : Bytes) (signed : Signed) → view % d.sites ≡ s → IsSound d world (messages.Assign (record { 0 = view }) (record { 0 = local }) (record { 0 = n }) v seal signed) →
      IsSound d world (messages.Share (a_prepare s view local n v) signed)
  unfolding seals_of in_quorum
  assigned-sound view local n v seal signed leads sound =
      let own : AllOf (IsHonestSeal d world) (in_quorum (view % d.sites) (a_prepare (view % d.sites) view local n v) (signed ∷ [])) = all-right (in_client_seal v seal) _ sound.honest in
      record {
        exact = (((exists, leads), sound.exact.0), sound.exact.1);
        honest = subst (λ z. AllOf (IsHonestSeal d world) (in_quorum z (a_prepare z view local n v) (signed ∷ []))) leads own;
        ranged = (
          ((refl, (sound.ranged.0.0, sound.ranged.0.1)), sound.ranged.0.3),
          ((omega (arith, exists, ranges.sites), sound.ranged.1.0, sound.ranged.1.1, sound.ranged.1.2, sound.ranged.1.3), sound.ranged.1.4),
        );
      }
    where
      all-right : (xs zs : List Sealed) → AllOf (IsHonestSeal d world) (xs ++ zs) → AllOf (IsHonestSeal d world) zs
      all-right [] zs h = h
      all-right (a ∷ xs) zs h = all-right xs zs h.1

  -- ---- messages of the normal case, each at its part

  pub update-may : (pen : Pen) (u : Update) (seal : Bytes) (step : Step) → IsSound d world (messages.Update u seal) → of_kind state (messages.Update u seal) ≡ Steps step → On (carries pen (begins state) step)
  update-may pen u seal step sound e =
      update-course pen u seal (state.log.run.last u.client.0) (state.log.run.place u.client.0) step sound
      (decides-steps (update_reasons state.here state.pending (state.log.run.last u.client.0) (state.making.reply (state.log.run.place u.client.0)) u) (update_step (state.log.run.last u.client.0) (state.making.reply (state.log.run.place u.client.0)) u seal) step e).1

  pub assign-course : (pen : Pen) (view : View) (local : LocalView) (n : Number) (v : Value) (seal : Bytes) (signed : Signed) (step : Step) → IsSound d world (messages.Assign view local n v seal signed) →
      of_kind state (messages.Assign view local n v seal signed) ≡ Steps step → On (carries pen (begins state) step)
  assign-course pen view local n v seal signed step sound e =
      let passed = decides-steps (assign_reasons state.here state.slots (forced_of state.here state.unions) view.0 local.0 n.0 v seal signed) (assign_step state.here state.slots view.0 local.0 n.0 v signed) step e in
      let at_site : view.0 % state.here.seat.sites ≡ state.here.seat.site = eqb-true _ _ (not-false _ passed.0.0) in
      let leads : view.0 % d.sites ≡ s = subst (λ m. view.0 % m ≡ s) context.support.sites (at_site ∙ context.support.site) in
      carried pen step (assign-may d world s state (newest bodies) context view.0 local.0 n.0 v seal signed step sound e)
      (subst (λ (x : Step). AllOf (IsSoundHeard d world) x.heard) passed.1
      (all-append (IsSoundHeard d world) (when (assigns state.slots view.0 local.0 n.0) (making state.here.leaf (a_prepare state.here.seat.site view.0 local.0 n.0 v) forms.Share (to_site state.here))).heard _
      (heard-when (IsSoundHeard d world) (assigns state.slots view.0 local.0 n.0) _ tt)
      (heard-when (IsSoundHeard d world) (keeps_assigned state.here state.slots view.0 local.0 n.0) _
      (keeps_prepare-heard _ state.here.seat.site view.0 local.0 n.0 v signed
      (subst (λ z. IsSound d world (messages.Share (a_prepare z view.0 local.0 n.0 v) signed)) (sym context.support.site) (assigned-sound view.0 local.0 n.0 v seal signed leads sound))))))

  pub prepare-course : (pen : Pen) (site : SiteId) (view : View) (local : LocalView) (n : Number) (v : Value) (signed : Signed) (step : Step) → IsSound d world (messages.Share (Prepare site view local n v) signed) → of_kind state (messages.Share (Prepare site view local n v) signed) ≡ Steps step → On (carries pen (begins state) step)
  prepare-course pen site view local n v signed step sound e =
      carried pen step (prepare-may d world s state (newest bodies) context site.0 view.0 local.0 n.0 v signed step sound e)
      (subst (λ (x : Step). AllOf (IsSoundHeard d world) x.heard) (decides-steps (prepare_reasons state.here state.slots site.0 view.0 local.0 n.0 v signed) (prepare_step state.here state.slots site.0 view.0 local.0 n.0 v signed) step e).1
      (keeps_prepare-heard state.here.leaf site.0 view.0 local.0 n.0 v signed sound))

  pub proposal_share-course : (pen : Pen) (site : SiteId) (view : View) (local : LocalView) (n : Number) (v : Value) (signed : Signed) (step : Step) → IsSound d world (messages.Share (Proposal site view local n v) signed) → of_kind state (messages.Share (Proposal site view local n v) signed) ≡ Steps step → On (carries pen (begins state) step)
  proposal_share-course pen site view local n v signed step sound e =
      certifies-course pen _ _ signed _ step sound (decides-steps (proposal_share_reasons state.here state.slots site.0 view.0 local.0 n.0 signed) (proposal_share_step state.here state.slots site.0 view.0 local.0 n.0 v signed) step e).1

  pub accept_share-course : (pen : Pen) (site : SiteId) (view : View) (n : Number) (v : Value) (signed : Signed) (step : Step) → IsSound d world (messages.Share (Accept site view n v) signed) → of_kind state (messages.Share (Accept site view n v) signed) ≡ Steps step → On (carries pen (begins state) step)
  accept_share-course pen site view n v signed step sound e =
      certifies-course pen _ _ signed _ step sound (decides-steps (accept_share_reasons state.here state.slots site.0 view.0 n.0 signed) (accept_share_step state.here state.slots site.0 view.0 n.0 v signed) step e).1

  pub proposal-course : (pen : Pen) (site : SiteId) (view : View) (local : LocalView) (n : Number) (v : Value) (w : Quorum) (step : Step) → IsSound d world (messages.Certificate (Proposal site view local n v) w) → of_kind state (messages.Certificate (Proposal site view local n v) w) ≡ Steps step → On (carries pen (begins state) step)
  proposal-course pen site view local n v w step sound e =
      carried pen step (proposal-may d world s state (newest bodies) context site.0 view.0 local.0 n.0 v w step sound e)
      (subst (λ (x : Step). AllOf (IsSoundHeard d world) x.heard) (decides-steps (proposal_reasons state.here state.slots view.0 n.0) (proposal_step state.here site.0 view.0 local.0 n.0 v w) step e).1 tt)

  pub accept-course : (pen : Pen) (site : SiteId) (view : View) (n : Number) (v : Value) (w : Quorum) (step : Step) → IsSound d world (messages.Certificate (Accept site view n v) w) → of_kind state (messages.Certificate (Accept site view n v) w) ≡ Steps step → On (carries pen (begins state) step)
  accept-course pen site view n v w step sound e =
      executes-course pen _ step sound (decides-steps (accept_reasons state.here state.hand site.0 view.0 n.0) (accept_step state.here state.hand site.0 view.0 n.0 v w) step e).1

  -- ---- timeouts

  -- a statement that asks for a view is made
  pub asks-course : (pen : Pen) (t : Statement) (to : Scope) → Makes (sites_in d) s t (newest bodies) → BackedMade (sites_in d) (plain_of d world) s t → ((rs : List Change) → IsCurrent t rs) → On (carries pen (begins state) (making state.here.leaf t forms.Share to))
  asks-course pen t to makes backed current =
      carried pen _ (record { simple = (tt, tt); may = (makes, (backed, tt)); puts = ((tt, (inl refl, current (Made state.here.leaf t ∷ newest bodies))), tt) }) tt

  -- ---- the tick

  number-may : (n : ℕ) → AllOf (MayPut s (newest bodies)) (number_again state n)
  number-may n =
      let tell = context.support.tells in
      let rs : List Change = newest bodies in
      let a : List Out = to_list (given (state.slots.made (AtPrepare state.here.view state.here.local n)) None (λ m. Some (prepare_again state m))) in
      let b : List Out = share_of (state.slots.made (AtProposal state.here.view state.here.local n)) (to_rep state.here) in
      let c : List Out = share_of (state.slots.made (AtAccept state.here.view n)) (to_rep state.here) in
      all-append (MayPut s rs) (a ++ b) c
      (all-append (MayPut s rs) a b
      (by_made (state.slots.made (AtPrepare state.here.view state.here.local n)) refl)
      (share-may s rs (state.slots.made (AtProposal state.here.view state.here.local n)) (to_rep state.here)
      (λ m e. ((tell.made (AtProposal state.here.view state.here.local n) m e).0, current-proposal state.here.view state.here.local n m.statement rs tell.view tell.local (tell.made (AtProposal state.here.view state.here.local n) m e).1))))
      (share-may s rs (state.slots.made (AtAccept state.here.view n)) (to_rep state.here)
      (λ m e. ((tell.made (AtAccept state.here.view n) m e).0, current-accept state.here.view n m.statement rs tell.view (tell.made (AtAccept state.here.view n) m e).1)))
    where
      by_rep : (b : Bool) (m : Sealing) (seal : Bytes) → site_of m.statement ≡ s → Has m.statement (made_of (newest bodies)) × IsCurrent m.statement (newest bodies) →
          MayPut s (newest bodies) (cond b (Make m.statement (forms.Assign seal) (to_site state.here)) (Make m.statement forms.Share (to_site state.here)))
      by_rep true m seal site may = (site, may)
      by_rep false m seal site may = (tt, may)

      by_made : (o : Option Sealing) → state.slots.made (AtPrepare state.here.view state.here.local n) ≡ o → AllOf (MayPut s (newest bodies)) (to_list (given o None (λ m. Some (prepare_again state m))))
      by_made None e = tt
      by_made (Some m) e =
          let there = context.support.tells.made (AtPrepare state.here.view state.here.local n) m e in (
            by_rep (nat_eq state.here.seat.index (rep state.here)) m _
                (prepare-site (sites_in d) s state.here.view state.here.local n m.statement (newest bodies) context.support.history there.0 there.1)
                (there.0, current-prepare state.here.view state.here.local n m.statement (newest bodies) there.1),
            tt,
          )

  -- certificates, reports and questions hold no seal of the server's own that counts here
  certificate-may : (x : Option Completed) → AllOf (MayPut s (newest bodies)) (certificate_again state.here x)
  certificate-may None = tt
  certificate-may (Some c) = (tt, tt)

  report-may : (t : Term) → AllOf (MayPut s (newest bodies)) (report_again state t)
  report-may t = by_union (is_some (state.making.union t)) (state.own.report t)
    where
      by_union : (b : Bool) (o : Option ReportBody) → AllOf (MayPut s (newest bodies)) (cond b [] (given o [] (λ r. Send (messages.Report r) (to_rep state.here) ∷ [])))
      by_union true o = tt
      by_union false None = tt
      by_union false (Some r) = (tt, tt)

  ask-may : (site index : ℕ) → AllOf (MayPut s (newest bodies)) (ask_to state.here site index)
  ask-may site index = by_test (nat_eq site state.here.seat.site && nat_eq index state.here.seat.index)
    where
      by_test : (b : Bool) → AllOf (MayPut s (newest bodies)) (cond b [] (Send (ask state.here) (to_server_at site index) ∷ []))
      by_test true = tt
      by_test false = (tt, tt)

  vc-may : (t : Term) (to : Scope) → AllOf (MayPut s (newest bodies)) (share_of (state.making.vc t) to)
  vc-may t to = share-may s (newest bodies) (state.making.vc t) to (λ m e. ((context.support.tells.vc t m e).0, current-vc t m.statement (newest bodies) (context.support.tells.vc t m e).1))

  union-may : (t : Term) (to : Scope) → AllOf (MayPut s (newest bodies)) (share_of (state.making.union t) to)
  union-may t to = share-may s (newest bodies) (state.making.union t) to (λ m e. ((context.support.tells.union t m e).0, current-union t m.statement (newest bodies) (context.support.tells.union t m e).1))

  pub tick-puts : AllOf (MayPut s (newest bodies)) (tick_out state)
  unfolding tick_out
  tick-puts =
      let P : Out → Type 0 = MayPut s (newest bodies) in
      let x0 : List Out = share_of (state.making.vc (OfLocal (state.here.local + 1))) (to_site state.here) in
      let h0 : AllOf P x0 = vc-may (OfLocal (state.here.local + 1)) (to_site state.here) in
      let x1 : List Out = share_of (state.making.vc (OfGlobal (state.here.view + 1))) (to_rep state.here) in
      let h1 : AllOf P (x0 ++ x1) = all-append P (x0) x1 h0 (vc-may (OfGlobal (state.here.view + 1)) (to_rep state.here)) in
      let x2 : List Out = report_again state (OfLocal state.here.local) in
      let h2 : AllOf P (x0 ++ x1 ++ x2) = all-append P (x0 ++ x1) x2 h1 (report-may (OfLocal state.here.local)) in
      let x3 : List Out = report_again state (OfGlobal state.here.view) in
      let h3 : AllOf P (x0 ++ x1 ++ x2 ++ x3) = all-append P (x0 ++ x1 ++ x2) x3 h2 (report-may (OfGlobal state.here.view)) in
      let x4 : List Out = share_of (state.making.union (OfLocal state.here.local)) (to_rep state.here) in
      let h4 : AllOf P (x0 ++ x1 ++ x2 ++ x3 ++ x4) = all-append P (x0 ++ x1 ++ x2 ++ x3) x4 h3 (union-may (OfLocal state.here.local) (to_rep state.here)) in
      let x5 : List Out = share_of (state.making.union (OfGlobal state.here.view)) (to_rep state.here) in
      let h5 : AllOf P (x0 ++ x1 ++ x2 ++ x3 ++ x4 ++ x5) = all-append P (x0 ++ x1 ++ x2 ++ x3 ++ x4) x5 h4 (union-may (OfGlobal state.here.view) (to_rep state.here)) in
      let x6 : List Out = all_below (λ i. number_again state (state.here.executed + 1 + i)) WINDOW in
      let h6 : AllOf P (x0 ++ x1 ++ x2 ++ x3 ++ x4 ++ x5 ++ x6) = all-append P (x0 ++ x1 ++ x2 ++ x3 ++ x4 ++ x5) x6 h5 (puts-below s (newest bodies) (λ i. number_again state (state.here.executed + 1 + i)) WINDOW (λ i. number-may (state.here.executed + 1 + i))) in
      let x7 : List Out = certificate_again state.here state.own.vc in
      let h7 : AllOf P (x0 ++ x1 ++ x2 ++ x3 ++ x4 ++ x5 ++ x6 ++ x7) = all-append P (x0 ++ x1 ++ x2 ++ x3 ++ x4 ++ x5 ++ x6) x7 h6 (certificate-may state.own.vc) in
      let x8 : List Out = certificate_again state.here (state.own.union (OfLocal state.here.local)) in
      let h8 : AllOf P (x0 ++ x1 ++ x2 ++ x3 ++ x4 ++ x5 ++ x6 ++ x7 ++ x8) = all-append P (x0 ++ x1 ++ x2 ++ x3 ++ x4 ++ x5 ++ x6 ++ x7) x8 h7 (certificate-may (state.own.union (OfLocal state.here.local))) in
      let x9 : List Out = certificate_again state.here (state.own.union (OfGlobal state.here.view)) in
      let h9 : AllOf P (x0 ++ x1 ++ x2 ++ x3 ++ x4 ++ x5 ++ x6 ++ x7 ++ x8 ++ x9) = all-append P (x0 ++ x1 ++ x2 ++ x3 ++ x4 ++ x5 ++ x6 ++ x7 ++ x8) x9 h8 (certificate-may (state.own.union (OfGlobal state.here.view))) in
      let x10 : List Out = all_below (λ i. certificates_again state (state.here.executed + 1 + i)) WINDOW in
      let h10 : AllOf P (x0 ++ x1 ++ x2 ++ x3 ++ x4 ++ x5 ++ x6 ++ x7 ++ x8 ++ x9 ++ x10) = all-append P (x0 ++ x1 ++ x2 ++ x3 ++ x4 ++ x5 ++ x6 ++ x7 ++ x8 ++ x9) x10 h9 (puts-below s (newest bodies) (λ i. certificates_again state (state.here.executed + 1 + i)) WINDOW (λ i. all-append P (certificate_again state.here (state.own.proposal state.here.view (state.here.executed + 1 + i))) (certificate_again state.here (state.own.accept state.here.view (state.here.executed + 1 + i))) (certificate-may (state.own.proposal state.here.view (state.here.executed + 1 + i))) (certificate-may (state.own.accept state.here.view (state.here.executed + 1 + i))))) in
      let x11 : List Out = ask_to state.here state.here.seat.site ((state.here.seat.index + 1) % servers state.here) in
      let h11 : AllOf P (x0 ++ x1 ++ x2 ++ x3 ++ x4 ++ x5 ++ x6 ++ x7 ++ x8 ++ x9 ++ x10 ++ x11) = all-append P (x0 ++ x1 ++ x2 ++ x3 ++ x4 ++ x5 ++ x6 ++ x7 ++ x8 ++ x9 ++ x10) x11 h10 (ask-may state.here.seat.site ((state.here.seat.index + 1) % servers state.here)) in
      let x12 : List Out = ask_to state.here ((state.here.seat.site + 1) % state.here.seat.sites) state.here.seat.index in
      let h12 : AllOf P (x0 ++ x1 ++ x2 ++ x3 ++ x4 ++ x5 ++ x6 ++ x7 ++ x8 ++ x9 ++ x10 ++ x11 ++ x12) = all-append P (x0 ++ x1 ++ x2 ++ x3 ++ x4 ++ x5 ++ x6 ++ x7 ++ x8 ++ x9 ++ x10 ++ x11) x12 h11 (ask-may ((state.here.seat.site + 1) % state.here.seat.sites) state.here.seat.index) in
      h12
