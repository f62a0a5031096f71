-- Messages of each kind: what their parts answer is carried out.
use Rattle.std.proofs.Common.{◌≡◌, ℕ, ◌+◌, ◌<◌, Bool, true, false, cond, nat_eq, nat_lt, nat_le, List, [], ◌∷◌, ◌++◌, ◌∙◌, subst}
use Rattle.std.specs.Prelude.{◌&&◌, ◌||◌, ◌-◌, min, not, Option, Some, None, is_some}
use Rattle.st_words.specs.declared.statement.Statement.{Statement}
use Rattle.st_words.specs.declared.statement.Statement.TheVariants.{Prepare, Proposal, Accept, LocalVc, GlobalVc, LocalUnion, GlobalUnion}
use Rattle.st_seal.specs.declared.quorum.Signed.{Signed}
use Rattle.st_message.specs.declared.message.SiteWord.{SiteWord}
use Rattle.st_message.specs.declared.message.Message.{Message}
use Rattle.st_message.specs.declared.message.Message.TheVariants as messages
use Rattle.st_message.specs.declared.message.ViewWords.TheVariants as view_words
use Rattle.st_message.specs.declared.message.ReportBody.{ReportBody}
use Rattle.st_message.specs.declared.change.Change.TheVariants.{EnterLocal, EnterGlobal, Union}
use Rattle.st_message.specs.declared.event.Scope.TheVariants as scopes
use Rattle.st_message.specs.declared.step.Form.TheVariants as forms
use Rattle.st_message.specs.declared.step.Step.{Step}
use Rattle.st_counts.specs.Counts.{Has, AllOf}
use Rattle.st_agreement.specs.MiniSteps.{Invariant}
use Rattle.st_agreement.specs.Sites.{AreSites}
use Rattle.st_protocol.specs.Words.{Quorum, a_local_vc, a_global_vc, site_of, index_of}
use Rattle.st_protocol.specs.Keeping.{given}
use Rattle.st_protocol.specs.State.{OfLocal, OfGlobal, report_of, union_of, Share, Answers}
use Rattle.st_protocol.specs.Step.{Steps, beyond, full, servers, to_site, to_rep, making, to_list, putting, count_below, all_below, majority, one_if, quorum, not_site, other_view, not_rep, bound, seen, spent, complete, completes, completed, certifies, keeping, recording, then, when}
use Rattle.st_protocol.specs.Views.{votes_for, has_voted, with_asked, asks_for, word_for, on_local_share, on_local_proof, on_global_vc, on_view_proof}
use Rattle.st_protocol.specs.Duty.{Pen, begins, carries, reports_at, union_made, of_kind}
use Rattle.st_protocol.specs.World.{Deployment, World}
use Rattle.st_ranges.specs.Deployments.{KeepsRanges}
use Rattle.st_answer_laws.specs.Fair.{HasFewFaulty}
use Rattle.st_answer_laws.specs.Plain.{newest, sites_in, plain_of}
use Rattle.st_answer_laws.specs.Sound.{IsSound, IsSoundHeard}
use Rattle.st_answer_laws.proofs.NormalLaws.{decides-steps, not-false, leb-false}
use Rattle.st_refinement_laws.proofs.PlanLaws.{On, state, context, carried, certifies-course, executes-course, update-may, assign-course, prepare-course, proposal_share-course, accept_share-course, proposal-course, accept-course, asks-course, puts-below}
use Rattle.st_answer_laws.proofs.WayLaws.{all-append}
use Rattle.st_answer_laws.specs.Support.{MayPut}
use Rattle.st_protocol.specs.Collecting.{check_bundle, union, add_report, reports_kept, with_report, not_present, union_to, union_site}
use Rattle.st_protocol.specs.Ordering.{keeps_and_executes}
use Rattle.st_protocol.specs.Reconciling.{owed_proofs, owed_view, owed_local, answer}
use Rattle.st_words.specs.declared.deployment.TheConstants.{WINDOW}
use Rattle.st_words.specs.declared.ids.ServerId.{ServerId}
use Rattle.st_words.specs.declared.ids.Number.{Number}
use Rattle.st_message.specs.declared.message.Proof.{Proof}
use Rattle.st_message.specs.declared.step.Out.{Out}
use Rattle.st_message.specs.declared.step.Out.TheVariants.{Send}
use Rattle.std.proofs.lemmas.Bool.{eqb-true}
use Rattle.st_answer_laws.proofs.BundledLaws.{bundle-may}
use Rattle.st_refinement_laws.proofs.EnterLaws.{enters-local, enters-view}
use Rattle.st_answer_laws.proofs.ViewLaws.{local_union-may, global_union-may}

module _ {Wire : Type 0} (d : Deployment Wire) (world : World Wire) (few : HasFewFaulty d) (ranges : KeepsRanges d) (sites : AreSites (sites_in d)) (s k : ℕ) (exists : s < d.sites) (correct : Has k ((sites_in d).correct s))
    (inv : Invariant (sites_in d) (plain_of d world)) (sound_heard : AllOf (IsSoundHeard d world) (world.nodes s k).heard) where
  -- where a step leads
  abbrev Carried : Pen → Step → Type 0
  Carried pen step = On d world few ranges sites s k exists correct inv sound_heard (carries pen (begins (state d world few ranges sites s k exists correct inv sound_heard)) step)

  abbrev now : Answers
  now = state d world few ranges sites s k exists correct inv sound_heard

  -- a share that asks for a local view
  pub local_share-course : (pen : Pen) (site local : ℕ) (signed : Signed) (step : Step) → IsSound d world (messages.Share (a_local_vc site local) signed) →
      on_local_share now.here now.votes site local signed ≡ Steps step → Carried pen step
  local_share-course pen site local signed step sound e =
      let t : Statement = a_local_vc site local in
      let shares : ℕ → Option Share = votes_for t local now.votes.local in
      let passed = decides-steps
      (not_site now.here site ∷ other_view now.here (nat_le local now.here.local) ∷ bound local ∷ seen (has_voted local (now.votes.local signed.index) || complete now.here shares) ∷ spent now.here (one_if (completes now.here shares t signed)) ∷ [])
      (then (keeping (messages.Share t signed)) (when (completes now.here shares t signed) (recording (EnterLocal (record { 0 = local }) (completed now.here shares t signed))))) step e in
      subst (λ (x : Step). Carried pen x) passed.1 (by_test (completes now.here shares t signed) (leb-false local now.here.local passed.0.1.0))
    where
      by_test : (b : Bool) → now.here.local < local → Carried pen (then (keeping (messages.Share (a_local_vc site local) signed))
          (when b (recording (EnterLocal (record { 0 = local }) (completed now.here (votes_for (a_local_vc site local) local now.votes.local) (a_local_vc site local) signed)))))
      by_test true above = enters-local d world few ranges sites s k exists correct inv sound_heard pen (record { 0 = local }) _ (record { own = false; message = messages.Share (a_local_vc site local) signed } ∷ []) ((λ own. sound), tt) above
      by_test false above = carried d world few ranges sites s k exists correct inv sound_heard pen _ (record { simple = tt; may = tt; puts = tt }) ((λ own. sound), tt)

  -- a proof of a local view
  pub local_proof-course : (pen : Pen) (site local : ℕ) (q : Quorum) (step : Step) → on_local_proof now.here site local q ≡ Steps step → Carried pen step
  local_proof-course pen site local q step e =
      let passed = decides-steps (not_site now.here site ∷ other_view now.here (nat_le local now.here.local) ∷ bound local ∷ spent now.here 1 ∷ []) (recording (EnterLocal (record { 0 = local }) q)) step e in
      subst (λ (x : Step). Carried pen x) passed.1
      (enters-local d world few ranges sites s k exists correct inv sound_heard pen (record { 0 = local }) q [] tt (leb-false local now.here.local passed.0.1.0))

  -- a site's certificate that asks for a view
  pub global_vc-course : (pen : Pen) (site view : ℕ) (q : Quorum) (step : Step) → IsSound d world (messages.Certificate (a_global_vc site view) q) → on_global_vc now.here now.votes site view q ≡ Steps step → Carried pen step
  global_vc-course pen site view q step sound e =
      let asked = with_asked now.votes.asked site view q in
      let done : Bool = nat_le (majority now.here) (count_below (λ j. asks_for view (asked j)) now.here.seat.sites) in
      let passed = decides-steps
      (other_view now.here (nat_le view now.here.view) ∷ bound view ∷ seen (given (now.votes.asked site) false (λ a. nat_le view a.view)) ∷ spent now.here (one_if done) ∷ [])
      (then (keeping (messages.Certificate (a_global_vc site view) q)) (when done (recording (EnterGlobal (record { 0 = view }) (all_below (word_for view asked) now.here.seat.sites))))) step e in
      subst (λ (x : Step). Carried pen x) passed.1 (by_test done (all_below (word_for view asked) now.here.seat.sites) (leb-false view now.here.view passed.0.0))
    where
      by_test : (b : Bool) (ws : List SiteWord) → now.here.view < view → Carried pen (then (keeping (messages.Certificate (a_global_vc site view) q)) (when b (recording (EnterGlobal (record { 0 = view }) ws))))
      by_test true ws above = enters-view d world few ranges sites s k exists correct inv sound_heard pen (record { 0 = view }) ws (record { own = false; message = messages.Certificate (a_global_vc site view) q } ∷ []) ((λ own. sound), tt) above
      by_test false ws above = carried d world few ranges sites s k exists correct inv sound_heard pen _ (record { simple = tt; may = tt; puts = tt }) ((λ own. sound), tt)

  -- a proof of a view
  pub view_proof-course : (pen : Pen) (view : ℕ) (ws : List SiteWord) (step : Step) → on_view_proof now.here view ws ≡ Steps step → Carried pen step
  view_proof-course pen view ws step e =
      let passed = decides-steps (other_view now.here (nat_le view now.here.view) ∷ bound view ∷ spent now.here 1 ∷ []) (recording (EnterGlobal (record { 0 = view }) ws)) step e in
      subst (λ (x : Step). Carried pen x) passed.1
      (enters-view d world few ranges sites s k exists correct inv sound_heard pen (record { 0 = view }) ws [] tt (leb-false view now.here.view passed.0.0))

  -- a report, at the representative: it is kept, and with a quorum the bundle goes out
  report-course : (pen : Pen) (r : ReportBody) (step : Step) → IsSound d world (messages.Report r) → add_report now.here (reports_at now (report_of r.statement)) r ≡ Steps step → Carried pen step
  report-course pen r step sound e =
      let kept : ℕ → Option ReportBody = reports_at now (report_of r.statement) in
      let passed = decides-steps
      (not_site now.here (site_of r.statement) ∷ other_view now.here (not_present now.here (report_of r.statement)) ∷ not_rep now.here ∷ seen (is_some (kept (index_of r.statement)) || nat_le (quorum now.here) (reports_kept now.here kept)) ∷ [])
      (then (keeping (messages.Report r)) (when (nat_le (quorum now.here) (reports_kept now.here (with_report kept r))) (putting (Send (messages.Bundle (all_below (λ i. to_list (with_report kept r i)) (servers now.here))) (to_site now.here))))) step e in
      subst (λ (x : Step). Carried pen x) passed.1
      (by_test (nat_le (quorum now.here) (reports_kept now.here (with_report kept r))) (Send (messages.Bundle (all_below (λ i. to_list (with_report kept r i)) (servers now.here))) (to_site now.here)) tt)
    where
      by_test : (b : Bool) (o : Out) → MayPut s (newest (world.nodes s k).bodies) o → Carried pen (then (keeping (messages.Report r)) (when b (putting o)))
      by_test true o may = carried d world few ranges sites s k exists correct inv sound_heard pen _ (record { simple = tt; may = tt; puts = (may, tt) }) ((λ own. sound), tt)
      by_test false o may = carried d world few ranges sites s k exists correct inv sound_heard pen _ (record { simple = tt; may = tt; puts = tt }) ((λ own. sound), tt)

  -- what another server lacks is sent to it
  ask-course : (pen : Pen) (to : ServerId) (executed view local : ℕ) (step : Step) → answer now.here now.log.proof now.words to executed view local ≡ Steps step → Carried pen step
  ask-course pen to executed view local step e =
      let proofs : List Out = owed_proofs now.here now.log.proof to executed in
      let views : List Out = owed_view now.here now.words to view in
      let locals : List Out = owed_local now.here now.words to local in
      let passed = decides-steps
      (seen (nat_le now.here.executed executed && nat_le now.here.view view && not (nat_eq to.site now.here.seat.site && nat_lt local now.here.local)) ∷ [])
      (record { changes = []; heard = []; out = proofs ++ views ++ locals }) step e in
      subst (λ (x : Step). Carried pen x) passed.1
      (carried d world few ranges sites s k exists correct inv sound_heard pen _
      (record {
        simple = tt;
        may = tt;
        puts = all-append P (proofs ++ views) locals
            (all-append P proofs views
            (puts-below s (newest (world.nodes s k).bodies) _ (min now.here.executed (executed + WINDOW) - executed) (λ i. by_proof (now.log.proof (executed + 1 + i)) _))
            (by_test (nat_lt view now.here.view) _ (by_views now.words.view)))
            (by_test (nat_eq to.site now.here.seat.site && nat_lt local now.here.local) _ (by_locals now.words.local));
      }) tt)
    where
      P : Out → Type 0
      P o = MayPut s (newest (world.nodes s k).bodies) o

      by_test : (b : Bool) (os : List Out) → AllOf P os → AllOf P (cond b os [])
      by_test true os h = h
      by_test false os h = tt

      by_proof : (x : Option Proof) (n : Number) → AllOf P (given x [] (λ p. Send (messages.OrderProof n p) (scopes.One to) ∷ []))
      by_proof None n = tt
      by_proof (Some p) n = (tt, tt)

      by_views : (x : Option (List SiteWord)) → AllOf P (given x [] (λ ws. Send (messages.ViewProof (view_words.Global (record { 0 = now.here.view }) ws)) (scopes.One to) ∷ []))
      by_views None = tt
      by_views (Some ws) = (tt, tt)

      by_locals : (x : Option Quorum) → AllOf P (given x [] (λ q. Send (messages.ViewProof (view_words.Local (a_local_vc now.here.seat.site now.here.local) q)) (scopes.One to) ∷ []))
      by_locals None = tt
      by_locals (Some q) = (tt, tt)

  -- a bundle of the own site: its union is made
  bundle-course : (pen : Pen) (r : ReportBody) (rs : List ReportBody) (step : Step) → IsSound d world (messages.Bundle (r ∷ rs)) →
      check_bundle now.here (union_made now (report_of r.statement)) (r ∷ rs) ≡ Steps step → Carried pen step
  bundle-course pen r rs step sound e =
      let t : Statement = union (r ∷ rs) in
      let passed = decides-steps
      (not_site now.here (site_of r.statement) ∷ other_view now.here (not_present now.here (report_of r.statement)) ∷ seen (is_some (union_made now (report_of r.statement))) ∷ spent now.here 1 ∷ [])
      (making now.here.leaf t forms.Share (to_rep now.here)) step e in
      let of_site : site_of r.statement ≡ s = eqb-true (site_of r.statement) now.here.seat.site (not-false _ passed.0.0) ∙ (context d world few ranges sites s k exists correct inv sound_heard).support.site in
      let may = bundle-may d world few s exists r rs inv of_site sound in
      subst (λ (x : Step). Carried pen x) passed.1
      (asks-course d world few ranges sites s k exists correct inv sound_heard pen t (to_rep now.here) (may.makes (newest (world.nodes s k).bodies)) may.backed may.current)

  -- A message of any kind.
  pub kind-course : (pen : Pen) (m : Message) (step : Step) → IsSound d world m → of_kind now m ≡ Steps step → Carried pen step
  kind-course pen (messages.Update u seal) step sound e = update-may d world few ranges sites s k exists correct inv sound_heard pen u seal step sound e
  kind-course pen (messages.Assign view local n v seal signed) step sound e = assign-course d world few ranges sites s k exists correct inv sound_heard pen view local n v seal signed step sound e
  kind-course pen (messages.Share (Prepare a b c n v) signed) step sound e = prepare-course d world few ranges sites s k exists correct inv sound_heard pen a b c n v signed step sound e
  kind-course pen (messages.Share (Proposal a b c n v) signed) step sound e = proposal_share-course d world few ranges sites s k exists correct inv sound_heard pen a b c n v signed step sound e
  kind-course pen (messages.Share (Accept a b n v) signed) step sound e = accept_share-course d world few ranges sites s k exists correct inv sound_heard pen a b n v signed step sound e
  kind-course pen (messages.Share (LocalVc site local) signed) step sound e = local_share-course pen site.0 local.0 signed step sound e
  kind-course pen (messages.Share (GlobalVc site view) signed) step sound e =
      let shares : ℕ → Option Share = votes_for (a_global_vc site.0 view.0) view.0 now.votes.global in
      certifies-course d world few ranges sites s k exists correct inv sound_heard pen shares (a_global_vc site.0 view.0) signed scopes.All step sound
      (decides-steps (not_site now.here site.0 ∷ other_view now.here (nat_le view.0 now.here.view) ∷ not_rep now.here ∷ bound view.0 ∷ seen (has_voted view.0 (now.votes.global signed.index) || complete now.here shares) ∷ [])
      (certifies now.here shares (a_global_vc site.0 view.0) signed scopes.All) step e).1
  kind-course pen (messages.Share (LocalUnion a b c n is) signed) step sound e =
      let t : Statement = LocalUnion a b c n is in
      let shares : ℕ → Option Share = now.votes.unions (OfLocal b.0) in
      certifies-course d world few ranges sites s k exists correct inv sound_heard pen shares t signed (union_to now.here t) step sound
      (decides-steps (not_site now.here (site_of t) ∷ other_view now.here (not_present now.here (union_of t)) ∷ not_rep now.here ∷ seen (is_some (shares signed.index) || complete now.here shares) ∷ [])
      (certifies now.here shares t signed (union_to now.here t)) step e).1
  kind-course pen (messages.Share (GlobalUnion a b n is) signed) step sound e =
      let t : Statement = GlobalUnion a b n is in
      let shares : ℕ → Option Share = now.votes.unions (OfGlobal b.0) in
      certifies-course d world few ranges sites s k exists correct inv sound_heard pen shares t signed (union_to now.here t) step sound
      (decides-steps (not_site now.here (site_of t) ∷ other_view now.here (not_present now.here (union_of t)) ∷ not_rep now.here ∷ seen (is_some (shares signed.index) || complete now.here shares) ∷ [])
      (certifies now.here shares t signed (union_to now.here t)) step e).1
  kind-course pen (messages.Share _ signed) step sound e = absurd (cc)
  kind-course pen (messages.Certificate (Proposal a b c n v) w) step sound e = proposal-course d world few ranges sites s k exists correct inv sound_heard pen a b c n v w step sound e
  kind-course pen (messages.Certificate (Accept a b n v) w) step sound e = accept-course d world few ranges sites s k exists correct inv sound_heard pen a b n v w step sound e
  kind-course pen (messages.Certificate (GlobalVc site view) w) step sound e = global_vc-course pen site.0 view.0 w step sound e
  kind-course pen (messages.Certificate (LocalUnion a b c n is) w) step sound e =
      let t : Statement = LocalUnion a b c n is in
      let held = now.unions (OfLocal b.0) a.0 in
      carried d world few ranges sites s k exists correct inv sound_heard pen step
      (local_union-may d world s now (newest (world.nodes s k).bodies) (context d world few ranges sites s k exists correct inv sound_heard) a.0 b.0 c.0 n is held w step sound e)
      (subst (λ (x : Step). AllOf (IsSoundHeard d world) x.heard) (decides-steps (not_site now.here (union_site now.here t) ∷ other_view now.here (not_present now.here (union_of t)) ∷ seen (is_some held) ∷ []) (recording (Union t w)) step e).1 tt)
  kind-course pen (messages.Certificate (GlobalUnion a b n is) w) step sound e =
      let t : Statement = GlobalUnion a b n is in
      let held = now.unions (OfGlobal b.0) a.0 in
      carried d world few ranges sites s k exists correct inv sound_heard pen step
      (global_union-may d world s now (newest (world.nodes s k).bodies) (context d world few ranges sites s k exists correct inv sound_heard) a.0 b.0 n is held w step sound e)
      (subst (λ (x : Step). AllOf (IsSoundHeard d world) x.heard) (decides-steps (not_site now.here (union_site now.here t) ∷ other_view now.here (not_present now.here (union_of t)) ∷ seen (is_some held) ∷ []) (recording (Union t w)) step e).1 tt)
  kind-course pen (messages.Certificate _ w) step sound e = absurd (cc)
  kind-course pen (messages.OrderProof n p) step sound e =
      executes-course d world few ranges sites s k exists correct inv sound_heard pen (messages.OrderProof n p) step sound
      (decides-steps (beyond now.here n.0 ∷ seen (is_some (now.hand.proof n.0)) ∷ full n.0 ∷ []) (keeps_and_executes now.here now.hand (messages.OrderProof n p)) step e).1
  kind-course pen (messages.Report r) step sound e = report-course pen r step sound e
  kind-course pen (messages.Bundle []) step sound e = absurd (cc)
  kind-course pen (messages.Bundle (r ∷ rs)) step sound e = bundle-course pen r rs step sound e
  kind-course pen (messages.ViewProof (view_words.Local (LocalVc site local) q)) step sound e = local_proof-course pen site.0 local.0 q step e
  kind-course pen (messages.ViewProof (view_words.Local _ q)) step sound e = absurd (cc)
  kind-course pen (messages.ViewProof (view_words.Global view ws)) step sound e = view_proof-course pen view.0 ws step e
  kind-course pen (messages.Ask server executed view local) step sound e = ask-course pen server executed view.0 local.0 step e
  kind-course pen (messages.Reply t signed) step sound e = absurd (cc)
