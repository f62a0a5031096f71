-- The parts of a server for slots, reports and unions hand on certificates, and complete slots by them.
use Rattle.std.proofs.Common.{◌≡◌, ℕ, ◌+◌, Bool, true, false, nat_eq, List, [], ◌∷◌, sym, subst, refl}
use Rattle.std.specs.Prelude.{◌%◌, ◌||◌, nat_le, Option, Some, is_some, is_none}
use Rattle.std.specs.Option.{IfSome}
use Rattle.std.specs.List.{AllByRecursion as Each}
use Rattle.std.proofs.lemmas.Bool.{or_parts, not-true, and_from}
use Rattle.st_words.specs.declared.ids.Who.{Who}
use Rattle.st_words.specs.declared.value.Update.{Update}
use Rattle.st_words.specs.declared.value.Value.{Value}
use Rattle.st_words.specs.declared.statement.Statement.{Statement}
use Rattle.st_words.specs.declared.statement.Statement.TheVariants.{LocalVc, GlobalVc}
use Rattle.st_seal.specs.declared.quorum.Signed.{Signed}
use Rattle.st_message.specs.declared.message.ReportBody.{ReportBody}
use Rattle.st_message.specs.declared.message.Message.{Message}
use Rattle.st_message.specs.declared.message.Message.TheVariants as messages
use Rattle.st_message.specs.declared.event.Scope.{Scope}
use Rattle.st_message.specs.declared.event.Scope.TheVariants as scopes
use Rattle.st_message.specs.declared.change.Change.{Change}
use Rattle.st_message.specs.declared.change.Change.TheVariants.{Prepared, Accepted, Union}
use Rattle.st_message.specs.declared.change.Heard.{Heard}
use Rattle.st_message.specs.declared.step.Form.TheVariants as forms
use Rattle.st_message.specs.declared.step.Out.{Out}
use Rattle.st_message.specs.declared.step.Out.TheVariants.{Make, Send}
use Rattle.st_message.specs.declared.step.Step.{Step}
use Rattle.st_protocol.specs.Words.{Bytes, Quorum, a_prepare, a_proposal, an_accept, site_of, index_of}
use Rattle.st_protocol.specs.Keeping.{given}
use Rattle.st_protocol.specs.State.{AtPrepare, AtProposal, AtAccept, Here, Sealing, Share, Slots, Pended, Held, report_of, union_of}
use Rattle.st_protocol.specs.Step.{Answer, idle, then, making, recording, keeping, putting, when, all_below, to_list, quorum, servers, to_rep, to_site, not_site, other_view, not_rep, seen, spent, complete, completes, completed, certifies, one_if, completing}
use Rattle.st_protocol.specs.Forced.{Forced}
use Rattle.st_protocol.specs.Assigning.{update_reasons, update_step, on_update, prepares, completes_prepare, keeps_prepare, assigns, keeps_assigned, assign_reasons, assign_step, on_assign, prepare_reasons, prepare_step, on_prepare, proposal_share_reasons, proposal_share_step, on_proposal_share}
use Rattle.st_protocol.specs.Collecting.{not_present, reports_kept, with_report, add_report, union, check_bundle, union_to, on_union_share, union_site, on_union}
use Rattle.st_protocol.specs.Ordering.{accept_share_reasons, accept_share_step, on_accept_share, proposal_reasons, proposal_step, on_proposal}
use Rattle.st_protocol.specs.Known.{all_of}
use Rattle.st_frame_laws.proofs.ChoiceLaws.{either, chosen_any, either_has, not_false, to_list_all, all_below_all}
use Rattle.st_frame_laws.proofs.PartFrame.{StepHas, AnswerHas, idle_has, then_has, making_has, recording_has, keeping_has, putting_has, when_step, decides_fits, completing_has}
use Rattle.st_certificate_laws.specs.Certified.{report_is_certified}
use Rattle.st_certificate_laws.proofs.QuorumLaws.{completed_is_certificate}
use Rattle.st_certificate_laws.proofs.CertificateFacts.{Certifies, Certified, Reported, Brings, OfSite, ChangeHas, HeardHas, OutHas, TakenHas, other, own, SharesHave}

-- what each passes, all pass
pub all_of_each : {A : Type 0} (test : A → Bool) (xs : List A) → Each (λ (x : A). test x ≡ true) xs → all_of test xs ≡ true
unfolding all_of
all_of_each test [] h = refl
all_of_each test (x ∷ xs) h = and_from (test x) (all_of test xs) h.0 (all_of_each test xs h.1)

module _ (holds : Who → Statement → Bytes → Bool) (here : Here) where
  -- at this server: of a change,
  abbrev ChangeFits : Change → Type 0
  ChangeFits x = ChangeHas holds here.seat x

  -- of what is kept as heard,
  abbrev HeardFits : Heard → Type 0
  HeardFits m = HeardHas holds here.seat m

  -- of what goes out,
  abbrev OutFits : Out → Type 0
  OutFits o = OutHas holds here.seat o

  -- of a message that is taken,
  abbrev TakenFits : Message → Type 0
  TakenFits m = TakenHas holds here.seat m

  -- and of an answer
  abbrev Fits : Answer → Type 0
  Fits a = AnswerHas ChangeFits HeardFits OutFits a

  -- a statement that is made as a share
  pub makes_has : (leaf : ℕ) (s : Statement) (to : Scope) → StepHas ChangeFits HeardFits OutFits (making leaf s forms.Share to)
  makes_has leaf s to = making_has ChangeFits HeardFits OutFits leaf s forms.Share to (refl, λ at. tt) tt

  -- a step that is taken where the test is true
  pub when_true : (b : Bool) (step : Step) → (b ≡ true → StepHas ChangeFits HeardFits OutFits step) → StepHas ChangeFits HeardFits OutFits (when b step)
  when_true true step h = h refl
  when_true false step h = idle_has ChangeFits HeardFits OutFits

  -- a share that completes its slot completes a certificate
  pub certified : (shares : ℕ → Option Share) (s : Statement) (signed : Signed) (to : Scope) → SharesHave holds here shares → TakenFits (messages.Share s signed) → OfSite holds here.seat (messages.Share s signed) →
      complete here shares ≡ false → StepHas ChangeFits HeardFits OutFits (certifies here shares s signed to)
  certified shares s signed to all h o few =
      let certificate : Message = messages.Certificate s (completed here shares s signed) in
      then_has ChangeFits HeardFits OutFits (keeping (messages.Share s signed)) (when (completes here shares s signed) (completing certificate to))
      (keeping_has ChangeFits HeardFits OutFits (messages.Share s signed) (other holds here (messages.Share s signed) h.0 o tt))
      (when_true (completes here shares s signed) (completing certificate to)
      (λ done.
      let is : Certified holds here.seat certificate = completed_is_certificate holds here shares s signed all h.0 few done in
      completing_has ChangeFits HeardFits OutFits certificate to (own holds here certificate is) is))

  -- ---- the normal case

  -- a client's update
  pub update_has : (pending : ℕ → Option Pended) (last : ℕ) (reply : Option Sealing) (u : Update) (seal : Bytes) → Fits (on_update here pending last reply u seal)
  update_has pending last reply u seal =
      decides_fits Fits (λ reason. tt) (update_reasons here pending last reply u) (update_step last reply u seal)
      (λ none.
      either (StepHas ChangeFits HeardFits OutFits) (nat_eq u.time last) (given reply idle (λ m. putting (Make m.statement forms.Reply (scopes.Client u.client)))) (keeping (messages.Update u seal))
      (chosen_any (StepHas ChangeFits HeardFits OutFits) reply idle (λ m. putting (Make m.statement forms.Reply (scopes.Client u.client))) (idle_has ChangeFits HeardFits OutFits)
      (λ m. putting_has ChangeFits HeardFits OutFits (Make m.statement forms.Reply (scopes.Client u.client)) tt))
      (keeping_has ChangeFits HeardFits OutFits (messages.Update u seal) (other holds here (messages.Update u seal) refl tt tt)))

  -- a Prepare that is complete
  prepares_has : (slots : Slots) (leaf view local n : ℕ) (value : Value) (q : Quorum) → Certifies holds here.seat (a_prepare here.seat.site view local n value) q →
      StepHas ChangeFits HeardFits OutFits (prepares here slots leaf view local n value q)
  prepares_has slots leaf view local n value q h =
      let proposal : Step = making leaf (a_proposal here.seat.site view local n value) forms.Share (to_rep here) in
      then_has ChangeFits HeardFits OutFits (recording (Prepared (a_prepare here.seat.site view local n value) q)) (when (is_none (slots.made (AtProposal view local n))) proposal)
      (recording_has ChangeFits HeardFits OutFits (Prepared (a_prepare here.seat.site view local n value) q) (h, λ at. refl))
      (when_step ChangeFits HeardFits OutFits (is_none (slots.made (AtProposal view local n))) proposal (makes_has leaf (a_proposal here.seat.site view local n value) (to_rep here)))

  -- a share of a Prepare of this site that is kept, of a slot that isn't complete
  keeps_prepare_has : (slots : Slots) (leaf view local n : ℕ) (value : Value) (signed : Signed) → SharesHave holds here (slots.shares (AtPrepare view local n)) →
      Brings holds here.seat (messages.Share (a_prepare here.seat.site view local n value) signed) → complete here (slots.shares (AtPrepare view local n)) ≡ false →
      StepHas ChangeFits HeardFits OutFits (keeps_prepare here slots leaf here.seat.site view local n value signed)
  keeps_prepare_has slots leaf view local n value signed shares h few =
      let s : Statement = a_prepare here.seat.site view local n value in
      let q : Quorum = completed here (slots.shares (AtPrepare view local n)) s signed in
      then_has ChangeFits HeardFits OutFits (keeping (messages.Share s signed)) (when (completes_prepare here slots here.seat.site view local n value signed) (prepares here slots leaf view local n value q))
      (keeping_has ChangeFits HeardFits OutFits (messages.Share s signed) (other holds here (messages.Share s signed) h tt tt))
      (when_true (completes_prepare here slots here.seat.site view local n value signed) (prepares here slots leaf view local n value q)
      (λ done. prepares_has slots leaf view local n value q (completed_is_certificate holds here (slots.shares (AtPrepare view local n)) s signed shares h few done)))

  -- an assignment
  pub assign_has : (slots : Slots) (forced : Forced) (view local n : ℕ) (value : Value) (client_seal : Bytes) (signed : Signed) → SharesHave holds here (slots.shares (AtPrepare view local n)) →
      TakenFits (messages.Assign (record { 0 = view }) (record { 0 = local }) (record { 0 = n }) value client_seal signed) → Fits (on_assign here slots forced view local n value client_seal signed)
  assign_has slots forced view local n value client_seal signed shares h =
      let new : Bool = assigns slots view local n in
      let made : Step = making here.leaf (a_prepare here.seat.site view local n value) forms.Share (to_site here) in
      let kept : Step = keeps_prepare here slots (here.leaf + one_if new) here.seat.site view local n value signed in
      decides_fits Fits (λ reason. tt) (assign_reasons here slots forced view local n value client_seal signed) (assign_step here slots view local n value signed)
      (λ none.
      then_has ChangeFits HeardFits OutFits (when new made) (when (keeps_assigned here slots view local n) kept)
      (when_step ChangeFits HeardFits OutFits new made (makes_has here.leaf (a_prepare here.seat.site view local n value) (to_site here)))
      (when_true (keeps_assigned here slots view local n) kept
      (λ few.
      keeps_prepare_has slots (here.leaf + one_if new) view local n value signed shares
      (subst (λ at. Brings holds here.seat (messages.Share (a_prepare at view local n value) signed)) (not_false (view % here.seat.sites) here.seat.site none.0) h.0)
      (not-true (complete here (slots.shares (AtPrepare view local n))) few))))

  -- the share of a Prepare
  pub prepare_has : (slots : Slots) (site view local n : ℕ) (value : Value) (signed : Signed) → SharesHave holds here (slots.shares (AtPrepare view local n)) →
      TakenFits (messages.Share (a_prepare site view local n value) signed) → Fits (on_prepare here slots site view local n value signed)
  prepare_has slots site view local n value signed shares h =
      decides_fits Fits (λ reason. tt) (prepare_reasons here slots site view local n value signed) (prepare_step here slots site view local n value signed)
      (λ none.
      let is : site ≡ here.seat.site = not_false site here.seat.site none.0 in
      subst (λ i. StepHas ChangeFits HeardFits OutFits (keeps_prepare here slots here.leaf i view local n value signed)) (sym is)
      (keeps_prepare_has slots here.leaf view local n value signed shares (subst (λ at. Brings holds here.seat (messages.Share (a_prepare at view local n value) signed)) is h.0)
      (or_parts (is_some (slots.shares (AtPrepare view local n) signed.index)) (complete here (slots.shares (AtPrepare view local n))) none.1.1.1.0).1))

  -- the share of a Proposal
  pub proposal_share_has : (slots : Slots) (site view local n : ℕ) (value : Value) (signed : Signed) → SharesHave holds here (slots.shares (AtProposal view local n)) →
      TakenFits (messages.Share (a_proposal site view local n value) signed) → Fits (on_proposal_share here slots site view local n value signed)
  proposal_share_has slots site view local n value signed shares h =
      decides_fits Fits (λ reason. tt) (proposal_share_reasons here slots site view local n signed) (proposal_share_step here slots site view local n value signed)
      (λ none.
      certified (slots.shares (AtProposal view local n)) (a_proposal site view local n value) signed scopes.All shares h tt
      (or_parts (is_some (slots.shares (AtProposal view local n) signed.index)) (complete here (slots.shares (AtProposal view local n))) none.1.1.1.1.0).1)

  -- the share of an Accept
  pub accept_share_has : (slots : Slots) (site view n : ℕ) (value : Value) (signed : Signed) → SharesHave holds here (slots.shares (AtAccept view n)) →
      TakenFits (messages.Share (an_accept site view n value) signed) → Fits (on_accept_share here slots site view n value signed)
  accept_share_has slots site view n value signed shares h =
      decides_fits Fits (λ reason. tt) (accept_share_reasons here slots site view n signed) (accept_share_step here slots site view n value signed)
      (λ none.
      certified (slots.shares (AtAccept view n)) (an_accept site view n value) signed scopes.All shares h tt
      (or_parts (is_some (slots.shares (AtAccept view n) signed.index)) (complete here (slots.shares (AtAccept view n))) none.1.1.1.1.0).1)

  -- a Proposal with its certificate
  pub proposal_has : (slots : Slots) (site view local n : ℕ) (value : Value) (q : Quorum) → TakenFits (messages.Certificate (a_proposal site view local n value) q) →
      Fits (on_proposal here slots site view local n value q)
  proposal_has slots site view local n value q h =
      decides_fits Fits (λ reason. tt) (proposal_reasons here slots view n) (proposal_step here site view local n value q)
      (λ none.
      then_has ChangeFits HeardFits OutFits (recording (Accepted (a_proposal site view local n value) q)) (making here.leaf (an_accept here.seat.site view n value) forms.Share (to_rep here))
      (recording_has ChangeFits HeardFits OutFits (Accepted (a_proposal site view local n value) q) (h.0, λ at. h.1))
      (makes_has here.leaf (an_accept here.seat.site view n value) (to_rep here)))

  -- ---- reports and unions

  -- a report
  pub report_has : (kept : ℕ → Option ReportBody) (r : ReportBody) → ((i : ℕ) → IfSome (kept i) (Reported holds here.seat)) → TakenFits (messages.Report r) → Fits (add_report here kept r)
  report_has kept r all h =
      let bundle : Out = Send (messages.Bundle (all_below (λ i. to_list (with_report kept r i)) (servers here))) (to_site here) in
      let enough : Bool = nat_le (quorum here) (reports_kept here (with_report kept r)) in
      decides_fits Fits (λ reason. tt)
      (not_site here (site_of r.statement)
      ∷ other_view here (not_present here (report_of r.statement))
      ∷ not_rep here
      ∷ seen (is_some (kept (index_of r.statement)) || nat_le (quorum here) (reports_kept here kept))
      ∷ [])
      (then (keeping (messages.Report r)) (when enough (putting bundle)))
      (λ none.
      then_has ChangeFits HeardFits OutFits (keeping (messages.Report r)) (when enough (putting bundle)) (keeping_has ChangeFits HeardFits OutFits (messages.Report r) (other holds here (messages.Report r) h.0 tt tt))
      (when_step ChangeFits HeardFits OutFits enough (putting bundle)
      (putting_has ChangeFits HeardFits OutFits bundle
      (all_of_each (report_is_certified holds here.seat.f here.seat.sites) (all_below (λ i. to_list (with_report kept r i)) (servers here))
      (all_below_all (Reported holds here.seat) (λ i. to_list (with_report kept r i)) (servers here)
      (λ i. to_list_all (Reported holds here.seat) (with_report kept r i) (either_has (Reported holds here.seat) (nat_eq (index_of r.statement) i) (Some r) (kept i) h.0 (all i))))))))

  -- a bundle
  pub bundle_has : (made : Option Sealing) (r : ReportBody) (rs : List ReportBody) → Fits (check_bundle here made (r ∷ rs))
  bundle_has made r rs =
      decides_fits Fits (λ reason. tt)
      (not_site here (site_of r.statement) ∷ other_view here (not_present here (report_of r.statement)) ∷ seen (is_some made) ∷ spent here 1 ∷ [])
      (making here.leaf (union (r ∷ rs)) forms.Share (to_rep here))
      (λ none. makes_has here.leaf (union (r ∷ rs)) (to_rep here))

  -- the share of a union
  pub union_share_has : (shares : ℕ → Option Share) (s : Statement) (signed : Signed) → SharesHave holds here shares → TakenFits (messages.Share s signed) → Fits (on_union_share here shares s signed)
  union_share_has shares s signed all h =
      decides_fits Fits (λ reason. tt)
      (not_site here (site_of s) ∷ other_view here (not_present here (union_of s)) ∷ not_rep here ∷ seen (is_some (shares signed.index) || complete here shares) ∷ [])
      (certifies here shares s signed (union_to here s))
      (λ none.
      certified shares s signed (union_to here s) all h (of_site s (not_false (site_of s) here.seat.site none.0)) (or_parts (is_some (shares signed.index)) (complete here shares) none.1.1.1.0).1)
    where
      of_site : (s : Statement) → site_of s ≡ here.seat.site → OfSite holds here.seat (messages.Share s signed)
      of_site (LocalVc site local) is = is
      of_site (GlobalVc site view) is = is
      of_site _ is = tt

  -- a union with its certificate
  pub union_has : (held : Option Held) (s : Statement) (q : Quorum) → TakenFits (messages.Certificate s q) → Fits (on_union here held s q)
  union_has held s q h =
      decides_fits Fits (λ reason. tt) (not_site here (union_site here s) ∷ other_view here (not_present here (union_of s)) ∷ seen (is_some held) ∷ []) (recording (Union s q))
      (λ none. recording_has ChangeFits HeardFits OutFits (Union s q) (h.0, λ at. tt))
