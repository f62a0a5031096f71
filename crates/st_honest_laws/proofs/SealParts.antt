-- The parts of a server hand on seals that it recorded, heard or is given, and name what it makes as its own.
use Rattle.std.proofs.Common.{◌≡◌, ℕ, ◌+◌, Bool, true, false, cond, zero, suc, nat_eq, nat_le, List, [], ◌∷◌, ◌++◌, length, arith, sym, subst, refl, ◌∙◌}
use Rattle.std.proofs.lemmas.Bool.{eqb-true}
use Rattle.std.proofs.lemmas.List.{length-append}
use Rattle.std.specs.Prelude.{◌||◌, ◌%◌, Option, Some, None, is_some, is_none}
use Rattle.std.specs.Option.{IfSome}
use Rattle.std.specs.List.{AllByRecursion as Each}
use Rattle.st_words.specs.declared.deployment.TheConstants.{WINDOW}
use Rattle.st_words.specs.declared.value.Update.{Update}
use Rattle.st_words.specs.declared.value.Value.{Value}
use Rattle.st_words.specs.declared.statement.Item.{Item}
use Rattle.st_words.specs.declared.statement.Statement.{Statement}
use Rattle.st_words.specs.declared.statement.Statement.TheVariants.{Prepare, Proposal, Accept, LocalVc, GlobalVc, LocalReport, GlobalReport, LocalUnion, GlobalUnion, Reply, ClientUpdate}
use Rattle.st_seal.specs.declared.quorum.Signed.{Signed}
use Rattle.st_message.specs.declared.message.SiteWord.{SiteWord}
use Rattle.st_message.specs.declared.message.Proof.{Proof}
use Rattle.st_message.specs.declared.message.ReportBody.{ReportBody}
use Rattle.st_message.specs.declared.message.ViewWords.TheVariants as view_words
use Rattle.st_message.specs.declared.message.Message.{Message}
use Rattle.st_message.specs.declared.message.Message.TheVariants as messages
use Rattle.st_message.specs.declared.event.Scope.{Scope}
use Rattle.st_message.specs.declared.event.Scope.TheVariants as scopes
use Rattle.st_message.specs.declared.change.Change.{Change}
use Rattle.st_message.specs.declared.change.Change.TheVariants.{EnterLocal, EnterGlobal, Prepared, Accepted, Union}
use Rattle.st_message.specs.declared.change.Heard.{Heard}
use Rattle.st_message.specs.declared.step.Form.{Form}
use Rattle.st_message.specs.declared.step.Form.TheVariants as forms
use Rattle.st_message.specs.declared.step.Out.{Out}
use Rattle.st_message.specs.declared.step.Out.TheVariants.{Make, Send}
use Rattle.st_message.specs.declared.step.Step.{Step}
use Rattle.st_protocol.specs.Words.{Bytes, Quorum, a_prepare, a_proposal, an_accept, a_local_vc, a_global_vc, a_site_word, site_of, index_of, same_statement}
use Rattle.st_protocol.specs.Keeping.{given}
use Rattle.st_protocol.specs.State.{AtPrepare, AtProposal, AtAccept, Seat, Here, Sealing, Backed, Share, Slots, Vote, Votes, Asked, Pended, Held, report_of, union_of}
use Rattle.st_protocol.specs.Step.{idle, then, making, recording, keeping, putting, when, all_below, count_below, to_list, majority, quorum, servers, to_rep, to_site, not_site, other_view, not_rep, bound, seen, spent, complete, signed_at, quorum_of, with_share, completes, completed, certifies, one_if}
use Rattle.st_protocol.specs.Forced.{Forced}
use Rattle.st_protocol.specs.Assigning.{update_reasons, update_step, on_update, prepares, completes_prepare, keeps_prepare, assigns, keeps_assigned, assign_reasons, assign_step, on_assign, prepare_reasons, prepare_step, on_prepare, proposal_share_reasons, proposal_share_step, on_proposal_share}
use Rattle.st_protocol.specs.Views.{votes_for, has_voted, with_asked, asks_for, word_for, on_local_timeout, on_global_timeout, on_local_share, on_local_proof, on_global_share, on_global_vc, on_view_proof}
use Rattle.st_protocol.specs.Collecting.{item_of, make_report, not_present, reports_kept, with_report, add_report, union_as, union_items, most, base_in, view_in, union, check_bundle, union_to, on_union_share, union_site, on_union}
use Rattle.st_protocol.specs.Ordering.{accept_share_reasons, accept_share_step, on_accept_share, proposal_reasons, proposal_step, on_proposal}
use Rattle.st_protocol.specs.Known.{Sealed}
use Rattle.st_protocol.proofs.SameLaws.{same_statement-Decides}
use Rattle.st_frame_laws.proofs.ChoiceLaws.{not_false, either, chosen, either_has, when_has, to_list_all, all_below_all}
use Rattle.st_frame_laws.proofs.PartFrame.{StepHas, AnswerHas, idle_has, then_has, making_has, recording_has, keeping_has, putting_has, when_step, certifies_has, decides_fits}
use Rattle.st_honest_laws.proofs.SealFacts.{SignedHas, QuorumHas, ItemsHave, ValueHas, BaseHas, PartsHave, ReportHas, MessageHas, local_item_of, global_item_of, Leads, Mine, RecordHas, Stands, OfSite}

module _ (H : Sealed → Type 0) (seat : Seat) where
  -- ---- what holds of a step

  -- a change, wherever it is recorded
  abbrev pub ChangeHas : Change → Type 0
  ChangeHas x = RecordHas H seat x × ((h : Here) → Stands H seat h x)

  -- something heard
  abbrev pub HeardHas : Heard → Type 0
  HeardHas m = (m.own ≡ false → MessageHas H seat.sites m.message × OfSite H seat m.message) × (m.own ≡ true → MessageHas H seat.sites m.message)

  -- the seals with which a statement goes out
  abbrev pub FormHas : Statement → Form → Type 0
  FormHas (Prepare site view local number value) (forms.Assign client_seal) = ValueHas H value client_seal
  FormHas s (forms.Report quorums base) = PartsHave H seat.sites s quorums base
  FormHas s form = Unit {0}

  -- what goes out
  abbrev pub OutHas : Out → Type 0
  OutHas (Make s form to) = Mine H seat s × FormHas s form
  OutHas (Send m to) = MessageHas H seat.sites m

  -- the site of a message's statement leads its view
  abbrev pub Led : Message → Type 0
  Led (messages.Share s signed) = Leads H seat s
  Led (messages.Certificate s q) = Leads H seat s
  Led m = Unit {0}

  -- a message that is taken
  abbrev pub TakenHas : Message → Type 0
  TakenHas m = MessageHas H seat.sites m × Led m

module _ (H : Sealed → Type 0) (here : Here) where
  -- at this server
  abbrev pub C : Change → Type 0
  C x = ChangeHas H here.seat x

  abbrev pub M : Heard → Type 0
  M m = HeardHas H here.seat m

  abbrev pub O : Out → Type 0
  O o = OutHas H here.seat o

  abbrev pub K : Message → Type 0
  K m = TakenHas H here.seat m

  -- another server's message that is kept
  other : (m : Message) → MessageHas H here.seat.sites m → OfSite H here.seat m → M (record { own = false; message = m })
  other m h o = (λ e. (h, o), λ e. absurd (let no : false ≡ true = e in cc))

  -- the server's own
  own : (m : Message) → MessageHas H here.seat.sites m → M (record { own = true; message = m })
  own m h = (λ e. absurd (let no : true ≡ false = e in cc), λ e. h)

  -- a share has no other seal
  share_form : (s : Statement) → FormHas H here.seat s forms.Share
  share_form (Prepare site view local number value) = tt
  share_form _ = tt

  -- a statement that is made as a share
  makes_has : (leaf : ℕ) (s : Statement) (to : Scope) → Mine H here.seat s → FormHas H here.seat s forms.Share → StepHas C M O (making leaf s forms.Share to)
  makes_has leaf s to h f = making_has C M O leaf s forms.Share to (tt, λ at. h) (h, f)

  -- ---- Quorums that are completed

  abbrev pub SharesHave : (ℕ → Option Share) → Type 0
  SharesHave shares = (i : ℕ) → IfSome (shares i) (λ x. SignedHas H x.statement (record { index = i; seal = x.seal }))

  signed_has : (s : Statement) (shares : ℕ → Option Share) (i : ℕ) → SharesHave shares → Each (SignedHas H s) (signed_at s shares i)
  signed_has s shares i h =
      chosen (λ x. SignedHas H x.statement (record { index = i; seal = x.seal })) (Each (SignedHas H s)) (shares i) [] _ (h i) tt
      (λ x g. by x g (same_statement x.statement s) refl)
    where
      by : (x : Share) → SignedHas H x.statement (record { index = i; seal = x.seal }) → (b : Bool) → same_statement x.statement s ≡ b →
          Each (SignedHas H s) (cond b (record { index = i; seal = x.seal } ∷ []) [])
      by x g true e = (subst (λ (y : Statement). SignedHas H y (record { index = i; seal = x.seal })) ((same_statement-Decides x.statement s).0 e) g, tt)
      by x g false e = tt

  pub completed_has : (shares : ℕ → Option Share) (s : Statement) (signed : Signed) → SharesHave shares → SignedHas H s signed → QuorumHas H s (completed here shares s signed)
  unfolding quorum_of
  completed_has shares s signed h g =
      all_below_all (SignedHas H s) (signed_at s (with_share shares s signed)) (servers here) (λ i. signed_has s (with_share shares s signed) i (λ j. with_this j (nat_eq signed.index j) refl))
    where
      with_this : (j : ℕ) (b : Bool) → nat_eq signed.index j ≡ b →
          IfSome (cond b (Some (record { statement = s; seal = signed.seal })) (shares j)) (λ (x : Share). SignedHas H x.statement (record { index = j; seal = x.seal }))
      with_this j true e = subst (λ n. SignedHas H s (record { index = n; seal = signed.seal })) (eqb-true signed.index j e) g
      with_this j false e = h j

  -- a share is kept, and may complete a certificate
  certified : (shares : ℕ → Option Share) (s : Statement) (signed : Signed) (to : Scope) → SharesHave shares → SignedHas H s signed → OfSite H here.seat (messages.Share s signed) →
      StepHas C M O (certifies here shares s signed to)
  certified shares s signed to h g o =
      let q : QuorumHas H s (completed here shares s signed) = completed_has shares s signed h g in
      certifies_has C M O here shares s signed to (other (messages.Share s signed) g o) (own (messages.Certificate s (completed here shares s signed)) q) q

  -- ---- updates, assignments and shares of the normal case

  pub update_has : (pending : ℕ → Option Pended) (last : ℕ) (reply : Option Sealing) (u : Update) (seal : Bytes) → IfSome reply (λ m. Mine H here.seat m.statement) → K (messages.Update u seal) →
      AnswerHas C M O (on_update here pending last reply u seal)
  update_has pending last reply u seal r h =
      decides_fits (AnswerHas C M O) (λ reason. tt) (update_reasons here pending last reply u) (update_step last reply u seal)
      (λ none.
      either (StepHas C M O) (nat_eq u.time last) (given reply idle (λ m. putting (Make m.statement forms.Reply (scopes.Client u.client)))) (keeping (messages.Update u seal))
      (chosen (λ m. Mine H here.seat m.statement) (StepHas C M O) reply idle (λ m. putting (Make m.statement forms.Reply (scopes.Client u.client))) r (idle_has C M O)
      (λ m g. putting_has C M O (Make m.statement forms.Reply (scopes.Client u.client)) (g, reply_form m.statement)))
      (keeping_has C M O (messages.Update u seal) (other (messages.Update u seal) h.0 tt)))
    where
      reply_form : (s : Statement) → FormHas H here.seat s forms.Reply
      reply_form (Prepare site view local number value) = tt
      reply_form _ = tt

  -- a Prepare that is complete
  prepares_has : (slots : Slots) (leaf view local n : ℕ) (value : Value) (q : Quorum) → here.seat.site ≡ view % here.seat.sites → QuorumHas H (a_prepare here.seat.site view local n value) q →
      StepHas C M O (prepares here slots leaf view local n value q)
  prepares_has slots leaf view local n value q leads h =
      let proposal : Step = making leaf (a_proposal here.seat.site view local n value) forms.Share (to_rep here) in
      then_has C M O (recording (Prepared (a_prepare here.seat.site view local n value) q)) (when (is_none (slots.made (AtProposal view local n))) proposal)
      (recording_has C M O (Prepared (a_prepare here.seat.site view local n value) q) (h, λ at. refl))
      (when_step C M O (is_none (slots.made (AtProposal view local n))) proposal
      (makes_has leaf (a_proposal here.seat.site view local n value) (to_rep here) (record { site = refl; leads = leads; reports = tt }) tt))

  -- a share of a Prepare of this site that is kept
  keeps_prepare_has : (slots : Slots) (leaf view local n : ℕ) (value : Value) (signed : Signed) → here.seat.site ≡ view % here.seat.sites → SharesHave (slots.shares (AtPrepare view local n)) →
      SignedHas H (a_prepare here.seat.site view local n value) signed → StepHas C M O (keeps_prepare here slots leaf here.seat.site view local n value signed)
  keeps_prepare_has slots leaf view local n value signed leads shares h =
      let s : Statement = a_prepare here.seat.site view local n value in
      let q : Quorum = completed here (slots.shares (AtPrepare view local n)) s signed in
      then_has C M O (keeping (messages.Share s signed)) (when (completes_prepare here slots here.seat.site view local n value signed) (prepares here slots leaf view local n value q))
      (keeping_has C M O (messages.Share s signed) (other (messages.Share s signed) h tt))
      (when_step C M O (completes_prepare here slots here.seat.site view local n value signed) (prepares here slots leaf view local n value q)
      (prepares_has slots leaf view local n value q leads (completed_has (slots.shares (AtPrepare view local n)) s signed shares h)))

  pub assign_has : (slots : Slots) (forced : Forced) (view local n : ℕ) (value : Value) (client_seal : Bytes) (signed : Signed) → SharesHave (slots.shares (AtPrepare view local n)) →
      K (messages.Assign (record { 0 = view }) (record { 0 = local }) (record { 0 = n }) value client_seal signed) → AnswerHas C M O (on_assign here slots forced view local n value client_seal signed)
  assign_has slots forced view local n value client_seal signed shares h =
      let new : Bool = assigns slots view local n in
      let made : Step = making here.leaf (a_prepare here.seat.site view local n value) forms.Share (to_site here) in
      let kept : Step = keeps_prepare here slots (here.leaf + one_if new) here.seat.site view local n value signed in
      decides_fits (AnswerHas C M O) (λ reason. tt) (assign_reasons here slots forced view local n value client_seal signed) (assign_step here slots view local n value signed)
      (λ none.
      let is : view % here.seat.sites ≡ here.seat.site = not_false (view % here.seat.sites) here.seat.site none.0 in
      then_has C M O (when new made) (when (keeps_assigned here slots view local n) kept)
      (when_step C M O new made (makes_has here.leaf (a_prepare here.seat.site view local n value) (to_site here) (record { site = refl; leads = sym is; reports = tt }) tt))
      (when_step C M O (keeps_assigned here slots view local n) kept
      (keeps_prepare_has slots (here.leaf + one_if new) view local n value signed (sym is) shares (subst (λ i. SignedHas H (a_prepare i view local n value) signed) is h.0.1))))

  pub prepare_has : (slots : Slots) (site view local n : ℕ) (value : Value) (signed : Signed) → SharesHave (slots.shares (AtPrepare view local n)) →
      K (messages.Share (a_prepare site view local n value) signed) → AnswerHas C M O (on_prepare here slots site view local n value signed)
  prepare_has slots site view local n value signed shares h =
      decides_fits (AnswerHas C M O) (λ reason. tt) (prepare_reasons here slots site view local n value signed) (prepare_step here slots site view local n value signed)
      (λ none.
      let is : site ≡ here.seat.site = not_false site here.seat.site none.0 in
      subst (λ i. StepHas C M O (keeps_prepare here slots here.leaf i view local n value signed)) (sym is)
      (keeps_prepare_has slots here.leaf view local n value signed (sym is ∙ h.1) shares (subst (λ i. SignedHas H (a_prepare i view local n value) signed) is h.0)))

  pub proposal_share_has : (slots : Slots) (site view local n : ℕ) (value : Value) (signed : Signed) → SharesHave (slots.shares (AtProposal view local n)) →
      K (messages.Share (a_proposal site view local n value) signed) → AnswerHas C M O (on_proposal_share here slots site view local n value signed)
  proposal_share_has slots site view local n value signed shares h =
      decides_fits (AnswerHas C M O) (λ reason. tt) (proposal_share_reasons here slots site view local n signed) (proposal_share_step here slots site view local n value signed)
      (λ none. certified (slots.shares (AtProposal view local n)) (a_proposal site view local n value) signed scopes.All shares h.0 tt)

  pub accept_share_has : (slots : Slots) (site view n : ℕ) (value : Value) (signed : Signed) → SharesHave (slots.shares (AtAccept view n)) →
      K (messages.Share (an_accept site view n value) signed) → AnswerHas C M O (on_accept_share here slots site view n value signed)
  accept_share_has slots site view n value signed shares h =
      decides_fits (AnswerHas C M O) (λ reason. tt) (accept_share_reasons here slots site view n signed) (accept_share_step here slots site view n value signed)
      (λ none. certified (slots.shares (AtAccept view n)) (an_accept site view n value) signed scopes.All shares h.0 tt)

  pub proposal_has : (slots : Slots) (site view local n : ℕ) (value : Value) (q : Quorum) → K (messages.Certificate (a_proposal site view local n value) q) →
      AnswerHas C M O (on_proposal here slots site view local n value q)
  proposal_has slots site view local n value q h =
      decides_fits (AnswerHas C M O) (λ reason. tt) (proposal_reasons here slots view n) (proposal_step here site view local n value q)
      (λ none.
      then_has C M O (recording (Accepted (a_proposal site view local n value) q)) (making here.leaf (an_accept here.seat.site view n value) forms.Share (to_rep here))
      (recording_has C M O (Accepted (a_proposal site view local n value) q) (h.0, λ at. h.1))
      (makes_has here.leaf (an_accept here.seat.site view n value) (to_rep here) (record { site = refl; leads = tt; reports = tt }) tt))

  -- ---- views

  pub local_timeout_has : (made : Option Sealing) → AnswerHas C M O (on_local_timeout here made)
  local_timeout_has made =
      decides_fits (AnswerHas C M O) (λ reason. tt) (bound (here.local + 1) ∷ seen (is_some made) ∷ spent here 1 ∷ [])
      (making here.leaf (a_local_vc here.seat.site (here.local + 1)) forms.Share (to_site here))
      (λ none. makes_has here.leaf (a_local_vc here.seat.site (here.local + 1)) (to_site here) (record { site = refl; leads = tt; reports = tt }) tt)

  pub global_timeout_has : (made : Option Sealing) → AnswerHas C M O (on_global_timeout here made)
  global_timeout_has made =
      decides_fits (AnswerHas C M O) (λ reason. tt) (bound (here.view + 1) ∷ seen (is_some made) ∷ spent here 1 ∷ [])
      (making here.leaf (a_global_vc here.seat.site (here.view + 1)) forms.Share (to_rep here))
      (λ none. makes_has here.leaf (a_global_vc here.seat.site (here.view + 1)) (to_rep here) (record { site = refl; leads = tt; reports = tt }) tt)

  -- votes for one view, as shares
  votes_have : (of_view : ℕ → Statement) (view : ℕ) (votes : ℕ → Option Vote) → ((i : ℕ) → IfSome (votes i) (λ v. SignedHas H (of_view v.view) (record { index = i; seal = v.seal }))) →
      SharesHave (votes_for (of_view view) view votes)
  votes_have of_view view votes h i =
      chosen (λ v. SignedHas H (of_view v.view) (record { index = i; seal = v.seal })) (λ (x : Option Share). IfSome x (λ y. SignedHas H y.statement (record { index = i; seal = y.seal })))
      (votes i) None _ (h i) tt
      (λ v g.
      when_has (λ (y : Share). SignedHas H y.statement (record { index = i; seal = y.seal })) (nat_eq v.view view) (record { statement = of_view view; seal = v.seal })
      (λ yes. subst (λ n. SignedHas H (of_view n) (record { index = i; seal = v.seal })) (eqb-true v.view view yes) g))

  pub local_share_has : (votes : Votes) (site local : ℕ) (signed : Signed) →
      ((i : ℕ) → IfSome (votes.local i) (λ v. SignedHas H (a_local_vc here.seat.site v.view) (record { index = i; seal = v.seal }))) → K (messages.Share (a_local_vc site local) signed) →
      AnswerHas C M O (on_local_share here votes site local signed)
  local_share_has votes site local signed kept h =
      let s : Statement = a_local_vc site local in
      let shares : (ℕ → Option Share) = votes_for s local votes.local in
      let done : Bool = completes here shares s signed in
      let entering : Step = recording (EnterLocal (record { 0 = local }) (completed here shares s signed)) in
      decides_fits (AnswerHas C M O) (λ reason. tt)
      (not_site here site
      ∷ other_view here (nat_le local here.local)
      ∷ bound local
      ∷ seen (has_voted local (votes.local signed.index) || complete here shares)
      ∷ spent here (one_if done)
      ∷ [])
      (then (keeping (messages.Share s signed)) (when done entering))
      (λ none.
      let is : site ≡ here.seat.site = not_false site here.seat.site none.0 in
      let all : SharesHave shares =
      votes_have (λ v. a_local_vc site v) local votes.local
      (λ i. subst (λ at. IfSome (votes.local i) (λ v. SignedHas H (a_local_vc at v.view) (record { index = i; seal = v.seal }))) (sym is) (kept i)) in
      then_has C M O (keeping (messages.Share s signed)) (when done entering) (keeping_has C M O (messages.Share s signed) (other (messages.Share s signed) h.0 is))
      (when_step C M O done entering
      (recording_has C M O (EnterLocal (record { 0 = local }) (completed here shares s signed))
      (subst (λ at. QuorumHas H (a_local_vc at local) (completed here shares s signed)) is (completed_has shares s signed all h.0), λ at. tt))))

  pub local_proof_has : (site local : ℕ) (q : Quorum) → K (messages.ViewProof (view_words.Local (a_local_vc site local) q)) → AnswerHas C M O (on_local_proof here site local q)
  local_proof_has site local q h =
      decides_fits (AnswerHas C M O) (λ reason. tt) (not_site here site ∷ other_view here (nat_le local here.local) ∷ bound local ∷ spent here 1 ∷ [])
      (recording (EnterLocal (record { 0 = local }) q))
      (λ none.
      recording_has C M O (EnterLocal (record { 0 = local }) q) (subst (λ at. QuorumHas H (a_local_vc at local) q) (not_false site here.seat.site none.0) h.0, λ at. tt))

  pub global_share_has : (votes : Votes) (site view : ℕ) (signed : Signed) →
      ((i : ℕ) → IfSome (votes.global i) (λ v. SignedHas H (a_global_vc here.seat.site v.view) (record { index = i; seal = v.seal }))) → K (messages.Share (a_global_vc site view) signed) →
      AnswerHas C M O (on_global_share here votes site view signed)
  global_share_has votes site view signed kept h =
      let s : Statement = a_global_vc site view in
      let shares : (ℕ → Option Share) = votes_for s view votes.global in
      decides_fits (AnswerHas C M O) (λ reason. tt)
      (not_site here site
      ∷ other_view here (nat_le view here.view)
      ∷ not_rep here
      ∷ bound view
      ∷ seen (has_voted view (votes.global signed.index) || complete here shares)
      ∷ [])
      (certifies here shares s signed scopes.All)
      (λ none.
      let is : site ≡ here.seat.site = not_false site here.seat.site none.0 in
      certified shares s signed scopes.All
      (votes_have (λ v. a_global_vc site v) view votes.global
      (λ i. subst (λ at. IfSome (votes.global i) (λ v. SignedHas H (a_global_vc at v.view) (record { index = i; seal = v.seal }))) (sym is) (kept i)))
      h.0 is)

  pub global_vc_has : (votes : Votes) (site view : ℕ) (q : Quorum) → ((s : ℕ) → IfSome (votes.asked s) (λ a. QuorumHas H (a_global_vc s a.view) a.quorum)) →
      K (messages.Certificate (a_global_vc site view) q) → AnswerHas C M O (on_global_vc here votes site view q)
  global_vc_has votes site view q kept h =
      let asked : (ℕ → Option Asked) = with_asked votes.asked site view q in
      let done : Bool = nat_le (majority here) (count_below (λ s. asks_for view (asked s)) here.seat.sites) in
      let change : Change = EnterGlobal (record { 0 = view }) (all_below (word_for view asked) here.seat.sites) in
      decides_fits (AnswerHas C M O) (λ reason. tt)
      (other_view here (nat_le view here.view)
      ∷ bound view
      ∷ seen (given (votes.asked site) false (λ a. nat_le view a.view))
      ∷ spent here (one_if done)
      ∷ [])
      (then (keeping (messages.Certificate (a_global_vc site view) q)) (when done (recording change)))
      (λ none.
      then_has C M O (keeping (messages.Certificate (a_global_vc site view) q)) (when done (recording change))
      (keeping_has C M O (messages.Certificate (a_global_vc site view) q) (other (messages.Certificate (a_global_vc site view) q) h.0 tt))
      (when_step C M O done (recording change)
      (recording_has C M O change
      (all_below_all (λ (w : SiteWord). QuorumHas H (a_global_vc w.site.0 view) w.quorum) (word_for view asked) here.seat.sites (λ s. word_has s (asked s) (asked_has s (nat_eq site s) refl)), λ at. tt))))
    where
      asked_has : (s : ℕ) (b : Bool) → nat_eq site s ≡ b → IfSome (cond b (Some (record { view = view; quorum = q })) (votes.asked s)) (λ a. QuorumHas H (a_global_vc s a.view) a.quorum)
      asked_has s true e = subst (λ n. QuorumHas H (a_global_vc n view) q) (eqb-true site s e) h.0
      asked_has s false e = kept s

      word_has : (s : ℕ) (x : Option Asked) → IfSome x (λ a. QuorumHas H (a_global_vc s a.view) a.quorum) →
          Each (λ (w : SiteWord). QuorumHas H (a_global_vc w.site.0 view) w.quorum) (given x [] (λ a. cond (nat_eq a.view view) (a_site_word s a.quorum ∷ []) []))
      word_has s None g = tt
      word_has s (Some a) g = of_view (nat_eq a.view view) refl
        where
          of_view : (b : Bool) → nat_eq a.view view ≡ b → Each (λ (w : SiteWord). QuorumHas H (a_global_vc w.site.0 view) w.quorum) (cond b (a_site_word s a.quorum ∷ []) [])
          of_view true e = (subst (λ n. QuorumHas H (a_global_vc s n) a.quorum) (eqb-true a.view view e) g, tt)
          of_view false e = tt

  pub view_proof_has : (view : ℕ) (words : List SiteWord) → K (messages.ViewProof (view_words.Global (record { 0 = view }) words)) → AnswerHas C M O (on_view_proof here view words)
  view_proof_has view words h =
      decides_fits (AnswerHas C M O) (λ reason. tt) (other_view here (nat_le view here.view) ∷ bound view ∷ spent here 1 ∷ []) (recording (EnterGlobal (record { 0 = view }) words))
      (λ none. recording_has C M O (EnterGlobal (record { 0 = view }) words) (h.0, λ at. tt))

  -- ---- reports and unions

  -- items and their Quorums, put together
  more_items : (of_item : Item → Statement) (xs ys : List Item) (qs rs : List Quorum) → length xs ≡ length qs → ItemsHave H of_item xs qs → ItemsHave H of_item ys rs → ItemsHave H of_item (xs ++ ys) (qs ++ rs)
  unfolding ItemsHave
  more_items of_item [] ys [] rs e a b = b
  more_items of_item [] ys (q ∷ qs) rs e a b = absurd (omega (arith, e))
  more_items of_item (x ∷ xs) ys [] rs e a b = absurd (omega (arith, e))
  more_items of_item (x ∷ xs) ys (q ∷ qs) rs e a b = (a.0, more_items of_item xs ys qs rs (omega (arith, e)) a.1 b)

  -- as many items as Quorums of the numbers below one
  window_lengths : (kept : ℕ → Option Backed) (k : ℕ) →
      length (all_below (λ i. given (kept (here.executed + 1 + i)) [] (λ b. item_of (here.executed + 1 + i) b ∷ [])) k)
      ≡ length (all_below (λ i. given (kept (here.executed + 1 + i)) [] (λ b. b.quorum ∷ [])) k)
  unfolding all_below
  window_lengths kept zero = refl
  window_lengths kept (suc k) =
      length-append (all_below (λ i. given (kept (here.executed + 1 + i)) [] (λ b. item_of (here.executed + 1 + i) b ∷ [])) k) (given (kept (here.executed + 1 + k)) [] (λ b. item_of (here.executed + 1 + k) b ∷ []))
      ∙ (ap2 (window_lengths kept k) (one_length (kept (here.executed + 1 + k)))
      ∙ sym (length-append (all_below (λ i. given (kept (here.executed + 1 + i)) [] (λ b. b.quorum ∷ [])) k) (given (kept (here.executed + 1 + k)) [] (λ b. b.quorum ∷ []))))
    where
      ap2 : {a b c d : ℕ} → a ≡ b → c ≡ d → a + c ≡ b + d
      ap2 e f = omega (arith, e, f)

      one_length : (x : Option Backed) → length (given x [] (λ b. item_of (here.executed + 1 + k) b ∷ [])) ≡ length (given x [] (λ b. b.quorum ∷ []))
      one_length None = refl
      one_length (Some b) = refl

  -- the items of the window and their Quorums
  window_has : (of_item : Item → Statement) (kept : ℕ → Option Backed) → ((n : ℕ) → IfSome (kept n) (λ b. QuorumHas H (of_item (item_of n b)) b.quorum)) → (k : ℕ) →
      ItemsHave H of_item (all_below (λ i. given (kept (here.executed + 1 + i)) [] (λ b. item_of (here.executed + 1 + i) b ∷ [])) k)
      (all_below (λ i. given (kept (here.executed + 1 + i)) [] (λ b. b.quorum ∷ [])) k)
  unfolding all_below ItemsHave
  window_has of_item kept h zero = tt
  window_has of_item kept h (suc k) =
      more_items of_item (all_below (λ i. given (kept (here.executed + 1 + i)) [] (λ b. item_of (here.executed + 1 + i) b ∷ [])) k) _
      (all_below (λ i. given (kept (here.executed + 1 + i)) [] (λ b. b.quorum ∷ [])) k) _ (window_lengths kept k) (window_has of_item kept h k)
      (one (kept (here.executed + 1 + k)) (h (here.executed + 1 + k)))
    where
      one : (x : Option Backed) → IfSome x (λ b. QuorumHas H (of_item (item_of (here.executed + 1 + k) b)) b.quorum) →
          ItemsHave H of_item (given x [] (λ b. item_of (here.executed + 1 + k) b ∷ [])) (given x [] (λ b. b.quorum ∷ []))
      one None g = tt
      one (Some b) g = (g, tt)

  -- The report that a server makes.
  pub makes_report_has : (slots : Slots) (base : Option Proof) (global : Bool) →
      ((n : ℕ) → IfSome (slots.prepared n) (λ b. QuorumHas H (a_prepare here.seat.site b.view b.local n b.value) b.quorum)) →
      ((n : ℕ) → IfSome (slots.accepted n) (λ b. QuorumHas H (a_proposal (b.view % here.seat.sites) b.view b.local n b.value) b.quorum)) →
      BaseHas H here.executed base → O (make_report here slots base global)
  makes_report_has slots base false p a b =
      (record { site = refl; leads = tt; reports = refl }, (window_has (local_item_of H here.seat.sites here.seat.site) slots.prepared p WINDOW, b))
  makes_report_has slots base true p a b =
      (record { site = refl; leads = tt; reports = refl }, (window_has (global_item_of H here.seat.sites) slots.accepted a WINDOW, b))

  pub report_has : (kept : ℕ → Option ReportBody) (r : ReportBody) → ((i : ℕ) → IfSome (kept i) (ReportHas H here.seat.sites)) → K (messages.Report r) → AnswerHas C M O (add_report here kept r)
  report_has kept r all h =
      let bundle : Out = Send (messages.Bundle (all_below (λ i. to_list (with_report kept r i)) (servers here))) (to_site here) in
      let enough : Bool = nat_le (quorum here) (reports_kept here (with_report kept r)) in
      decides_fits (AnswerHas C M O) (λ reason. tt)
      (not_site here (site_of r.statement)
      ∷ other_view here (not_present here (report_of r.statement))
      ∷ not_rep here
      ∷ seen (is_some (kept (index_of r.statement)) || nat_le (quorum here) (reports_kept here kept))
      ∷ [])
      (then (keeping (messages.Report r)) (when enough (putting bundle)))
      (λ none.
      then_has C M O (keeping (messages.Report r)) (when enough (putting bundle)) (keeping_has C M O (messages.Report r) (other (messages.Report r) h.0 tt))
      (when_step C M O enough (putting bundle)
      (putting_has C M O bundle
      (all_below_all (ReportHas H here.seat.sites) (λ i. to_list (with_report kept r i)) (servers here)
      (λ i. to_list_all (ReportHas H here.seat.sites) (with_report kept r i) (either_has (ReportHas H here.seat.sites) (nat_eq (index_of r.statement) i) (Some r) (kept i) h.0 (all i)))))))

  -- the union of reports of this site
  union_mine : (s : Statement) (greatest least : ℕ) (more : List Item) → site_of s ≡ here.seat.site → not_present here (report_of s) ≡ false → Mine H here.seat (union_as s greatest least more)
  union_mine (LocalReport site local index view base items) greatest least more is e = record { site = is; leads = tt; reports = tt }
  union_mine (GlobalReport site view index base items) greatest least more is e = record { site = is; leads = tt; reports = tt }
  union_mine (Prepare site view local number value) greatest least more is e = absurd (let no : true ≡ false = e in cc)
  union_mine (Proposal site view local number value) greatest least more is e = absurd (let no : true ≡ false = e in cc)
  union_mine (Accept site view number value) greatest least more is e = absurd (let no : true ≡ false = e in cc)
  union_mine (LocalVc site local) greatest least more is e = absurd (let no : true ≡ false = e in cc)
  union_mine (GlobalVc site view) greatest least more is e = absurd (let no : true ≡ false = e in cc)
  union_mine (LocalUnion site local top base items) greatest least more is e = absurd (let no : true ≡ false = e in cc)
  union_mine (GlobalUnion site view base items) greatest least more is e = absurd (let no : true ≡ false = e in cc)
  union_mine (Reply site client time number result) greatest least more is e = absurd (let no : true ≡ false = e in cc)
  union_mine (ClientUpdate update) greatest least more is e = absurd (let no : true ≡ false = e in cc)

  pub bundle_has : (made : Option Sealing) (r : ReportBody) (rs : List ReportBody) → AnswerHas C M O (check_bundle here made (r ∷ rs))
  unfolding union
  bundle_has made r rs =
      decides_fits (AnswerHas C M O) (λ reason. tt)
      (not_site here (site_of r.statement) ∷ other_view here (not_present here (report_of r.statement)) ∷ seen (is_some made) ∷ spent here 1 ∷ [])
      (making here.leaf (union (r ∷ rs)) forms.Share (to_rep here))
      (λ none.
      makes_has here.leaf (union_as r.statement (most view_in (r ∷ rs)) (most base_in (r ∷ rs)) (union_items (r ∷ rs))) (to_rep here)
      (union_mine r.statement (most view_in (r ∷ rs)) (most base_in (r ∷ rs)) (union_items (r ∷ rs)) (not_false (site_of r.statement) here.seat.site none.0) none.1.0) (share_form _))

  pub union_share_has : (shares : ℕ → Option Share) (s : Statement) (signed : Signed) → SharesHave shares → K (messages.Share s signed) → AnswerHas C M O (on_union_share here shares s signed)
  union_share_has shares s signed all h =
      decides_fits (AnswerHas C M O) (λ reason. tt)
      (not_site here (site_of s) ∷ other_view here (not_present here (union_of s)) ∷ not_rep here ∷ seen (is_some (shares signed.index) || complete here shares) ∷ [])
      (certifies here shares s signed (union_to here s))
      (λ none. certified shares s signed (union_to here s) all h.0 (of_site s (not_false (site_of s) here.seat.site none.0)))
    where
      of_site : (s : Statement) → site_of s ≡ here.seat.site → OfSite H here.seat (messages.Share s signed)
      of_site (LocalVc site local) is = is
      of_site (GlobalVc site view) is = is
      of_site _ is = tt

  pub union_has : (held : Option Held) (s : Statement) (q : Quorum) → K (messages.Certificate s q) → AnswerHas C M O (on_union here held s q)
  union_has held s q h =
      decides_fits (AnswerHas C M O) (λ reason. tt) (not_site here (union_site here s) ∷ other_view here (not_present here (union_of s)) ∷ seen (is_some held) ∷ []) (recording (Union s q))
      (λ none. recording_has C M O (Union s q) (h.0, λ at. tt))
