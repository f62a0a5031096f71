-- What a server makes that is a union is one of reports that were brought to it: facts of changes and messages, and each
-- part's step by them.
use Rattle.std.proofs.Common.{◌≡◌, ℕ, ◌+◌, Bool, false, zero, suc, nat_eq, List, [], ◌∷◌, ◌++◌, subst, refl}
use Rattle.std.specs.Prelude.{◌&&◌, ◌||◌, not, nat_le, nat_lt, Option, is_some, is_none}
use Rattle.std.specs.List.{AllByRecursion as Each}
use Rattle.st_words.specs.declared.deployment.TheConstants.{WINDOW}
use Rattle.st_words.specs.declared.ids.ServerId.{ServerId}
use Rattle.st_words.specs.declared.value.Update.{Update}
use Rattle.st_words.specs.declared.value.Value.{Value}
use Rattle.st_words.specs.declared.statement.Statement.{Statement}
use Rattle.st_words.specs.declared.statement.Statement.TheVariants.{LocalUnion, GlobalUnion}
use Rattle.st_seal.specs.declared.quorum.Signed.{Signed}
use Rattle.st_message.specs.declared.message.SiteWord.{SiteWord}
use Rattle.st_message.specs.declared.message.Proof.{Proof}
use Rattle.st_message.specs.declared.message.ReportBody.{ReportBody}
use Rattle.st_message.specs.declared.message.Message.{Message}
use Rattle.st_message.specs.declared.message.Message.TheVariants as messages
use Rattle.st_message.specs.declared.event.Scope.{Scope}
use Rattle.st_message.specs.declared.event.Scope.TheVariants as scopes
use Rattle.st_message.specs.declared.change.Change.{Change}
use Rattle.st_message.specs.declared.change.Change.TheVariants.{EnterLocal, EnterGlobal, Made, Prepared, Accepted, Union, Executed}
use Rattle.st_message.specs.declared.change.Heard.{Heard}
use Rattle.st_message.specs.declared.step.Form.{Form}
use Rattle.st_message.specs.declared.step.Form.TheVariants as forms
use Rattle.st_message.specs.declared.step.Out.{Out}
use Rattle.st_message.specs.declared.step.Out.TheVariants.{Make, Send}
use Rattle.st_message.specs.declared.step.Step.{Step}
use Rattle.st_protocol.specs.Words.{Bytes, Quorum, a_prepare, a_proposal, an_accept, a_local_vc, a_global_vc, site_of, index_of}
use Rattle.st_protocol.specs.Keeping.{given}
use Rattle.st_protocol.specs.State.{AtPrepare, AtProposal, AtAccept, Here, Sealing, Share, Slots, Votes, Asked, Pended, Held, Hand, KeptViews, report_of, union_of}
use Rattle.st_protocol.specs.Growth.{hand_takes, hand_cuts}
use Rattle.st_protocol.specs.Step.{Answer, idle, then, making, recording, keeping, putting, when, all_below, count_below, to_list, majority, quorum, servers, to_rep, to_site, not_site, other_view, not_rep, bound, seen, spent, beyond, full, complete, completes, completed, certifies, one_if}
use Rattle.st_protocol.specs.Forced.{Forced}
use Rattle.st_protocol.specs.Assigning.{update_reasons, update_step, on_update, prepares, completes_prepare, keeps_prepare, assigns, keeps_assigned, assign_reasons, assign_step, on_assign, prepare_reasons, prepare_step, on_prepare, proposal_share_reasons, proposal_share_step, on_proposal_share, fill_value, fill}
use Rattle.st_protocol.specs.Views.{votes_for, has_voted, with_asked, asks_for, word_for, on_local_timeout, on_global_timeout, on_local_share, on_local_proof, on_global_share, on_global_vc, on_view_proof}
use Rattle.st_protocol.specs.Collecting.{not_present, reports_kept, with_report, add_report, union, check_bundle, union_to, on_union_share, union_site, on_union}
use Rattle.st_protocol.specs.Ordering.{accept_share_reasons, accept_share_step, on_accept_share, proposal_reasons, proposal_step, on_proposal, accept_reasons, accept_step, on_accept, on_order_proof, in_hand, executions, keeps_and_executes}
use Rattle.st_protocol.specs.Reconciling.{owed_proofs, owed_view, owed_local, answer}
use Rattle.st_frame_laws.proofs.ChoiceLaws.{either, chosen_any, not_false, if_any, each_any}
use Rattle.st_frame_laws.proofs.FillFrame.{fill_kept}
use Rattle.st_frame_laws.proofs.PartFrame.{StepHas, AnswerHas, idle_has, then_has, making_has, recording_has, keeping_has, putting_has, when_step, certifies_has, decides_fits}

module _ (B : ℕ → List ReportBody → Type 0) where
  -- a bundle that is brought, by the site of its first report
  abbrev pub Brings : Message → Type 0
  Brings (messages.Bundle (r ∷ rs)) = B (site_of r.statement) (r ∷ rs)
  Brings _ = Unit {0}

  -- the statement is the union of reports of the site
  abbrev pub IsUnited : ℕ → Statement → Type 0
  IsUnited site t = (rs : List ReportBody) × (B site rs × (t ≡ union rs))

  -- so it is of a union that is made
  abbrev pub Unites : ℕ → Statement → Type 0
  Unites site (LocalUnion s local greatest base items) = IsUnited site (LocalUnion s local greatest base items)
  Unites site (GlobalUnion s view base items) = IsUnited site (GlobalUnion s view base items)
  Unites site _ = Unit {0}

  -- and of a change
  abbrev pub UnitesAt : ℕ → Change → Type 0
  UnitesAt site (Made leaf t) = Unites site t
  UnitesAt site _ = Unit {0}

  -- what is one of reports is, as the union that it is
  unites : (site : ℕ) (t : Statement) → IsUnited site t → Unites site t
  unites site (LocalUnion s local greatest base items) h = h
  unites site (GlobalUnion s view base items) h = h
  unites site _ h = tt

  module _ (here : Here) where
    -- at this server: of a change; of what is kept and of what goes out nothing is asked
    abbrev pub C : Change → Type 0
    C x = UnitesAt here.seat.site x

    -- of what is kept as heard
    abbrev pub M : Heard → Type 0
    M m = Unit {0}

    -- of what goes out
    abbrev pub O : Out → Type 0
    O o = Unit {0}

    -- of an answer
    abbrev Fits : Answer → Type 0
    Fits a = AnswerHas C M O a

    -- of a step
    abbrev Fine : Step → Type 0
    Fine step = StepHas C M O step

    -- steps of one change, one message kept, one message that goes out
    made : (leaf : ℕ) (s : Statement) (form : Form) (to : Scope) → Unites here.seat.site s → Fine (making leaf s form to)
    made leaf s form to h = making_has C M O leaf s form to h tt

    -- a message is kept
    kept : (m : Message) → Fine (keeping m)
    kept m = keeping_has C M O m tt

    -- something goes out
    put : (o : Out) → Fine (putting o)
    put o = putting_has C M O o tt

    -- a share is kept, and may complete a certificate
    certified : (shares : ℕ → Option Share) (s : Statement) (signed : Signed) (to : Scope) → Fine (certifies here shares s signed to)
    certified shares s signed to = certifies_has C M O here shares s signed to tt tt tt

    -- ---- the normal case

    -- a client's update
    pub update_unites : (pending : ℕ → Option Pended) (last : ℕ) (reply : Option Sealing) (u : Update) (seal : Bytes) → Fits (on_update here pending last reply u seal)
    update_unites pending last reply u seal =
        decides_fits Fits (λ reason. tt) (update_reasons here pending last reply u) (update_step last reply u seal)
        (λ none.
        either Fine (nat_eq u.time last) (given reply idle (λ m. putting (Make m.statement forms.Reply (scopes.Client u.client)))) (keeping (messages.Update u seal))
        (chosen_any Fine reply idle (λ m. putting (Make m.statement forms.Reply (scopes.Client u.client))) (idle_has C M O) (λ m. put (Make m.statement forms.Reply (scopes.Client u.client))))
        (kept (messages.Update u seal)))

    -- a slot is prepared
    prepares_unites : (slots : Slots) (leaf view local n : ℕ) (value : Value) (q : Quorum) → Fine (prepares here slots leaf view local n value q)
    prepares_unites slots leaf view local n value q =
        let proposal : Step = making leaf (a_proposal here.seat.site view local n value) forms.Share (to_rep here) in
        then_has C M O (recording (Prepared (a_prepare here.seat.site view local n value) q)) (when (is_none (slots.made (AtProposal view local n))) proposal)
        (recording_has C M O (Prepared (a_prepare here.seat.site view local n value) q) tt)
        (when_step C M O (is_none (slots.made (AtProposal view local n))) proposal (made leaf (a_proposal here.seat.site view local n value) forms.Share (to_rep here) tt))

    -- the share of a Prepare is kept, and may prepare its slot
    keeps_prepare_unites : (slots : Slots) (leaf site view local n : ℕ) (value : Value) (signed : Signed) → Fine (keeps_prepare here slots leaf site view local n value signed)
    keeps_prepare_unites slots leaf site view local n value signed =
        let s : Statement = a_prepare site view local n value in
        let q : Quorum = completed here (slots.shares (AtPrepare view local n)) s signed in
        then_has C M O (keeping (messages.Share s signed)) (when (completes_prepare here slots site view local n value signed) (prepares here slots leaf view local n value q)) (kept (messages.Share s signed))
        (when_step C M O (completes_prepare here slots site view local n value signed) (prepares here slots leaf view local n value q) (prepares_unites slots leaf view local n value q))

    -- the share of a Prepare
    pub prepare_unites : (slots : Slots) (site view local n : ℕ) (value : Value) (signed : Signed) → Fits (on_prepare here slots site view local n value signed)
    prepare_unites slots site view local n value signed =
        decides_fits Fits (λ reason. tt) (prepare_reasons here slots site view local n value signed) (prepare_step here slots site view local n value signed)
        (λ none. keeps_prepare_unites slots here.leaf site view local n value signed)

    -- the share of a Proposal
    pub proposal_share_unites : (slots : Slots) (site view local n : ℕ) (value : Value) (signed : Signed) → Fits (on_proposal_share here slots site view local n value signed)
    proposal_share_unites slots site view local n value signed =
        decides_fits Fits (λ reason. tt) (proposal_share_reasons here slots site view local n signed) (proposal_share_step here slots site view local n value signed)
        (λ none. certified (slots.shares (AtProposal view local n)) (a_proposal site view local n value) signed scopes.All)

    -- the share of an Accept
    pub accept_share_unites : (slots : Slots) (site view n : ℕ) (value : Value) (signed : Signed) → Fits (on_accept_share here slots site view n value signed)
    accept_share_unites slots site view n value signed =
        decides_fits Fits (λ reason. tt) (accept_share_reasons here slots site view n signed) (accept_share_step here slots site view n value signed)
        (λ none. certified (slots.shares (AtAccept view n)) (an_accept site view n value) signed scopes.All)

    -- a Proposal with its certificate
    pub proposal_unites : (slots : Slots) (site view local n : ℕ) (value : Value) (q : Quorum) → Fits (on_proposal here slots site view local n value q)
    proposal_unites slots site view local n value q =
        decides_fits Fits (λ reason. tt) (proposal_reasons here slots view n) (proposal_step here site view local n value q)
        (λ none.
        then_has C M O (recording (Accepted (a_proposal site view local n value) q)) (making here.leaf (an_accept here.seat.site view n value) forms.Share (to_rep here))
        (recording_has C M O (Accepted (a_proposal site view local n value) q) tt) (made here.leaf (an_accept here.seat.site view n value) forms.Share (to_rep here) tt))

    -- numbers are executed
    executions_unite : (hand : Hand) (k n : ℕ) → Each C (executions here hand k n)
    unfolding executions
    executions_unite hand zero n = tt
    executions_unite hand (suc k) n =
        chosen_any (Each C) (in_hand here hand n) [] (λ p. Executed (record { 0 = n }) p ∷ executions here hand k (n + 1)) tt (λ p. (tt, executions_unite hand k (n + 1)))

    -- what then is in hand is executed
    executes_unites : (hand : Hand) (m : Message) → Fine (keeps_and_executes here hand m)
    executes_unites hand m =
        record { changes = executions_unite (hand_cuts here (hand_takes (record { own = false; message = m }) hand)) WINDOW (here.executed + 1); heard = (tt, tt); out = tt }

    -- an Accept with its certificate
    pub accept_unites : (hand : Hand) (site view n : ℕ) (value : Value) (q : Quorum) → Fits (on_accept here hand site view n value q)
    accept_unites hand site view n value q =
        decides_fits Fits (λ reason. tt) (accept_reasons here hand site view n) (accept_step here hand site view n value q)
        (λ none. executes_unites hand (messages.Certificate (an_accept site view n value) q))

    -- the proof of an order
    pub order_proof_unites : (hand : Hand) (n : ℕ) (p : Proof) → Fits (on_order_proof here hand n p)
    order_proof_unites hand n p =
        decides_fits Fits (λ reason. tt) (beyond here n ∷ seen (is_some (hand.proof n)) ∷ full n ∷ []) (keeps_and_executes here hand (messages.OrderProof (record { 0 = n }) p))
        (λ none. executes_unites hand (messages.OrderProof (record { 0 = n }) p))

    -- ---- views

    -- the timeout of a local view
    pub local_timeout_unites : (was : Option Sealing) → Fits (on_local_timeout here was)
    local_timeout_unites was =
        decides_fits Fits (λ reason. tt) (bound (here.local + 1) ∷ seen (is_some was) ∷ spent here 1 ∷ [])
        (making here.leaf (a_local_vc here.seat.site (here.local + 1)) forms.Share (to_site here))
        (λ none. made here.leaf (a_local_vc here.seat.site (here.local + 1)) forms.Share (to_site here) tt)

    -- the timeout of a view
    pub global_timeout_unites : (was : Option Sealing) → Fits (on_global_timeout here was)
    global_timeout_unites was =
        decides_fits Fits (λ reason. tt) (bound (here.view + 1) ∷ seen (is_some was) ∷ spent here 1 ∷ [])
        (making here.leaf (a_global_vc here.seat.site (here.view + 1)) forms.Share (to_rep here))
        (λ none. made here.leaf (a_global_vc here.seat.site (here.view + 1)) forms.Share (to_rep here) tt)

    -- a share that asks for a local view
    pub local_share_unites : (votes : Votes) (site local : ℕ) (signed : Signed) → Fits (on_local_share here votes site local signed)
    local_share_unites votes site local signed =
        let s : Statement = a_local_vc site local in
        let shares : (ℕ → Option Share) = votes_for s local votes.local in
        let done : Bool = completes here shares s signed in
        let entering : Step = recording (EnterLocal (record { 0 = local }) (completed here shares s signed)) in
        decides_fits Fits (λ reason. tt)
        (not_site here site
        ∷ other_view here (nat_le local here.local)
        ∷ bound local
        ∷ seen (has_voted local (votes.local signed.index) || complete here shares)
        ∷ spent here (one_if done)
        ∷ [])
        (then (keeping (messages.Share s signed)) (when done entering))
        (λ none.
        then_has C M O (keeping (messages.Share s signed)) (when done entering) (kept (messages.Share s signed))
        (when_step C M O done entering (recording_has C M O (EnterLocal (record { 0 = local }) (completed here shares s signed)) tt)))

    -- the proof of a local view
    pub local_proof_unites : (site local : ℕ) (q : Quorum) → Fits (on_local_proof here site local q)
    local_proof_unites site local q =
        decides_fits Fits (λ reason. tt) (not_site here site ∷ other_view here (nat_le local here.local) ∷ bound local ∷ spent here 1 ∷ [])
        (recording (EnterLocal (record { 0 = local }) q)) (λ none. recording_has C M O (EnterLocal (record { 0 = local }) q) tt)

    -- a share that asks for a view
    pub global_share_unites : (votes : Votes) (site view : ℕ) (signed : Signed) → Fits (on_global_share here votes site view signed)
    global_share_unites votes site view signed =
        let s : Statement = a_global_vc site view in
        let shares : (ℕ → Option Share) = votes_for s view votes.global in
        decides_fits Fits (λ reason. tt)
        (not_site here site
        ∷ other_view here (nat_le view here.view)
        ∷ not_rep here
        ∷ bound view
        ∷ seen (has_voted view (votes.global signed.index) || complete here shares)
        ∷ [])
        (certifies here shares s signed scopes.All)
        (λ none. certified shares s signed scopes.All)

    -- a site's certificate that asks for a view
    pub global_vc_unites : (votes : Votes) (site view : ℕ) (q : Quorum) → Fits (on_global_vc here votes site view q)
    global_vc_unites votes site view q =
        let asked : (ℕ → Option Asked) = with_asked votes.asked site view q in
        let done : Bool = nat_le (majority here) (count_below (λ s. asks_for view (asked s)) here.seat.sites) in
        let change : Change = EnterGlobal (record { 0 = view }) (all_below (word_for view asked) here.seat.sites) in
        decides_fits Fits (λ reason. tt)
        (other_view here (nat_le view here.view)
        ∷ bound view
        ∷ seen (given (votes.asked site) false (λ a. nat_le view a.view))
        ∷ spent here (one_if done)
        ∷ [])
        (then (keeping (messages.Certificate (a_global_vc site view) q)) (when done (recording change)))
        (λ none.
        then_has C M O (keeping (messages.Certificate (a_global_vc site view) q)) (when done (recording change)) (kept (messages.Certificate (a_global_vc site view) q))
        (when_step C M O done (recording change) (recording_has C M O change tt)))

    -- the proof of a view
    pub view_proof_unites : (view : ℕ) (words : List SiteWord) → Fits (on_view_proof here view words)
    view_proof_unites view words =
        decides_fits Fits (λ reason. tt) (other_view here (nat_le view here.view) ∷ bound view ∷ spent here 1 ∷ []) (recording (EnterGlobal (record { 0 = view }) words))
        (λ none. recording_has C M O (EnterGlobal (record { 0 = view }) words) tt)

    -- ---- reports and unions

    -- a report
    pub report_unites : (reports : ℕ → Option ReportBody) (r : ReportBody) → Fits (add_report here reports r)
    report_unites reports r =
        let bundle : Out = Send (messages.Bundle (all_below (λ i. to_list (with_report reports r i)) (servers here))) (to_site here) in
        let enough : Bool = nat_le (quorum here) (reports_kept here (with_report reports r)) in
        decides_fits Fits (λ reason. tt)
        (not_site here (site_of r.statement)
        ∷ other_view here (not_present here (report_of r.statement))
        ∷ not_rep here
        ∷ seen (is_some (reports (index_of r.statement)) || nat_le (quorum here) (reports_kept here reports))
        ∷ [])
        (then (keeping (messages.Report r)) (when enough (putting bundle)))
        (λ none. then_has C M O (keeping (messages.Report r)) (when enough (putting bundle)) (kept (messages.Report r)) (when_step C M O enough (putting bundle) (put bundle)))

    -- The one that makes a union.
    pub bundle_unites : (was : Option Sealing) (r : ReportBody) (rs : List ReportBody) → Brings (messages.Bundle (r ∷ rs)) → Fits (check_bundle here was (r ∷ rs))
    bundle_unites was r rs h =
        decides_fits Fits (λ reason. tt)
        (not_site here (site_of r.statement) ∷ other_view here (not_present here (report_of r.statement)) ∷ seen (is_some was) ∷ spent here 1 ∷ [])
        (making here.leaf (union (r ∷ rs)) forms.Share (to_rep here))
        (λ none.
        made here.leaf (union (r ∷ rs)) forms.Share (to_rep here)
        (unites here.seat.site (union (r ∷ rs)) (r ∷ rs, (subst (λ at. B at (r ∷ rs)) (not_false (site_of r.statement) here.seat.site none.0) h, refl))))

    -- the share of a union
    pub union_share_unites : (shares : ℕ → Option Share) (s : Statement) (signed : Signed) → Fits (on_union_share here shares s signed)
    union_share_unites shares s signed =
        decides_fits Fits (λ reason. tt)
        (not_site here (site_of s) ∷ other_view here (not_present here (union_of s)) ∷ not_rep here ∷ seen (is_some (shares signed.index) || complete here shares) ∷ [])
        (certifies here shares s signed (union_to here s)) (λ none. certified shares s signed (union_to here s))

    -- a union with its certificate
    pub union_unites : (held : Option Held) (s : Statement) (q : Quorum) → Fits (on_union here held s q)
    union_unites held s q =
        decides_fits Fits (λ reason. tt) (not_site here (union_site here s) ∷ other_view here (not_present here (union_of s)) ∷ seen (is_some held) ∷ []) (recording (Union s q))
        (λ none. recording_has C M O (Union s q) tt)

    -- ---- what a server lacks, assignments, the fill

    -- what another server lacks
    pub ask_unites : (proofs : ℕ → Option Proof) (words : KeptViews) (to : ServerId) (executed view local : ℕ) → Fits (answer here proofs words to executed view local)
    ask_unites proofs words to executed view local =
        let os : List Out = owed_proofs here proofs to executed ++ owed_view here words to view ++ owed_local here words to local in
        decides_fits Fits (λ reason. tt)
        (seen (nat_le here.executed executed && nat_le here.view view && not (nat_eq to.site here.seat.site && nat_lt local here.local)) ∷ [])
        (record { changes = []; heard = []; out = os }) (λ none. record { changes = tt; heard = tt; out = each_any os })

    -- an assignment
    pub assign_unites : (slots : Slots) (forced : Forced) (view local n : ℕ) (value : Value) (client_seal : Bytes) (signed : Signed) →
        Fits (on_assign here slots forced view local n value client_seal signed)
    assign_unites slots forced view local n value client_seal signed =
        let new : Bool = assigns slots view local n in
        let prepare : Step = making here.leaf (a_prepare here.seat.site view local n value) forms.Share (to_site here) in
        let keeps : Step = keeps_prepare here slots (here.leaf + one_if new) here.seat.site view local n value signed in
        decides_fits Fits (λ reason. tt) (assign_reasons here slots forced view local n value client_seal signed) (assign_step here slots view local n value signed)
        (λ none.
        then_has C M O (when new prepare) (when (keeps_assigned here slots view local n) keeps)
        (when_step C M O new prepare (made here.leaf (a_prepare here.seat.site view local n value) forms.Share (to_site here) tt))
        (when_step C M O (keeps_assigned here slots view local n) keeps (keeps_prepare_unites slots (here.leaf + one_if new) here.seat.site view local n value signed)))

    -- the fill
    pub fill_unites : (slots : Slots) (pending : ℕ → Option Pended) (forced : Forced) → Fine (fill here slots pending forced)
    fill_unites slots pending forced =
        fill_kept Fine (λ x. Unit {0}) here pending forced slots (idle_has C M O)
        (λ may.
        record {
          value = λ slots n. if_any (fill_value here slots pending forced n);
          assigning = λ step leaf n x h any.
              let s : Statement = a_prepare here.seat.site here.view here.local n x.0 in
              then_has C M O step (making leaf s (forms.Assign x.1) (to_site here)) h (made leaf s (forms.Assign x.1) (to_site here) tt);
        })
