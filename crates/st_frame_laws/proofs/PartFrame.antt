-- What a part answers: facts of each change, of each thing heard and of each message that goes out, and which part is
-- asked.
use Rattle.std.proofs.Common.{◌≡◌, ℕ, ◌+◌, Bool, true, false, cond, List, [], ◌∷◌, ◌++◌, refl}
use Rattle.std.specs.Prelude.{Option, Some, None, is_some, nat_eq, ◌&&◌, ◌%◌}
use Rattle.std.specs.Option.{IfSome}
use Rattle.std.specs.List.{AllByRecursion as Each}
use Rattle.st_words.specs.declared.deployment.TheConstants.{WINDOW}
use Rattle.st_words.specs.declared.ids.ServerId.{ServerId}
use Rattle.st_words.specs.declared.value.Update.{Update}
use Rattle.st_words.specs.declared.value.Value.{Value}
use Rattle.st_words.specs.declared.statement.Statement.{Statement}
use Rattle.st_words.specs.declared.statement.Statement.TheVariants.{Prepare, Proposal, Accept, LocalVc, GlobalVc, LocalUnion, GlobalUnion}
use Rattle.st_seal.specs.declared.quorum.Signed.{Signed}
use Rattle.st_message.specs.declared.message.SiteWord.{SiteWord}
use Rattle.st_message.specs.declared.message.Proof.{Proof}
use Rattle.st_message.specs.declared.message.ReportBody.{ReportBody}
use Rattle.st_message.specs.declared.message.ViewWords.TheVariants as view_words
use Rattle.st_message.specs.declared.message.Message.{Message}
use Rattle.st_message.specs.declared.message.Message.TheVariants as messages
use Rattle.st_message.specs.declared.event.Scope.{Scope}
use Rattle.st_message.specs.declared.change.Change.{Change}
use Rattle.st_message.specs.declared.change.Change.TheVariants.{Made}
use Rattle.st_message.specs.declared.change.Heard.{Heard}
use Rattle.st_message.specs.declared.reason.Reason.{Reason}
use Rattle.st_message.specs.declared.reason.Reason.TheVariants.{NotMine, NotBuilt}
use Rattle.st_message.specs.declared.step.Form.{Form}
use Rattle.st_message.specs.declared.step.Form.TheVariants as forms
use Rattle.st_message.specs.declared.step.Out.{Out}
use Rattle.st_message.specs.declared.step.Out.TheVariants.{Make, Send}
use Rattle.st_message.specs.declared.step.Step.{Step}
use Rattle.st_protocol.specs.Words.{Bytes, Quorum, to_server_at}
use Rattle.st_protocol.specs.Keeping.{given}
use Rattle.st_protocol.specs.State.{AtPrepare, AtProposal, AtAccept, Term, OfLocal, OfGlobal, report_of, Here, Sealing, Share, Completed, Answers}
use Rattle.st_protocol.specs.Step.{Answer, Refused, Steps, idle, then, making, recording, keeping, completing, putting, when, decides, to_list, servers, rep, to_rep, to_site, completes, completed, certifies}
use Rattle.st_protocol.specs.Forced.{forced_of}
use Rattle.st_protocol.specs.Assigning.{on_update, on_assign, on_prepare, on_proposal_share}
use Rattle.st_protocol.specs.Views.{on_local_timeout, on_global_timeout, on_local_share, on_local_proof, on_global_share, on_global_vc, on_view_proof}
use Rattle.st_protocol.specs.Collecting.{add_report, check_bundle, on_union_share, on_union}
use Rattle.st_protocol.specs.Ordering.{on_accept_share, on_proposal, on_accept, on_order_proof}
use Rattle.st_protocol.specs.Reconciling.{ask, answer}
use Rattle.st_protocol.specs.Duty.{Event, Deliver, LocalTimeout, GlobalTimeout, Tick, Reading, Faulty, Clean, of_share, of_certificate, of_local_words, reports_at, union_made, of_bundle, of_kind, is_built_message, of_message, share_of, report_again, pending_seal, prepare_again, number_again, certificate_again, certificates_again, ask_to, tick_out, of_reading, of_event}
use Rattle.st_protocol.proofs.PartLaws.{NoneTrue}
use Rattle.st_frame_laws.specs.Events.{EventHas}
use Rattle.st_frame_laws.proofs.ChoiceLaws.{either, chosen, append_all, to_list_all, all_below_all}

-- each change, each thing heard and each message of a step
pub record StepHas (C : Change → Type 0) (M : Heard → Type 0) (O : Out → Type 0) (step : Step) : Type 0 where
  pub changes : Each C step.changes
  pub heard : Each M step.heard
  pub out : Each O step.out

module _ (C : Change → Type 0) (M : Heard → Type 0) (O : Out → Type 0) where
  -- an answer
  abbrev pub AnswerHas : Answer → Type 0
  AnswerHas (Refused reason) = Unit {0}
  AnswerHas (Steps step) = StepHas C M O step

  pub idle_has : StepHas C M O idle
  idle_has = record { changes = tt; heard = tt; out = tt }

  pub then_has : (a b : Step) → StepHas C M O a → StepHas C M O b → StepHas C M O (then a b)
  then_has a b p q =
      record { changes = append_all C a.changes b.changes p.changes q.changes; heard = append_all M a.heard b.heard p.heard q.heard; out = append_all O a.out b.out p.out q.out }

  pub making_has : (leaf : ℕ) (s : Statement) (form : Form) (to : Scope) → C (Made leaf s) → O (Make s form to) → StepHas C M O (making leaf s form to)
  making_has leaf s form to h g = record { changes = (h, tt); heard = tt; out = (g, tt) }

  pub recording_has : (x : Change) → C x → StepHas C M O (recording x)
  recording_has x h = record { changes = (h, tt); heard = tt; out = tt }

  pub keeping_has : (m : Message) → M (record { own = false; message = m }) → StepHas C M O (keeping m)
  keeping_has m h = record { changes = tt; heard = (h, tt); out = tt }

  pub completing_has : (m : Message) (to : Scope) → M (record { own = true; message = m }) → O (Send m to) → StepHas C M O (completing m to)
  completing_has m to h g = record { changes = tt; heard = (h, tt); out = (g, tt) }

  pub putting_has : (o : Out) → O o → StepHas C M O (putting o)
  putting_has o h = record { changes = tt; heard = tt; out = (h, tt) }

  pub when_step : (b : Bool) (step : Step) → StepHas C M O step → StepHas C M O (when b step)
  when_step b step h = either (StepHas C M O) b step idle h idle_has

  -- a share is kept, and may complete a certificate
  pub certifies_has : (here : Here) (shares : ℕ → Option Share) (s : Statement) (signed : Signed) (to : Scope) → M (record { own = false; message = messages.Share s signed }) →
      M (record { own = true; message = messages.Certificate s (completed here shares s signed) }) → O (Send (messages.Certificate s (completed here shares s signed)) to) →
      StepHas C M O (certifies here shares s signed to)
  certifies_has here shares s signed to h c o =
      let certificate : Message = messages.Certificate s (completed here shares s signed) in
      then_has (keeping (messages.Share s signed)) (when (completes here shares s signed) (completing certificate to)) (keeping_has (messages.Share s signed) h)
      (when_step (completes here shares s signed) (completing certificate to) (completing_has certificate to c o))

-- A step that no reason forbids: the tests are false there.
pub decides_fits : (A : Answer → Type 0) → ((reason : Reason) → A (Refused reason)) → (ts : List (Bool × Reason)) (step : Step) → (NoneTrue ts → A (Steps step)) → A (decides ts step)
decides_fits A refused [] step h = h tt
decides_fits A refused (t ∷ ts) step h = by t.0 refl (λ e. decides_fits A refused ts step (λ none. h (e, none)))
  where
    by : (b : Bool) → t.0 ≡ b → (t.0 ≡ false → A (decides ts step)) → A (cond b (Refused t.1) (decides ts step))
    by true e more = refused t.1
    by false e more = more e

-- ---- which part is asked

-- A of what each part answers, where K holds of the message: one field a part.
pub record EachPart (state : Answers) (A : Answer → Type 0) (K : Message → Type 0) : Type 0 where
  pub refused : (reason : Reason) → A (Refused reason)
  pub update : (u : Update) (seal : Bytes) → K (messages.Update u seal) →
      A (on_update state.here state.pending (state.log.run.last u.client.0) (state.making.reply (state.log.run.place u.client.0)) u seal)
  pub assign : (view local n : ℕ) (value : Value) (client_seal : Bytes) (signed : Signed) →
      K (messages.Assign (record { 0 = view }) (record { 0 = local }) (record { 0 = n }) value client_seal signed) →
      A (on_assign state.here state.slots (forced_of state.here state.unions) view local n value client_seal signed)
  pub prepare : (site view local n : ℕ) (value : Value) (signed : Signed) →
      K (messages.Share (Prepare (record { 0 = site }) (record { 0 = view }) (record { 0 = local }) (record { 0 = n }) value) signed) →
      A (on_prepare state.here state.slots site view local n value signed)
  pub proposal_share : (site view local n : ℕ) (value : Value) (signed : Signed) →
      K (messages.Share (Proposal (record { 0 = site }) (record { 0 = view }) (record { 0 = local }) (record { 0 = n }) value) signed) →
      A (on_proposal_share state.here state.slots site view local n value signed)
  pub accept_share : (site view n : ℕ) (value : Value) (signed : Signed) →
      K (messages.Share (Accept (record { 0 = site }) (record { 0 = view }) (record { 0 = n }) value) signed) → A (on_accept_share state.here state.slots site view n value signed)
  pub local_share : (site local : ℕ) (signed : Signed) → K (messages.Share (LocalVc (record { 0 = site }) (record { 0 = local })) signed) →
      A (on_local_share state.here state.votes site local signed)
  pub global_share : (site view : ℕ) (signed : Signed) → K (messages.Share (GlobalVc (record { 0 = site }) (record { 0 = view })) signed) →
      A (on_global_share state.here state.votes site view signed)
  pub union_share : (t : Term) (s : Statement) (signed : Signed) → K (messages.Share s signed) → A (on_union_share state.here (state.votes.unions t) s signed)
  pub proposal : (site view local n : ℕ) (value : Value) (q : Quorum) →
      K (messages.Certificate (Proposal (record { 0 = site }) (record { 0 = view }) (record { 0 = local }) (record { 0 = n }) value) q) →
      A (on_proposal state.here state.slots site view local n value q)
  pub accept : (site view n : ℕ) (value : Value) (q : Quorum) → K (messages.Certificate (Accept (record { 0 = site }) (record { 0 = view }) (record { 0 = n }) value) q) →
      A (on_accept state.here state.hand site view n value q)
  pub global_vc : (site view : ℕ) (q : Quorum) → K (messages.Certificate (GlobalVc (record { 0 = site }) (record { 0 = view })) q) →
      A (on_global_vc state.here state.votes site view q)
  pub union : (t : Term) (site : ℕ) (s : Statement) (q : Quorum) → K (messages.Certificate s q) → A (on_union state.here (state.unions t site) s q)
  pub local_proof : (site local : ℕ) (q : Quorum) → K (messages.ViewProof (view_words.Local (LocalVc (record { 0 = site }) (record { 0 = local })) q)) →
      A (on_local_proof state.here site local q)
  pub view_proof : (view : ℕ) (words : List SiteWord) → K (messages.ViewProof (view_words.Global (record { 0 = view }) words)) → A (on_view_proof state.here view words)
  pub order_proof : (n : ℕ) (p : Proof) → K (messages.OrderProof (record { 0 = n }) p) → A (on_order_proof state.here state.hand n p)
  pub report : (r : ReportBody) → K (messages.Report r) → A (add_report state.here (reports_at state (report_of r.statement)) r)
  pub bundle : (r : ReportBody) (rs : List ReportBody) → K (messages.Bundle (r ∷ rs)) → A (check_bundle state.here (union_made state (report_of r.statement)) (r ∷ rs))
  pub asks : (server : ServerId) (executed view local : ℕ) → A (answer state.here state.log.proof state.words server executed view local)

module _ (K : Message → Type 0) where
  -- what a message is read as
  abbrev pub ReadingHas : Reading → Type 0
  ReadingHas (Faulty reason) = Unit {0}
  ReadingHas (Clean m) = K m

  -- what is delivered at an event
  abbrev pub EventReads : {Wire : Type 0} → (Wire → Reading) → Event Wire → Type 0
  EventReads read (Deliver wire) = ReadingHas (read wire)
  EventReads read _ = Unit {0}

  -- where it is read as a message, K is to hold of it
  pub reading_has : (r : Reading) → ((m : Message) → r ≡ Clean m → K m) → ReadingHas r
  reading_has (Faulty reason) h = tt
  reading_has (Clean m) h = h m refl

  -- so at an event, by what is had of what is delivered
  pub event_reads : {Wire : Type 0} (D : Wire → Type 0) (read : Wire → Reading) → ((wire : Wire) → D wire → ReadingHas (read wire)) → (event : Event Wire) → EventHas D event → EventReads read event
  event_reads D read give (Deliver wire) h = give wire h
  event_reads D read give LocalTimeout h = tt
  event_reads D read give GlobalTimeout h = tt
  event_reads D read give Tick h = tt

-- where nothing is asked of a message
pub reads_any : {Wire : Type 0} (read : Wire → Reading) (event : Event Wire) → EventReads (λ m. Unit {0}) read event
reads_any read (Deliver wire) = reading_has (λ m. Unit {0}) (read wire) (λ m e. tt)
reads_any read LocalTimeout = tt
reads_any read GlobalTimeout = tt
reads_any read Tick = tt

module _ (state : Answers) (A : Answer → Type 0) (K : Message → Type 0) (k : EachPart state A K) where
  share_part : (s : Statement) (signed : Signed) → K (messages.Share s signed) → A (of_share state s signed)
  share_part (Prepare site view local number value) signed h = k.prepare site.0 view.0 local.0 number.0 value signed h
  share_part (Proposal site view local number value) signed h = k.proposal_share site.0 view.0 local.0 number.0 value signed h
  share_part (Accept site view number value) signed h = k.accept_share site.0 view.0 number.0 value signed h
  share_part (LocalVc site local) signed h = k.local_share site.0 local.0 signed h
  share_part (GlobalVc site view) signed h = k.global_share site.0 view.0 signed h
  share_part (LocalUnion site local greatest base items) signed h = k.union_share (OfLocal local.0) (LocalUnion site local greatest base items) signed h
  share_part (GlobalUnion site view base items) signed h = k.union_share (OfGlobal view.0) (GlobalUnion site view base items) signed h
  share_part _ signed h = k.refused NotMine

  certificate_part : (s : Statement) (q : Quorum) → K (messages.Certificate s q) → A (of_certificate state s q)
  certificate_part (Proposal site view local number value) q h = k.proposal site.0 view.0 local.0 number.0 value q h
  certificate_part (Accept site view number value) q h = k.accept site.0 view.0 number.0 value q h
  certificate_part (GlobalVc site view) q h = k.global_vc site.0 view.0 q h
  certificate_part (LocalUnion site local greatest base items) q h = k.union (OfLocal local.0) site.0 (LocalUnion site local greatest base items) q h
  certificate_part (GlobalUnion site view base items) q h = k.union (OfGlobal view.0) site.0 (GlobalUnion site view base items) q h
  certificate_part _ q h = k.refused NotMine

  local_words_part : (s : Statement) (q : Quorum) → K (messages.ViewProof (view_words.Local s q)) → A (of_local_words state s q)
  local_words_part (LocalVc site local) q h = k.local_proof site.0 local.0 q h
  local_words_part _ q h = k.refused NotMine

  bundle_part : (rs : List ReportBody) → K (messages.Bundle rs) → A (of_bundle state rs)
  bundle_part [] h = k.refused NotMine
  bundle_part (r ∷ rs) h = k.bundle r rs h

  kind_part : (m : Message) → K m → A (of_kind state m)
  kind_part (messages.Update u seal) h = k.update u seal h
  kind_part (messages.Assign view local number value client_seal signed) h = k.assign view.0 local.0 number.0 value client_seal signed h
  kind_part (messages.Share s signed) h = share_part s signed h
  kind_part (messages.Certificate s q) h = certificate_part s q h
  kind_part (messages.OrderProof number p) h = k.order_proof number.0 p h
  kind_part (messages.Report r) h = k.report r h
  kind_part (messages.Bundle rs) h = bundle_part rs h
  kind_part (messages.ViewProof (view_words.Local s q)) h = local_words_part s q h
  kind_part (messages.ViewProof (view_words.Global view words)) h = k.view_proof view.0 words h
  kind_part (messages.Ask server executed view local) h = k.asks server executed view.0 local.0
  kind_part (messages.Reply s signed) h = k.refused NotMine

  -- A message, whether or not its part is built.
  pub message_part : (m : Message) → K m → A (of_message state m)
  message_part m h = either A (is_built_message m) (of_kind state m) (Refused NotBuilt) (kind_part m h) (k.refused NotBuilt)

  reading_part : (r : Reading) → ReadingHas K r → A (of_reading state r)
  reading_part (Faulty reason) h = k.refused reason
  reading_part (Clean m) h = message_part m h

  -- An event: beside the parts the timeouts and the tick.
  pub event_part : {Wire : Type 0} (read : Wire → Reading) (event : Event Wire) → A (on_local_timeout state.here (state.making.vc (OfLocal (state.here.local + 1)))) →
      A (on_global_timeout state.here (state.making.vc (OfGlobal (state.here.view + 1)))) → A (Steps (record { changes = []; heard = []; out = tick_out state })) →
      EventReads K read event → A (of_event read state event)
  event_part read (Deliver wire) l g t h = reading_part (read wire) h
  event_part read LocalTimeout l g t h = l
  event_part read GlobalTimeout l g t h = g
  event_part read Tick l g t h = t

-- ---- the tick

-- What goes out again, by what it is made of: S of statements made, R of reports sent, K of certificates sent.
pub record EachAgain (state : Answers) (S : Sealing → Type 0) (R : ReportBody → Type 0) (K : Completed → Type 0) (O : Out → Type 0) : Type 0 where
  pub share : (m : Sealing) (to : Scope) → S m → O (Make m.statement forms.Share to)
  pub assign : (m : Sealing) → S m → O (Make m.statement (forms.Assign (pending_seal state.pending m.statement)) (to_site state.here))
  pub report : (r : ReportBody) → R r → O (Send (messages.Report r) (to_rep state.here))
  pub certificate : (c : Completed) (to : Scope) → K c → O (Send (messages.Certificate c.statement c.quorum) to)
  pub asks : (site index : ℕ) → O (Send (ask state.here) (to_server_at site index))

module _ (state : Answers) (S : Sealing → Type 0) (R : ReportBody → Type 0) (K : Completed → Type 0) (O : Out → Type 0) (k : EachAgain state S R K O) where
  share_again : (made : Option Sealing) (to : Scope) → IfSome made S → Each O (share_of made to)
  share_again made to h = chosen S (Each O) made [] (λ m. Make m.statement forms.Share to ∷ []) h tt (λ m g. (k.share m to g, tt))

  again_report : (t : Term) → IfSome (state.own.report t) R → Each O (report_again state t)
  again_report t h =
      either (Each O) (is_some (state.making.union t)) [] _ tt
      (chosen R (Each O) (state.own.report t) [] (λ r. Send (messages.Report r) (to_rep state.here) ∷ []) h tt (λ r g. (k.report r g, tt)))

  again_prepare : (m : Sealing) → S m → O (prepare_again state m)
  again_prepare m h = either O (nat_eq state.here.seat.index (rep state.here)) _ _ (k.assign m h) (k.share m (to_site state.here) h)

  again_certificate : (x : Option Completed) → IfSome x K → Each O (certificate_again state.here x)
  again_certificate x h = chosen K (Each O) x [] _ h tt (λ c g. (k.certificate c _ g, tt))

  again_ask : (site index : ℕ) → Each O (ask_to state.here site index)
  again_ask site index = either (Each O) (nat_eq site state.here.seat.site && nat_eq index state.here.seat.index) [] _ tt (k.asks site index, tt)

  module _ (prepares : (g l n : ℕ) → IfSome (state.slots.made (AtPrepare g l n)) S) (proposes : (g l n : ℕ) → IfSome (state.slots.made (AtProposal g l n)) S)
      (accepts : (g n : ℕ) → IfSome (state.slots.made (AtAccept g n)) S) (vcs : (t : Term) → IfSome (state.making.vc t) S) (unions : (t : Term) → IfSome (state.making.union t) S)
      (reports : (t : Term) → IfSome (state.own.report t) R) (asked : IfSome state.own.vc K) (united : (t : Term) → IfSome (state.own.union t) K)
      (proposed : (g n : ℕ) → IfSome (state.own.proposal g n) K) (accepted : (g n : ℕ) → IfSome (state.own.accept g n) K) where
    again_number : (n : ℕ) → Each O (number_again state n)
    again_number n =
        let prepare : Option Sealing = state.slots.made (AtPrepare state.here.view state.here.local n) in
        let proposal : Option Sealing = state.slots.made (AtProposal state.here.view state.here.local n) in
        let accept : Option Sealing = state.slots.made (AtAccept state.here.view n) in
        let again : Option Out = given prepare None (λ m. Some (prepare_again state m)) in
        append_all O (to_list again ++ share_of proposal (to_rep state.here)) (share_of accept (to_rep state.here))
        (append_all O (to_list again) (share_of proposal (to_rep state.here))
        (to_list_all O again
        (chosen S (λ (o : Option Out). IfSome o O) prepare None (λ m. Some (prepare_again state m)) (prepares state.here.view state.here.local n) tt again_prepare))
        (share_again proposal (to_rep state.here) (proposes state.here.view state.here.local n)))
        (share_again accept (to_rep state.here) (accepts state.here.view n))

    again_certificates : (n : ℕ) → Each O (certificates_again state n)
    again_certificates n =
        append_all O (certificate_again state.here (state.own.proposal state.here.view n)) (certificate_again state.here (state.own.accept state.here.view n))
        (again_certificate (state.own.proposal state.here.view n) (proposed state.here.view n)) (again_certificate (state.own.accept state.here.view n) (accepted state.here.view n))

    -- All that a tick sends again.
    pub tick_has : Each O (tick_out state)
    unfolding tick_out
    tick_has =
        let here : Here = state.here in
        let next : (xs ys : List Out) → Each O xs → Each O ys → Each O (xs ++ ys) = append_all O in
        next _ _
        (next _ _
        (next _ _
        (next _ _
        (next _ _
        (next _ _
        (next _ _
        (next _ _
        (next _ _
        (next _ _
        (next _ _
        (next _ _ (share_again (state.making.vc (OfLocal (here.local + 1))) (to_site here) (vcs (OfLocal (here.local + 1))))
        (share_again (state.making.vc (OfGlobal (here.view + 1))) (to_rep here) (vcs (OfGlobal (here.view + 1)))))
        (again_report (OfLocal here.local) (reports (OfLocal here.local))))
        (again_report (OfGlobal here.view) (reports (OfGlobal here.view))))
        (share_again (state.making.union (OfLocal here.local)) (to_rep here) (unions (OfLocal here.local))))
        (share_again (state.making.union (OfGlobal here.view)) (to_rep here) (unions (OfGlobal here.view))))
        (all_below_all O (λ k. number_again state (here.executed + 1 + k)) WINDOW (λ k. again_number (here.executed + 1 + k))))
        (again_certificate state.own.vc asked))
        (again_certificate (state.own.union (OfLocal here.local)) (united (OfLocal here.local))))
        (again_certificate (state.own.union (OfGlobal here.view)) (united (OfGlobal here.view))))
        (all_below_all O (λ k. certificates_again state (here.executed + 1 + k)) WINDOW (λ k. again_certificates (here.executed + 1 + k))))
        (again_ask here.seat.site ((here.seat.index + 1) % servers here)))
        (again_ask ((here.seat.site + 1) % here.seat.sites) here.seat.index)
