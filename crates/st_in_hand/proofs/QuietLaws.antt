-- The parts whose steps execute no number and keep nothing that orders one: all but those that take Accept
-- certificates and order proofs.
use Rattle.std.proofs.Common.{ℕ, ◌+◌, Bool, true, false, cond, nat_eq, List, [], ◌∷◌, refl}
use Rattle.std.specs.Prelude.{Option, is_none}
use Rattle.std.specs.List.{AllByRecursion as Each}
use Rattle.st_words.specs.declared.statement.Statement.{Statement}
use Rattle.st_words.specs.declared.value.Update.{Update}
use Rattle.st_words.specs.declared.value.Value.{Value}
use Rattle.st_seal.specs.declared.quorum.Signed.{Signed}
use Rattle.st_message.specs.declared.message.Proof.{Proof}
use Rattle.st_message.specs.declared.message.ReportBody.{ReportBody}
use Rattle.st_message.specs.declared.message.Message.{Message}
use Rattle.st_message.specs.declared.message.Message.TheVariants as messages
use Rattle.st_message.specs.declared.event.Scope.{Scope}
use Rattle.st_message.specs.declared.event.Scope.TheVariants as scopes
use Rattle.st_message.specs.declared.change.Change.{Change}
use Rattle.st_message.specs.declared.change.Change.TheVariants.{Prepared}
use Rattle.st_message.specs.declared.change.Heard.{Heard}
use Rattle.st_message.specs.declared.reason.Reason.{Reason}
use Rattle.st_message.specs.declared.step.Form.TheVariants as forms
use Rattle.st_message.specs.declared.step.Out.TheVariants.{Make}
use Rattle.st_message.specs.declared.step.Step.{Step}
use Rattle.st_protocol.specs.Words.{Bytes, Quorum, a_prepare, a_proposal, an_accept, a_local_vc, a_global_vc}
use Rattle.st_protocol.specs.Keeping.{given}
use Rattle.st_protocol.specs.State.{AtPrepare, AtProposal, AtAccept, OfLocal, OfGlobal, report_of, Here, Share, Sealing, Slots, Votes, Answers}
use Rattle.st_protocol.specs.Step.{Answer, Refused, Steps, idle, then, making, recording, keeping, completing, putting, when, decides, one_if, to_rep, to_site, completes, completed, certifies}
use Rattle.st_protocol.specs.Forced.{forced_of}
use Rattle.st_protocol.specs.Views.{on_local_timeout, on_global_timeout, on_local_share, on_local_proof, on_global_share, on_global_vc, on_view_proof}
use Rattle.st_protocol.specs.Assigning.{update_reasons, update_step, prepares, completes_prepare, keeps_prepare, assigns, keeps_assigned, assign_reasons, assign_step, prepare_reasons, proposal_share_reasons}
use Rattle.st_protocol.specs.Collecting.{add_report, check_bundle, on_union_share, on_union}
use Rattle.st_protocol.specs.Reconciling.{answer}
use Rattle.st_protocol.specs.Ordering.{accept_share_reasons, proposal_reasons, proposal_step, on_accept, on_order_proof}
use Rattle.st_protocol.specs.Duty.{Event, Reading, reports_at, union_made, tick_out, of_event}
use Rattle.st_frame_laws.proofs.ChoiceLaws.{either, chosen_any, append_all}
use Rattle.st_frame_laws.proofs.PartFrame.{EachPart, decides_fits, event_part, reads_any}
use Rattle.st_in_hand.proofs.HeardLaws.{IsSilent, AreSilent}
use Rattle.st_in_hand.proofs.CourseLaws.{ExecutesNone}

-- something heard that orders no number
abbrev pub OrdersNone : Heard → Type 0
OrdersNone m = (n : ℕ) → IsSilent n m

-- A step that executes no number, and keeps nothing that orders one.
abbrev pub IsQuiet : Step → Type 0
IsQuiet step = Each ExecutesNone step.changes × Each OrdersNone step.heard

-- An answer with such a step, or a refusal.
abbrev pub IsQuietAnswer : Answer → Type 0
IsQuietAnswer (Refused reason) = Unit {0}
IsQuietAnswer (Steps step) = IsQuiet step

-- Messages that order nothing, one by one.
pub all_silent : (n : ℕ) (ms : List Heard) → Each OrdersNone ms → AreSilent n ms
all_silent n [] h = tt
all_silent n (m ∷ ms) h = (h.0 n, all_silent n ms h.1)

-- ---- messages that order nothing

-- what a server itself sent
silent_own : (m : Message) → OrdersNone (record { own = true; message = m })
silent_own m n = record { height = refl; word = λ s. refl; proof = refl }

silent_update : (u : Update) (seal : Bytes) → OrdersNone (record { own = false; message = messages.Update u seal })
silent_update u seal n = record { height = refl; word = λ s. refl; proof = refl }

silent_share : (s : Statement) (signed : Signed) → OrdersNone (record { own = false; message = messages.Share s signed })
silent_share s signed n = record { height = refl; word = λ i. refl; proof = refl }

silent_asking : (site view : ℕ) (q : Quorum) → OrdersNone (record { own = false; message = messages.Certificate (a_global_vc site view) q })
silent_asking site view q n = record { height = refl; word = λ i. refl; proof = refl }

silent_report : (r : ReportBody) → OrdersNone (record { own = false; message = messages.Report r })
silent_report r n = record { height = refl; word = λ i. refl; proof = refl }

-- ---- steps

-- one and then another
quiet_then : (a b : Step) → IsQuiet a → IsQuiet b → IsQuiet (then a b)
quiet_then a b h k = (append_all ExecutesNone a.changes b.changes h.0 k.0, append_all OrdersNone a.heard b.heard h.1 k.1)

quiet_when : (b : Bool) (step : Step) → IsQuiet step → IsQuiet (when b step)
quiet_when b step h = either IsQuiet b step idle h (tt, tt)

-- a change that is recorded
quiet_recording : (x : Change) → ExecutesNone x → IsQuiet (recording x)
quiet_recording x e = ((e, tt), tt)

-- a message that is kept, and what is done where a test holds
quiet_keeping : (m : Message) (b : Bool) (more : Step) → OrdersNone (record { own = false; message = m }) → IsQuiet more → IsQuiet (then (keeping m) (when b more))
quiet_keeping m b more silent h = quiet_then (keeping m) (when b more) (tt, (silent, tt)) (quiet_when b more h)

-- a share that is kept, with the certificate that it completes
quiet_certifies : (here : Here) (shares : ℕ → Option Share) (s : Statement) (signed : Signed) (to : Scope) → IsQuiet (certifies here shares s signed to)
quiet_certifies here shares s signed to =
    let certificate : Message = messages.Certificate s (completed here shares s signed) in
    quiet_keeping (messages.Share s signed) (completes here shares s signed) (completing certificate to) (silent_share s signed) (tt, (silent_own certificate, tt))

-- ---- answers

-- either of two
quiet_answer : (b : Bool) (x y : Answer) → IsQuietAnswer x → IsQuietAnswer y → IsQuietAnswer (cond b x y)
quiet_answer b x y h k = either IsQuietAnswer b x y h k

-- a reason, or such a step
quiet_decides : (ts : List (Bool × Reason)) (step : Step) → IsQuiet step → IsQuietAnswer (decides ts step)
quiet_decides ts step h = decides_fits IsQuietAnswer (λ reason. tt) ts step (λ none. h)

-- ---- the parts

-- a share that asks for a local view
quiet_local_share : (here : Here) (votes : Votes) (site local : ℕ) (signed : Signed) → IsQuietAnswer (on_local_share here votes site local signed)
quiet_local_share here votes site local signed =
    search (quiet_answer, quiet_keeping (messages.Share (a_local_vc site local) signed), silent_share, quiet_recording) depth 9

-- a site's certificate that asks for a view
quiet_global_vc : (here : Here) (votes : Votes) (site view : ℕ) (q : Quorum) → IsQuietAnswer (on_global_vc here votes site view q)
quiet_global_vc here votes site view q =
    search (quiet_answer, quiet_keeping (messages.Certificate (a_global_vc site view) q), silent_asking, quiet_recording) depth 9

-- a report
quiet_add_report : (here : Here) (kept : ℕ → Option ReportBody) (r : ReportBody) → IsQuietAnswer (add_report here kept r)
quiet_add_report here kept r = search (quiet_answer, quiet_keeping (messages.Report r), silent_report) depth 9

-- an update
quiet_update_step : (last : ℕ) (reply : Option Sealing) (u : Update) (seal : Bytes) → IsQuiet (update_step last reply u seal)
quiet_update_step last reply u seal =
    either IsQuiet (nat_eq u.time last) (given reply idle (λ m. putting (Make m.statement forms.Reply (scopes.Client u.client)))) (keeping (messages.Update u seal))
    (chosen_any IsQuiet reply idle (λ m. putting (Make m.statement forms.Reply (scopes.Client u.client))) (tt, tt) (λ m. (tt, tt))) (tt, (silent_update u seal, tt))

-- the share of a Prepare, which may complete its slot
quiet_keeps_prepare : (here : Here) (slots : Slots) (leaf site view local n : ℕ) (value : Value) (signed : Signed) → IsQuiet (keeps_prepare here slots leaf site view local n value signed)
quiet_keeps_prepare here slots leaf site view local n value signed =
    let q : Quorum = completed here (slots.shares (AtPrepare view local n)) (a_prepare site view local n value) signed in
    let prepared : Step = prepares here slots leaf view local n value q in
    let proposal : Step = making leaf (a_proposal here.seat.site view local n value) forms.Share (to_rep here) in
    let new : Bool = is_none (slots.made (AtProposal view local n)) in
    quiet_keeping (messages.Share (a_prepare site view local n value) signed) (completes_prepare here slots site view local n value signed) prepared
    (silent_share (a_prepare site view local n value) signed)
    (quiet_then (recording (Prepared (a_prepare here.seat.site view local n value) q)) (when new proposal) ((refl, tt), tt) (quiet_when new proposal ((refl, tt), tt)))

-- an assignment
quiet_assign_step : (here : Here) (slots : Slots) (view local n : ℕ) (value : Value) (signed : Signed) → IsQuiet (assign_step here slots view local n value signed)
quiet_assign_step here slots view local n value signed =
    let new : Bool = assigns slots view local n in
    let made : Step = making here.leaf (a_prepare here.seat.site view local n value) forms.Share (to_site here) in
    let kept : Step = keeps_prepare here slots (here.leaf + one_if new) here.seat.site view local n value signed in
    quiet_then (when new made) (when (keeps_assigned here slots view local n) kept) (quiet_when new made ((refl, tt), tt))
    (quiet_when (keeps_assigned here slots view local n) kept (quiet_keeps_prepare here slots (here.leaf + one_if new) here.seat.site view local n value signed))

-- ---- an event

-- What a quiet answer gives, any event's answer gives, if what Accept certificates and order proofs are answered does.
module _ (state : Answers) (A : Answer → Type 0) (give : (answer : Answer) → IsQuietAnswer answer → A answer)
    (accepts : (site view n : ℕ) (value : Value) (q : Quorum) → A (on_accept state.here state.hand site view n value q)) (proves : (n : ℕ) (p : Proof) → A (on_order_proof state.here state.hand n p)) where
  -- each part
  parts_by : EachPart state A (λ m. Unit {0})
  parts_by =
      record {
        refused = λ reason. give (Refused reason) tt;
        update = λ u seal k.
            give _ (quiet_decides (update_reasons state.here state.pending (state.log.run.last u.client.0) (state.making.reply (state.log.run.place u.client.0)) u) _ (quiet_update_step _ _ u seal));
        assign = λ view local n value client_seal signed k.
            give _
            (quiet_decides (assign_reasons state.here state.slots (forced_of state.here state.unions) view local n value client_seal signed) _
            (quiet_assign_step state.here state.slots view local n value signed));
        prepare = λ site view local n value signed k.
            give _ (quiet_decides (prepare_reasons state.here state.slots site view local n value signed) _ (quiet_keeps_prepare state.here state.slots state.here.leaf site view local n value signed));
        proposal_share = λ site view local n value signed k.
            give _
            (quiet_decides (proposal_share_reasons state.here state.slots site view local n signed) _
            (quiet_certifies state.here (state.slots.shares (AtProposal view local n)) (a_proposal site view local n value) signed scopes.All));
        accept_share = λ site view n value signed k.
            give _
            (quiet_decides (accept_share_reasons state.here state.slots site view n signed) _
            (quiet_certifies state.here (state.slots.shares (AtAccept view n)) (an_accept site view n value) signed scopes.All));
        local_share = λ site local signed k. give _ (quiet_local_share state.here state.votes site local signed);
        global_share = λ site view signed k. give (on_global_share state.here state.votes site view signed) (search (quiet_answer, quiet_certifies) depth 9);
        union_share = λ t s signed k. give (on_union_share state.here (state.votes.unions t) s signed) (search (quiet_answer, quiet_certifies) depth 9);
        proposal = λ site view local n value q k.
            give _ (quiet_decides (proposal_reasons state.here state.slots view n) (proposal_step state.here site view local n value q) ((refl, (refl, tt)), tt));
        accept = λ site view n value q k. accepts site view n value q;
        global_vc = λ site view q k. give _ (quiet_global_vc state.here state.votes site view q);
        union = λ t site s q k. give (on_union state.here (state.unions t site) s q) (search quiet_answer depth 9);
        local_proof = λ site local q k. give (on_local_proof state.here site local q) (search quiet_answer depth 9);
        view_proof = λ view words k. give (on_view_proof state.here view words) (search quiet_answer depth 9);
        order_proof = λ n p k. proves n p;
        report = λ r k. give _ (quiet_add_report state.here (reports_at state (report_of r.statement)) r);
        bundle = λ r rs k. give (check_bundle state.here (union_made state (report_of r.statement)) (r ∷ rs)) (search quiet_answer depth 9);
        asks = λ server executed view local. give (answer state.here state.log.proof state.words server executed view local) (search quiet_answer depth 9);
      }

  -- beside them the timeouts and the tick
  pub event_by : {Wire : Type 0} (read : Wire → Reading) (event : Event Wire) → A (of_event read state event)
  event_by read event =
      event_part state A (λ m. Unit {0}) parts_by read event
      (give (on_local_timeout state.here (state.making.vc (OfLocal (state.here.local + 1)))) (search quiet_answer depth 9))
      (give (on_global_timeout state.here (state.making.vc (OfGlobal (state.here.view + 1)))) (search quiet_answer depth 9))
      (give (Steps (record { changes = []; heard = []; out = tick_out state })) (tt, tt)) (reads_any read event)
