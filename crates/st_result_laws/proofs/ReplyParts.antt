-- No part of a server makes a Reply: each makes statements of the other kinds alone.
use Rattle.std.proofs.Common.{◌≡◌, ℕ, ◌+◌, Bool, true, false, cond, zero, suc, nat_eq, List, [], ◌∷◌}
use Rattle.std.specs.Prelude.{Option, is_some, is_none}
use Rattle.std.specs.List.{AllByRecursion as Each}
use Rattle.st_words.specs.declared.deployment.TheConstants.{WINDOW}
use Rattle.st_words.specs.declared.value.Update.{Update}
use Rattle.st_words.specs.declared.value.Value.{Value}
use Rattle.st_words.specs.declared.statement.Item.{Item}
use Rattle.st_words.specs.declared.statement.Statement.{Statement}
use Rattle.st_words.specs.declared.statement.Statement.TheVariants.{Reply}
use Rattle.st_seal.specs.declared.quorum.Signed.{Signed}
use Rattle.st_message.specs.declared.message.ReportBody.{ReportBody}
use Rattle.st_message.specs.declared.message.Message.TheVariants as messages
use Rattle.st_message.specs.declared.event.Scope.{Scope}
use Rattle.st_message.specs.declared.event.Scope.TheVariants as scopes
use Rattle.st_message.specs.declared.change.Change.{Change}
use Rattle.st_message.specs.declared.change.Change.TheVariants.{Made, Executed}
use Rattle.st_message.specs.declared.reason.Reason.{Reason}
use Rattle.st_message.specs.declared.step.Form.TheVariants as forms
use Rattle.st_message.specs.declared.step.Out.TheVariants.{Make}
use Rattle.st_message.specs.declared.step.Step.{Step}
use Rattle.st_protocol.specs.Words.{Bytes, Quorum, a_prepare, a_proposal, an_accept, site_of}
use Rattle.st_protocol.specs.Keeping.{given}
use Rattle.st_protocol.specs.State.{AtPrepare, AtProposal, report_of, Here, Share, Sealing, Slots, Votes, Pended, Hand, Answers}
use Rattle.st_protocol.specs.Step.{Answer, Refused, Steps, idle, then, making, keeping, completing, putting, when, decides, one_if, to_rep, to_site, not_site, other_view, seen, spent, completes, completed, certifies}
use Rattle.st_protocol.specs.Forced.{Forced, forced_of}
use Rattle.st_protocol.specs.Assigning.{update_reasons, update_step, prepares, completes_prepare, keeps_prepare, assigns, keeps_assigned, assign_reasons, assign_step, prepare_reasons, proposal_share_reasons, fill_value, fill}
use Rattle.st_protocol.specs.Views.{on_local_share, on_global_share, on_global_vc}
use Rattle.st_protocol.specs.Collecting.{not_present, add_report, union_as, union_items, most, base_in, view_in, union, check_bundle}
use Rattle.st_protocol.specs.Ordering.{accept_share_reasons, proposal_reasons, proposal_step, accept_reasons, accept_step, in_hand, executions}
use Rattle.st_protocol.specs.Duty.{Event, Reading, reports_at, union_made, of_event}
use Rattle.st_frame_laws.proofs.ChoiceLaws.{either, chosen_any, append_all, if_any}
use Rattle.st_frame_laws.proofs.FillFrame.{fill_kept}
use Rattle.st_frame_laws.proofs.PartFrame.{EachPart, reads_any, event_part, decides_fits}

-- a statement that is no Reply
abbrev pub IsNoReply : Statement → Type 0
IsNoReply (Reply site client time number result) = ⊥
IsNoReply _ = Unit {0}

-- a change that makes none
abbrev pub MakesNoReply : Change → Type 0
MakesNoReply (Made leaf s) = IsNoReply s
MakesNoReply _ = Unit {0}

-- so of each change of a step
abbrev pub StepMakesNoReply : Step → Type 0
StepMakesNoReply step = Each MakesNoReply step.changes

-- and of an answer
abbrev pub AnswerMakesNoReply : Answer → Type 0
AnswerMakesNoReply (Refused reason) = Unit {0}
AnswerMakesNoReply (Steps step) = StepMakesNoReply step

-- ---- steps

-- one after the other
then_none : (a b : Step) → StepMakesNoReply a → StepMakesNoReply b → StepMakesNoReply (then a b)
then_none a b h k = append_all MakesNoReply a.changes b.changes h k

-- where a test holds
when_none : (b : Bool) (step : Step) → StepMakesNoReply step → StepMakesNoReply (when b step)
when_none b step h = either StepMakesNoReply b step idle h tt

-- a share that is kept, with the certificate that it completes
certifies_none : (here : Here) (shares : ℕ → Option Share) (s : Statement) (signed : Signed) (to : Scope) → StepMakesNoReply (certifies here shares s signed to)
certifies_none here shares s signed to = when_none (completes here shares s signed) (completing (messages.Certificate s (completed here shares s signed)) to) tt

-- a reason, or such a step
decides_none : (ts : List (Bool × Reason)) (step : Step) → StepMakesNoReply step → AnswerMakesNoReply (decides ts step)
decides_none ts step h = decides_fits AnswerMakesNoReply (λ reason. tt) ts step (λ none. h)

-- either of two answers
answer_none : (b : Bool) (x y : Answer) → AnswerMakesNoReply x → AnswerMakesNoReply y → AnswerMakesNoReply (cond b x y)
answer_none b x y h k = either AnswerMakesNoReply b x y h k

-- ---- the parts

-- the share of a Prepare, which may complete its slot
keeps_prepare_none : (here : Here) (slots : Slots) (leaf site view local n : ℕ) (value : Value) (signed : Signed) → StepMakesNoReply (keeps_prepare here slots leaf site view local n value signed)
keeps_prepare_none here slots leaf site view local n value signed =
    let proposal : Step = making leaf (a_proposal here.seat.site view local n value) forms.Share (to_rep here) in
    let prepared : Step = prepares here slots leaf view local n value (completed here (slots.shares (AtPrepare view local n)) (a_prepare site view local n value) signed) in
    when_none (completes_prepare here slots site view local n value signed) prepared (tt, when_none (is_none (slots.made (AtProposal view local n))) proposal (tt, tt))

-- a client's update
update_none : (last : ℕ) (reply : Option Sealing) (u : Update) (seal : Bytes) → StepMakesNoReply (update_step last reply u seal)
update_none last reply u seal =
    either StepMakesNoReply (nat_eq u.time last) (given reply idle (λ m. putting (Make m.statement forms.Reply (scopes.Client u.client)))) (keeping (messages.Update u seal))
    (chosen_any StepMakesNoReply reply idle (λ m. putting (Make m.statement forms.Reply (scopes.Client u.client))) tt (λ m. tt)) tt

-- an assignment
assign_none : (here : Here) (slots : Slots) (view local n : ℕ) (value : Value) (signed : Signed) → StepMakesNoReply (assign_step here slots view local n value signed)
assign_none here slots view local n value signed =
    let new : Bool = assigns slots view local n in
    let made : Step = making here.leaf (a_prepare here.seat.site view local n value) forms.Share (to_site here) in
    let kept : Step = keeps_prepare here slots (here.leaf + one_if new) here.seat.site view local n value signed in
    then_none (when new made) (when (keeps_assigned here slots view local n) kept) (when_none new made (tt, tt))
    (when_none (keeps_assigned here slots view local n) kept (keeps_prepare_none here slots (here.leaf + one_if new) here.seat.site view local n value signed))

-- numbers are executed
executions_none : (here : Here) (hand : Hand) (k n : ℕ) → Each MakesNoReply (executions here hand k n)
unfolding executions
executions_none here hand zero n = tt
executions_none here hand (suc k) n =
    chosen_any (Each MakesNoReply) (in_hand here hand n) [] (λ p. Executed (record { 0 = n }) p ∷ executions here hand k (n + 1)) tt (λ p. (tt, executions_none here hand k (n + 1)))

-- a share that asks for a local view
local_share_none : (here : Here) (votes : Votes) (site local : ℕ) (signed : Signed) → AnswerMakesNoReply (on_local_share here votes site local signed)
local_share_none here votes site local signed = search (answer_none, when_none) depth 9

-- a share that asks for a view
global_share_none : (here : Here) (votes : Votes) (site view : ℕ) (signed : Signed) → AnswerMakesNoReply (on_global_share here votes site view signed)
global_share_none here votes site view signed = search (answer_none, certifies_none) depth 9

-- a site's certificate that asks for a view
global_vc_none : (here : Here) (votes : Votes) (site view : ℕ) (q : Quorum) → AnswerMakesNoReply (on_global_vc here votes site view q)
global_vc_none here votes site view q = search (answer_none, when_none) depth 9

-- a report
report_none : (here : Here) (kept : ℕ → Option ReportBody) (r : ReportBody) → AnswerMakesNoReply (add_report here kept r)
report_none here kept r = search (answer_none, when_none) depth 9

-- the union of reports is of a report's kind
union_none : (here : Here) (s : Statement) (greatest least : ℕ) (more : List Item) → not_present here (report_of s) ≡ false → IsNoReply (union_as s greatest least more)
union_none here (Reply site client time number result) greatest least more e = absurd (let no : true ≡ false = e in cc)
union_none here _ greatest least more e = tt

-- a bundle
bundle_none : (here : Here) (made : Option Sealing) (r : ReportBody) (rs : List ReportBody) → AnswerMakesNoReply (check_bundle here made (r ∷ rs))
unfolding union
bundle_none here made r rs =
    decides_fits AnswerMakesNoReply (λ reason. tt)
    (not_site here (site_of r.statement) ∷ other_view here (not_present here (report_of r.statement)) ∷ seen (is_some made) ∷ spent here 1 ∷ [])
    (making here.leaf (union (r ∷ rs)) forms.Share (to_rep here))
    (λ none. (union_none here r.statement (most view_in (r ∷ rs)) (most base_in (r ∷ rs)) (union_items (r ∷ rs)) none.1.0, tt))

-- ---- the fill

-- The fill makes none.
pub fill_none : (here : Here) (slots : Slots) (pending : ℕ → Option Pended) (forced : Forced) → StepMakesNoReply (fill here slots pending forced)
fill_none here slots pending forced =
    fill_kept StepMakesNoReply (λ x. Unit {0}) here pending forced slots tt
    (λ may.
    record {
      value = λ slots n. if_any (fill_value here slots pending forced n);
      assigning = λ step leaf n x h any. then_none step (making leaf (a_prepare here.seat.site here.view here.local n x.0) (forms.Assign x.1) (to_site here)) h (tt, tt);
    })

-- ---- an event

-- each part
parts_none : (state : Answers) → EachPart state AnswerMakesNoReply (λ m. Unit {0})
parts_none state =
    record {
      refused = λ reason. tt;
      update = λ u seal h. decides_none (update_reasons state.here state.pending (state.log.run.last u.client.0) (state.making.reply (state.log.run.place u.client.0)) u) _ (update_none _ _ u seal);
      assign = λ view local n value client_seal signed h.
          decides_none (assign_reasons state.here state.slots (forced_of state.here state.unions) view local n value client_seal signed) _ (assign_none state.here state.slots view local n value signed);
      prepare = λ site view local n value signed h. decides_none (prepare_reasons state.here state.slots site view local n value signed) _ (keeps_prepare_none state.here state.slots state.here.leaf site view local n value signed);
      proposal_share = λ site view local n value signed h. decides_none (proposal_share_reasons state.here state.slots site view local n signed) _ (certifies_none state.here _ (a_proposal site view local n value) signed scopes.All);
      accept_share = λ site view n value signed h. decides_none (accept_share_reasons state.here state.slots site view n signed) _ (certifies_none state.here _ (an_accept site view n value) signed scopes.All);
      local_share = λ site local signed h. local_share_none state.here state.votes site local signed;
      global_share = λ site view signed h. global_share_none state.here state.votes site view signed;
      union_share = λ t s signed h. search (answer_none, certifies_none) depth 9;
      proposal = λ site view local n value q h. decides_none (proposal_reasons state.here state.slots view n) (proposal_step state.here site view local n value q) (tt, (tt, tt));
      accept = λ site view n value q h. decides_none (accept_reasons state.here state.hand site view n) (accept_step state.here state.hand site view n value q) (executions_none state.here _ WINDOW _);
      global_vc = λ site view q h. global_vc_none state.here state.votes site view q;
      union = λ t site s q h. search answer_none depth 9;
      local_proof = λ site local q h. search answer_none depth 9;
      view_proof = λ view words h. search answer_none depth 9;
      order_proof = λ n p h. search (answer_none, executions_none) depth 9;
      report = λ r h. report_none state.here (reports_at state (report_of r.statement)) r;
      bundle = λ r rs h. bundle_none state.here (union_made state (report_of r.statement)) r rs;
      asks = λ server executed view local. search answer_none depth 9;
    }

-- So none is made by what an event is answered.
pub event_none : {Wire : Type 0} (state : Answers) (read : Wire → Reading) (event : Event Wire) → AnswerMakesNoReply (of_event read state event)
event_none state read event =
    event_part state AnswerMakesNoReply (λ m. Unit {0}) (parts_none state) read event (search answer_none depth 9) (search answer_none depth 9) tt (reads_any read event)
