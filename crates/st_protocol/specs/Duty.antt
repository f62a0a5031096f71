-- What a server does at an event: a part's step, carried out on what its state answers by now.
use Rattle.std.specs.Prelude.{ℕ, ◌+◌, ◌%◌, Bool, true, false, cond, nat_eq, nat_lt, ◌&&◌, Option, Some, None, is_some, List, [], ◌∷◌, ◌++◌}
use Rattle.std.specs.List.{fold}
use Rattle.st_words.specs.declared.deployment.TheConstants.{WINDOW}
use Rattle.st_words.specs.declared.value.Value.{Value}
use Rattle.st_words.specs.declared.value.Value.TheVariants as values
use Rattle.st_words.specs.declared.statement.Statement.{Statement}
use Rattle.st_words.specs.declared.statement.Statement.TheVariants.{Prepare, Proposal, Accept, LocalVc, GlobalVc, LocalReport, GlobalReport, LocalUnion, GlobalUnion, Reply, ClientUpdate}
use Rattle.st_seal.specs.declared.quorum.Signed.{Signed}
use Rattle.st_message.specs.declared.message.Proof.{Proof}
use Rattle.st_message.specs.declared.message.ReportBody.{ReportBody}
use Rattle.st_message.specs.declared.message.ViewWords.{ViewWords}
use Rattle.st_message.specs.declared.message.ViewWords.TheVariants as view_words
use Rattle.st_message.specs.declared.message.Message.{Message}
use Rattle.st_message.specs.declared.message.Message.TheVariants as messages
use Rattle.st_message.specs.declared.event.Scope.{Scope}
use Rattle.st_message.specs.declared.event.Scope.TheVariants as scopes
use Rattle.st_message.specs.declared.event.Outcome.TheVariants.{Did, Ignored}
use Rattle.st_message.specs.declared.event.Output.{Output}
use Rattle.st_message.specs.declared.event.Plan.{Plan}
use Rattle.st_message.specs.declared.change.Change.{Change}
use Rattle.st_message.specs.declared.change.Change.TheVariants.{EnterLocal, EnterGlobal, Made, Prepared, Accepted, Union, Executed}
use Rattle.st_message.specs.declared.change.Heard.{Heard}
use Rattle.st_message.specs.declared.reason.Reason.{Reason}
use Rattle.st_message.specs.declared.reason.Reason.TheVariants.{NotBuilt, NotMine}
use Rattle.st_message.specs.declared.step.Form.{Form}
use Rattle.st_message.specs.declared.step.Form.TheVariants as forms
use Rattle.st_message.specs.declared.step.Out.{Out}
use Rattle.st_message.specs.declared.step.Out.TheVariants.{Make, Send}
use Rattle.st_message.specs.declared.step.Step.{Step}
use Rattle.st_protocol.specs.Words.{Bytes, Quorum, a_reply, a_global_vc, to_client_at, to_server_at, same_update}
use Rattle.st_protocol.specs.Keeping.{given}
use Rattle.st_protocol.specs.State.{AtPrepare, AtProposal, AtAccept, Term, OfLocal, OfGlobal, report_of, Seat, Here, Sealing, Pended, Completed, Answers}
use Rattle.st_protocol.specs.Questions.{questions}
use Rattle.st_protocol.specs.Growth.{after, hears}
use Rattle.st_protocol.specs.Step.{Answer, Refused, Steps, to_list, all_below, servers, rep, to_rep, to_site}
use Rattle.st_protocol.specs.Forced.{forced_of}
use Rattle.st_protocol.specs.Assigning.{on_update, on_assign, on_prepare, on_proposal_share, fill}
use Rattle.st_protocol.specs.Views.{on_local_timeout, on_global_timeout, on_local_share, on_local_proof, on_global_share, on_global_vc, on_view_proof}
use Rattle.st_protocol.specs.Collecting.{make_report, add_report, check_bundle, on_union_share, union_to, on_union}
use Rattle.st_protocol.specs.Ordering.{on_accept_share, on_proposal, on_accept, on_order_proof}
use Rattle.st_protocol.specs.Reconciling.{ask, answer}

-- What happens to a server; a message on its way is a Wire.
pub data Event (Wire : Type 0) : Type 0 where
  Deliver : (wire : Wire) → Event Wire
  LocalTimeout : Event Wire
  GlobalTimeout : Event Wire
  Tick : Event Wire

-- What a Wire is: a message with which nothing is wrong, or why it isn't.
pub data Reading : Type 0 where
  Faulty : (reason : Reason) → Reading
  Clean : (message : Message) → Reading

-- What seals, with a leaf.
abbrev pub Pen : Type 0
Pen = ℕ → Statement → Bytes

-- ---- a statement's own leaf, and its message

-- where the statement was made
abbrev pub sealing_of : Answers → Statement → Option Sealing
sealing_of state (Prepare site view local number value) = state.slots.made (AtPrepare view.0 local.0 number.0)
sealing_of state (Proposal site view local number value) = state.slots.made (AtProposal view.0 local.0 number.0)
sealing_of state (Accept site view number value) = state.slots.made (AtAccept view.0 number.0)
sealing_of state (LocalVc site local) = state.making.vc (OfLocal local.0)
sealing_of state (GlobalVc site view) = state.making.vc (OfGlobal view.0)
sealing_of state (LocalReport site local index view base items) = state.making.report (OfLocal local.0)
sealing_of state (GlobalReport site view index base items) = state.making.report (OfGlobal view.0)
sealing_of state (LocalUnion site local greatest base items) = state.making.union (OfLocal local.0)
sealing_of state (GlobalUnion site view base items) = state.making.union (OfGlobal view.0)
sealing_of state (Reply site client time number result) = state.making.reply number.0
sealing_of state (ClientUpdate update) = None

-- the server's own seal on a statement that it made
abbrev pub signed_by : Pen → Answers → Statement → Signed
signed_by pen state s = record { index = state.here.seat.index; seal = given (sealing_of state s) [] (λ m. pen m.leaf s) }

-- an assignment over a Prepare
abbrev pub assign_of : Bytes → Signed → Statement → Message
assign_of client_seal signed (Prepare site view local number value) = messages.Assign view local number value client_seal signed
assign_of client_seal signed s = messages.Share s signed

-- the message in which a sealed statement goes out
abbrev pub message_of : Form → Statement → Signed → Message
message_of forms.Share s signed = messages.Share s signed
message_of (forms.Assign client_seal) s signed = assign_of client_seal signed s
message_of (forms.Report quorums base) s signed = messages.Report (record { statement = s; seal = signed.seal; quorums = quorums; base = base })
message_of forms.Reply s signed = messages.Reply s signed

-- what goes out, sealed, with the leaf of the server's own seal
abbrev pub sealed : Pen → Answers → Out → Output
sealed pen state (Make s form to) = record { message = message_of form s (signed_by pen state s); to = to; leaf = given (sealing_of state s) None (λ m. Some m.leaf) }
sealed pen state (Send m to) = record { message = m; to = to; leaf = None }

-- ---- the course of an event

-- What the state answers by now, and what was recorded, heard and sent on the way.
pub record Course : Type 0 where
  pub now : Answers
  pub changes : List Change
  pub heard : List Heard
  pub outputs : List Output

-- Nothing is done yet.
unfoldable pub begins : Answers → Course
begins state = record { now = state; changes = []; heard = []; outputs = [] }

-- A change is recorded.
unfoldable pub records : Course → Change → Course
records way x = record { now = after way.now x; changes = way.changes ++ x ∷ []; heard = way.heard; outputs = way.outputs }

-- Something heard is kept.
unfoldable pub keeps : Course → Heard → Course
keeps way m = record { now = hears way.now m; changes = way.changes; heard = way.heard ++ m ∷ []; outputs = way.outputs }

-- A message goes out.
unfoldable pub puts : Course → Output → Course
puts way o = record { now = way.now; changes = way.changes; heard = way.heard; outputs = way.outputs ++ o ∷ [] }

-- A statement or a message goes out, sealed by what the answers say now.
unfoldable pub emits : Pen → Course → Out → Course
emits pen way o = puts way (sealed pen way.now o)

-- A statement is made with the next leaf, and goes out.
unfoldable pub makes : Pen → Course → Statement → Form → Scope → Course
makes pen way s form to = emits pen (records way (Made way.now.here.leaf s)) (Make s form to)

-- the message of what goes out
abbrev pub message_in : Pen → Answers → Out → Message
message_in pen state o = (sealed pen state o).message

-- the statement that goes out; a sent message has none of its own
abbrev pub statement_in : Out → Statement
statement_in (Make s form to) = s
statement_in (Send m to) = a_global_vc 0 0

-- The report of the view that was entered: it is made, sent, and noted as this server's own.
unfoldable pub reports_as : Pen → Course → Out → Course
reports_as pen way o =
    let made : Course = records way (Made way.now.here.leaf (statement_in o)) in
    keeps (emits pen made o) (record { own = true; message = message_in pen made.now o })

-- the order proof of the number up to which the server has executed, if any
abbrev pub base_proof : Answers → Option Proof
base_proof state = cond (nat_eq state.here.executed 0) None (state.log.proof state.here.executed)

-- The report of the local view, or of the view, that the server is in.
unfoldable pub reports : Pen → Bool → Course → Course
reports pen global way = reports_as pen way (make_report way.now.here way.now.slots (base_proof way.now) global)

-- The Reply of an update that ran, where this is its client's home and a leaf is left: `was` are the answers before.
unfoldable pub replies : Pen → Answers → Value → Course → Course
replies pen was values.Noop way = way
replies pen was (values.Update u) way =
    cond
    (nat_lt (was.log.run.last u.client.0) u.time
    && nat_eq (u.client.0 % was.here.seat.sites) was.here.seat.site
    && nat_lt was.here.leaf was.here.seat.capacity)
    (makes pen way (a_reply was.here.seat.site u.client.0 u.time (was.here.executed + 1) (was.here.seat.serve was.log.run.ran u.op)) forms.Reply (to_client_at u.client.0))
    way

-- a change, and what follows from it
unfoldable pub carries_change : Pen → Course → Change → Course
carries_change pen way (EnterLocal x q) = reports pen false (records way (EnterLocal x q))
carries_change pen way (EnterGlobal y sites) = reports pen true (records way (EnterGlobal y sites))
carries_change pen way (Made k s) = records way (Made k s)
carries_change pen way (Prepared s q) = records way (Prepared s q)
carries_change pen way (Accepted s q) = records way (Accepted s q)
carries_change pen way (Union s q) = records way (Union s q)
carries_change pen way (Executed n p) = replies pen way.now p.value (records way (Executed n p))

-- changes in order, each with what follows from it
abbrev pub carries_changes : Pen → Course → List Change → Course
carries_changes pen way changes = fold (carries_change pen) way changes

-- things heard, in order
abbrev pub keeps_all : Course → List Heard → Course
keeps_all way heard = fold keeps way heard

-- what goes out, in order
abbrev pub emits_all : Pen → Course → List Out → Course
emits_all pen way outs = fold (emits pen) way outs

-- A part's step is carried out: its changes with what follows from each, then what it keeps, then what goes out.
unfoldable pub carries : Pen → Course → Step → Course
carries pen way step = emits_all pen (keeps_all (carries_changes pen way step.changes) step.heard) step.out

-- ---- which part is asked

-- the part that takes a share
abbrev pub of_share : Answers → Statement → Signed → Answer
of_share state (Prepare site view local number value) signed = on_prepare state.here state.slots site.0 view.0 local.0 number.0 value signed
of_share state (Proposal site view local number value) signed = on_proposal_share state.here state.slots site.0 view.0 local.0 number.0 value signed
of_share state (Accept site view number value) signed = on_accept_share state.here state.slots site.0 view.0 number.0 value signed
of_share state (LocalVc site local) signed = on_local_share state.here state.votes site.0 local.0 signed
of_share state (GlobalVc site view) signed = on_global_share state.here state.votes site.0 view.0 signed
of_share state (LocalUnion site local greatest base items) signed =
    on_union_share state.here (state.votes.unions (OfLocal local.0)) (LocalUnion site local greatest base items) signed
of_share state (GlobalUnion site view base items) signed =
    on_union_share state.here (state.votes.unions (OfGlobal view.0)) (GlobalUnion site view base items) signed
of_share state s signed = Refused NotMine

-- the part that takes a certificate
abbrev pub of_certificate : Answers → Statement → Quorum → Answer
of_certificate state (Proposal site view local number value) q = on_proposal state.here state.slots site.0 view.0 local.0 number.0 value q
of_certificate state (Accept site view number value) q = on_accept state.here state.hand site.0 view.0 number.0 value q
of_certificate state (GlobalVc site view) q = on_global_vc state.here state.votes site.0 view.0 q
of_certificate state (LocalUnion site local greatest base items) q =
    on_union state.here (state.unions (OfLocal local.0) site.0) (LocalUnion site local greatest base items) q
of_certificate state (GlobalUnion site view base items) q =
    on_union state.here (state.unions (OfGlobal view.0) site.0) (GlobalUnion site view base items) q
of_certificate state s q = Refused NotMine

-- the proof of a local view is a Quorum that asks for it
abbrev pub of_local_words : Answers → Statement → Quorum → Answer
of_local_words state (LocalVc site local) q = on_local_proof state.here site.0 local.0 q
of_local_words state s q = Refused NotMine

-- the part that takes the proof of a view
abbrev pub of_view_proof : Answers → ViewWords → Answer
of_view_proof state (view_words.Local s q) = of_local_words state s q
of_view_proof state (view_words.Global view sites) = on_view_proof state.here view.0 sites

-- the reports kept for this one's view, and the union made there
abbrev pub reports_at : Answers → Option Term → ℕ → Option ReportBody
reports_at state None i = None
reports_at state (Some t) i = state.reports t i

-- the union that was made there
abbrev pub union_made : Answers → Option Term → Option Sealing
union_made state None = None
union_made state (Some t) = state.making.union t

-- the part that takes a bundle; one without reports is no one's
abbrev pub of_bundle : Answers → List ReportBody → Answer
of_bundle state [] = Refused NotMine
of_bundle state (r ∷ rs) = check_bundle state.here (union_made state (report_of r.statement)) (r ∷ rs)

-- the part that takes a message
abbrev pub of_kind : Answers → Message → Answer
of_kind state (messages.Update u seal) =
    on_update state.here state.pending (state.log.run.last u.client.0) (state.making.reply (state.log.run.place u.client.0)) u seal
of_kind state (messages.Assign view local number value client_seal signed) =
    on_assign state.here state.slots (forced_of state.here state.unions) view.0 local.0 number.0 value client_seal signed
of_kind state (messages.Share s signed) = of_share state s signed
of_kind state (messages.Certificate s q) = of_certificate state s q
of_kind state (messages.OrderProof number p) = on_order_proof state.here state.hand number.0 p
of_kind state (messages.Report r) = add_report state.here (reports_at state (report_of r.statement)) r
of_kind state (messages.Bundle rs) = of_bundle state rs
of_kind state (messages.ViewProof words) = of_view_proof state words
of_kind state (messages.Ask server executed view local) = answer state.here state.log.proof state.words server executed view.0 local.0
of_kind state (messages.Reply s signed) = Refused NotMine

-- ---- what is built

-- the shares that today's server takes
abbrev pub is_built_share : Statement → Bool
is_built_share (Prepare site view local number value) = true
is_built_share (Proposal site view local number value) = true
is_built_share (Accept site view number value) = true
is_built_share _ = false

-- the certificates that today's server takes
abbrev pub is_built_certificate : Statement → Bool
is_built_certificate (Proposal site view local number value) = true
is_built_certificate (Accept site view number value) = true
is_built_certificate _ = false

-- What today's server takes: updates, assignments, the shares and certificates of the normal case, and Replies.
abbrev pub is_built_message : Message → Bool
is_built_message (messages.Update u seal) = true
is_built_message (messages.Assign view local number value client_seal signed) = true
is_built_message (messages.Share s signed) = is_built_share s
is_built_message (messages.Certificate s q) = is_built_certificate s
is_built_message (messages.Reply s signed) = true
is_built_message _ = false

-- A message is taken by its part, if that is built.
abbrev pub of_message : Answers → Message → Answer
of_message state m = cond (is_built_message m) (of_kind state m) (Refused NotBuilt)

-- ---- the tick

-- a statement that was made goes out again as a share
abbrev pub share_of : Option Sealing → Scope → List Out
share_of made to = given made [] (λ m. Make m.statement forms.Share to ∷ [])

-- the report of a view goes out again until its union was made here
abbrev pub report_again : Answers → Term → List Out
report_again state t =
    cond (is_some (state.making.union t)) [] (given (state.own.report t) [] (λ r. Send (messages.Report r) (to_rep state.here) ∷ []))

-- the client's seal of the update that a Prepare gives a number, where that update is pending
abbrev pub pending_seal : (ℕ → Option Pended) → Statement → Bytes
pending_seal pending (Prepare site view local number (values.Update u)) = given (pending u.client.0) [] (λ k. cond (same_update k.update u) k.seal [])
pending_seal pending s = []

-- a Prepare goes out again: a representative's as an assignment, another server's as a share
abbrev pub prepare_again : Answers → Sealing → Out
prepare_again state m =
    cond (nat_eq state.here.seat.index (rep state.here))
    (Make m.statement (forms.Assign (pending_seal state.pending m.statement)) (to_site state.here))
    (Make m.statement forms.Share (to_site state.here))

-- what was made for a number at the present views goes out again
abbrev pub number_again : Answers → ℕ → List Out
number_again state n =
    to_list (given (state.slots.made (AtPrepare state.here.view state.here.local n)) None (λ m. Some (prepare_again state m)))
    ++ share_of (state.slots.made (AtProposal state.here.view state.here.local n)) (to_rep state.here)
    ++ share_of (state.slots.made (AtAccept state.here.view n)) (to_rep state.here)

-- to whom a completed certificate goes
abbrev pub certificate_to : Here → Statement → Scope
certificate_to here (LocalUnion site local greatest base items) = union_to here (LocalUnion site local greatest base items)
certificate_to here (GlobalUnion site view base items) = union_to here (GlobalUnion site view base items)
certificate_to here s = scopes.All

-- a completed certificate goes out again
abbrev pub certificate_again : Here → Option Completed → List Out
certificate_again here x = given x [] (λ c. Send (messages.Certificate c.statement c.quorum) (certificate_to here c.statement) ∷ [])

-- the certificates of a number at the present view go out again
abbrev pub certificates_again : Answers → ℕ → List Out
certificates_again state n =
    certificate_again state.here (state.own.proposal state.here.view n) ++ certificate_again state.here (state.own.accept state.here.view n)

-- to a server that isn't this one
abbrev pub ask_to : Here → ℕ → ℕ → List Out
ask_to here site index = cond (nat_eq site here.seat.site && nat_eq index here.seat.index) [] (Send (ask here) (to_server_at site index) ∷ [])

-- All that a tick sends again, and what it asks for.
unfoldable pub tick_out : Answers → List Out
tick_out state =
    share_of (state.making.vc (OfLocal (state.here.local + 1))) (to_site state.here)
    ++ share_of (state.making.vc (OfGlobal (state.here.view + 1))) (to_rep state.here)
    ++ report_again state (OfLocal state.here.local)
    ++ report_again state (OfGlobal state.here.view)
    ++ share_of (state.making.union (OfLocal state.here.local)) (to_rep state.here)
    ++ share_of (state.making.union (OfGlobal state.here.view)) (to_rep state.here)
    ++ all_below (λ k. number_again state (state.here.executed + 1 + k)) WINDOW
    ++ certificate_again state.here state.own.vc
    ++ certificate_again state.here (state.own.union (OfLocal state.here.local))
    ++ certificate_again state.here (state.own.union (OfGlobal state.here.view))
    ++ all_below (λ k. certificates_again state (state.here.executed + 1 + k)) WINDOW
    ++ ask_to state.here state.here.seat.site ((state.here.seat.index + 1) % servers state.here)
    ++ ask_to state.here ((state.here.seat.site + 1) % state.here.seat.sites) state.here.seat.index

-- ---- the duty

-- what is wrong with a message, or what its part answers
abbrev pub of_reading : Answers → Reading → Answer
of_reading state (Faulty reason) = Refused reason
of_reading state (Clean m) = of_message state m

-- `read` says what a Wire is, by this deployment
abbrev pub of_event : {Wire : Type 0} → (Wire → Reading) → Answers → Event Wire → Answer
of_event read state (Deliver wire) = of_reading state (read wire)
of_event read state LocalTimeout = on_local_timeout state.here (state.making.vc (OfLocal (state.here.local + 1)))
of_event read state GlobalTimeout = on_global_timeout state.here (state.making.vc (OfGlobal (state.here.view + 1)))
of_event read state Tick = Steps (record { changes = []; heard = []; out = tick_out state })

-- the fill, by what the state answers after the event's own changes
unfoldable pub fills_up : Pen → Course → Course
fills_up pen way = carries pen way (fill way.now.here way.now.slots way.now.pending (forced_of way.now.here way.now.unions))

-- the course of an event that did something
unfoldable pub course : Pen → Answers → Step → Course
course pen state step = fills_up pen (carries pen (begins state) step)

-- the plan of an event that did something
abbrev pub did : Course → Plan
did way = record { outcome = Did; changes = way.changes; heard = way.heard; outputs = way.outputs }

-- the plan of an event that is ignored
abbrev pub ignored : Reason → Plan
ignored reason = record { outcome = Ignored reason; changes = []; heard = []; outputs = [] }

-- an answer carried out
abbrev pub plan_by : Pen → Answers → Answer → Plan
plan_by pen state (Refused reason) = ignored reason
plan_by pen state (Steps step) = did (course pen state step)

-- The plan for an event, by what the state answers.
unfoldable pub plan_of : {Wire : Type 0} → (Wire → Reading) → Pen → Answers → Event Wire → Plan
plan_of read pen state event = plan_by pen state (of_event read state event)

-- The plan for a message with which nothing is wrong.
unfoldable pub plan_of_message : Pen → Answers → Message → Plan
plan_of_message pen state m = plan_by pen state (of_message state m)

-- The duty of a server with these records that heard this.
abbrev pub duty : {Wire : Type 0} → (Wire → Reading) → Pen → Seat → List (List Change) → List Heard → Event Wire → Plan
duty read pen seat records heard event = plan_of read pen (questions seat records heard) event

-- The duty at a delivered message with which nothing is wrong.
abbrev pub duty_of_message : Pen → Seat → List (List Change) → List Heard → Message → Plan
duty_of_message pen seat records heard m = plan_of_message pen (questions seat records heard) m
