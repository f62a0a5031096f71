-- A server's duty makes no union but one of reports that were brought to it.
use Rattle.std.proofs.Common.{◌≡◌, ℕ, ◌+◌, Bool, true, false, List, [], ◌∷◌, subst, ◌∙◌}
use Rattle.std.specs.List.{AllByRecursion as Each}
use Rattle.st_words.specs.declared.value.Update.{Update}
use Rattle.st_words.specs.declared.statement.Statement.{Statement}
use Rattle.st_message.specs.declared.event.Scope.{Scope}
use Rattle.st_message.specs.declared.event.Plan.{Plan}
use Rattle.st_message.specs.declared.change.Change.{Change}
use Rattle.st_message.specs.declared.change.Change.TheVariants.{Made}
use Rattle.st_message.specs.declared.change.Heard.{Heard}
use Rattle.st_message.specs.declared.message.ReportBody.{ReportBody}
use Rattle.st_message.specs.declared.step.Form.{Form}
use Rattle.st_message.specs.declared.step.Form.TheVariants as forms
use Rattle.st_message.specs.declared.step.Out.{Out}
use Rattle.st_message.specs.declared.step.Out.TheVariants.{Make}
use Rattle.st_message.specs.declared.step.Step.{Step}
use Rattle.st_protocol.specs.Words.{to_client_at}
use Rattle.st_protocol.specs.State.{OfLocal, OfGlobal, Seat, Answers, report_of}
use Rattle.st_protocol.specs.Questions.{questions}
use Rattle.st_protocol.specs.Step.{Answer, Refused, Steps}
use Rattle.st_protocol.specs.Forced.{forced_of}
use Rattle.st_protocol.specs.Collecting.{make_report}
use Rattle.st_protocol.specs.Duty.{Event, Reading, Pen, sealed, Course, begins, records, keeps, puts, emits, makes, reports_as, base_proof, reports, reports_at, union_made, tick_out, of_event, plan_of, duty}
use Rattle.st_frame_laws.proofs.ChoiceLaws.{append_all, each_any}
use Rattle.st_frame_laws.proofs.CourseFrame.{IsKeptWhere, StepFits, AnswerFits, each_change, each_heard, each_out, reply_to, fill_at, kept_plan}
use Rattle.st_frame_laws.proofs.PartFrame.{AnswerHas, EachPart, EventReads, event_part}
use Rattle.st_frame_laws.proofs.NodeFrame.{seat_after, seat_hears, seat_of_questions}
use Rattle.st_union_laws.proofs.UnionParts.{Brings, UnitesAt, C, M, O, update_unites, assign_unites, prepare_unites, proposal_share_unites, accept_share_unites, proposal_unites, accept_unites, order_proof_unites, local_timeout_unites, global_timeout_unites, local_share_unites, local_proof_unites, global_share_unites, global_vc_unites, view_proof_unites, report_unites, bundle_unites, union_share_unites, union_unites, ask_unites, fill_unites}

module _ (B : ℕ → List ReportBody → Type 0) (seat : Seat) where
  -- On the way through an event.
  pub record WayHas (w : Course) : Type 0 where
    pub place : w.now.here.seat ≡ seat
    pub changes : Each (UnitesAt B seat.site) w.changes

  -- what is asked of a change that is recorded; of what is kept and of what goes out nothing is
  abbrev pub Cw : Course → Change → Type 0
  Cw w x = UnitesAt B seat.site x

  -- of what is kept as heard
  abbrev pub Mw : Course → Heard → Type 0
  Mw w m = Unit {0}

  -- of what goes out
  abbrev pub Ow : Course → Out → Type 0
  Ow w o = Unit {0}

  module _ (pen : Pen) where
    -- a change is recorded
    records_way : (w : Course) (x : Change) → WayHas w → Cw w x → WayHas (records w x)
    unfolding records
    records_way w x h c = record { place = seat_after w.now x ∙ h.place; changes = append_all (UnitesAt B seat.site) w.changes (x ∷ []) h.changes (c, tt) }

    -- something goes out
    emits_way : (w : Course) (o : Out) → WayHas w → WayHas (emits pen w o)
    unfolding emits puts
    emits_way w o h = record { place = h.place; changes = h.changes }

    -- something heard is kept
    keeps_way : (w : Course) (m : Heard) → WayHas w → WayHas (keeps w m)
    unfolding keeps
    keeps_way w m h = record { place = seat_hears w.now m ∙ h.place; changes = h.changes }

    -- a report is made and kept
    reports_as_way : (w : Course) (s : Statement) (form : Form) (to : Scope) → WayHas w → UnitesAt B seat.site (Made w.now.here.leaf s) → WayHas (reports_as pen w (Make s form to))
    unfolding reports_as
    reports_as_way w s form to h c =
        let made : Course = records w (Made w.now.here.leaf s) in
        keeps_way (emits pen made (Make s form to)) (record { own = true; message = (sealed pen made.now (Make s form to)).message })
        (emits_way made (Make s form to) (records_way w (Made w.now.here.leaf s) h c))

    -- the report of the view that was entered
    reports_way : (w : Course) (global : Bool) → WayHas w → WayHas (reports pen global w)
    unfolding reports
    reports_way w global h = by global
      where
        by : (global : Bool) → WayHas (reports_as pen w (make_report w.now.here w.now.slots (base_proof w.now) global))
        by false = reports_as_way w _ _ _ h tt
        by true = reports_as_way w _ _ _ h tt

    -- a Reply
    replies_way : (w : Course) (x : Change) (u : Update) → WayHas (records w x) → WayHas (makes pen (records w x) (reply_to w.now u) forms.Reply (to_client_at u.client.0))
    unfolding makes
    replies_way w x u r =
        let s : Statement = reply_to w.now u in
        emits_way (records (records w x) (Made (records w x).now.here.leaf s)) (Make s forms.Reply (to_client_at u.client.0)) (records_way (records w x) (Made (records w x).now.here.leaf s) r tt)

    -- Each step of a course keeps it.
    pub way_is_kept : IsKeptWhere pen WayHas Cw Mw Ow
    way_is_kept =
        record {
          recording = records_way;
          keeping = λ w m h c. keeps_way w m h;
          emitting = λ w o h c. emits_way w o h;
          reporting = λ w x global e h c r. reports_way (records w x) global r;
          replying = λ w x u runs goes h c r. replies_way w x u r;
        }

    -- a step of such changes
    pub step_fits : (w : Course) (step : Step) → Each (UnitesAt B seat.site) step.changes → StepFits pen WayHas Cw Mw Ow w step
    step_fits w step h = (
      each_change pen WayHas Cw Mw Ow (UnitesAt B seat.site) (λ w x c. c) w step.changes h,
      (λ q. each_heard pen WayHas Cw Mw Ow (λ m. Unit {0}) (λ w m c. c) _ step.heard (each_any step.heard), λ q. each_out pen WayHas Cw Mw Ow (λ o. Unit {0}) (λ w o c. c) _ step.out (each_any step.out)),
    )

    -- the fill
    pub fills_fit : (w : Course) → WayHas w → StepFits pen WayHas Cw Mw Ow w (fill_at w.now)
    fills_fit w h =
        step_fits w (fill_at w.now)
        (subst (λ (p : Seat). Each (UnitesAt B p.site) (fill_at w.now).changes) h.place
        (fill_unites B w.now.here w.now.slots w.now.pending (forced_of w.now.here w.now.unions)).changes)

    -- an answer
    pub answer_fits : (state : Answers) (a : Answer) → AnswerHas (UnitesAt B seat.site) (λ m. Unit {0}) (λ o. Unit {0}) a → AnswerFits pen WayHas Cw Mw Ow state a
    answer_fits state (Refused reason) h = tt
    answer_fits state (Steps step) h = step_fits (begins state) step h.changes

-- ---- which part is asked

module _ (B : ℕ → List ReportBody → Type 0) (state : Answers) where
  -- an answer at this state
  abbrev Fits : Answer → Type 0
  Fits a = AnswerHas (C B state.here) (M B state.here) (O B state.here) a

  -- each part
  parts_fit : EachPart state Fits (Brings B)
  parts_fit =
      record {
        refused = λ reason. tt;
        update = λ u seal h. update_unites B state.here state.pending (state.log.run.last u.client.0) (state.making.reply (state.log.run.place u.client.0)) u seal;
        assign = λ view local n value client_seal signed h. assign_unites B state.here state.slots (forced_of state.here state.unions) view local n value client_seal signed;
        prepare = λ site view local n value signed h. prepare_unites B state.here state.slots site view local n value signed;
        proposal_share = λ site view local n value signed h. proposal_share_unites B state.here state.slots site view local n value signed;
        accept_share = λ site view n value signed h. accept_share_unites B state.here state.slots site view n value signed;
        local_share = λ site local signed h. local_share_unites B state.here state.votes site local signed;
        global_share = λ site view signed h. global_share_unites B state.here state.votes site view signed;
        union_share = λ t x signed h. union_share_unites B state.here (state.votes.unions t) x signed;
        proposal = λ site view local n value q h. proposal_unites B state.here state.slots site view local n value q;
        accept = λ site view n value q h. accept_unites B state.here state.hand site view n value q;
        global_vc = λ site view q h. global_vc_unites B state.here state.votes site view q;
        union = λ t site x q h. union_unites B state.here (state.unions t site) x q;
        local_proof = λ site local q h. local_proof_unites B state.here site local q;
        view_proof = λ view words h. view_proof_unites B state.here view words;
        order_proof = λ n p h. order_proof_unites B state.here state.hand n p;
        report = λ r h. report_unites B state.here (reports_at state (report_of r.statement)) r;
        bundle = λ r rs h. bundle_unites B state.here (union_made state (report_of r.statement)) r rs h;
        asks = λ server executed view local. ask_unites B state.here state.log.proof state.words server executed view local;
      }

  -- An event.
  pub event_fits : {Wire : Type 0} (read : Wire → Reading) (event : Event Wire) → EventReads (Brings B) read event → Fits (of_event read state event)
  event_fits read event h =
      event_part state Fits (Brings B) parts_fit read event (local_timeout_unites B state.here (state.making.vc (OfLocal (state.here.local + 1))))
      (global_timeout_unites B state.here (state.making.vc (OfGlobal (state.here.view + 1)))) (record { changes = tt; heard = tt; out = each_any (tick_out state) }) h

-- ---- the plan

module _ (B : ℕ → List ReportBody → Type 0) (seat : Seat) (pen : Pen) (bodies : List (List Change)) (heard : List Heard) where
  -- all that a plan records
  abbrev pub PlanHas : Plan → Type 0
  PlanHas plan = Each (UnitesAt B seat.site) plan.changes

  -- a course before its first step
  begins_has : WayHas B seat (begins (questions seat bodies heard))
  unfolding begins
  begins_has = record { place = seat_of_questions seat bodies heard; changes = tt }

  -- The duty of a server.
  pub duty_unites : {Wire : Type 0} (read : Wire → Reading) (event : Event Wire) → EventReads (Brings B) read event → PlanHas (duty read pen seat bodies heard event)
  unfolding plan_of
  duty_unites read event h =
      kept_plan pen (WayHas B seat) (Cw B seat) (Mw B seat) (Ow B seat) (way_is_kept B seat pen) (fills_fit B seat pen) PlanHas (questions seat bodies heard)
      (λ reason. tt) (λ step w. w.changes) (of_event read (questions seat bodies heard) event) begins_has
      (answer_fits B seat pen (questions seat bodies heard) (of_event read (questions seat bodies heard) event)
      (subst (λ (p : Seat). AnswerHas (UnitesAt B p.site) (λ m. Unit {0}) (λ o. Unit {0}) (of_event read (questions seat bodies heard) event)) (seat_of_questions seat bodies heard)
      (event_fits B (questions seat bodies heard) read event h)))
