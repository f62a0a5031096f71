-- A server's duty at an event: which part is asked, and what its plan adds.
use Rattle.std.proofs.Common.{◌≡◌, Bool, List, [], ◌∷◌, ◌++◌, sym, subst, refl, ◌∙◌, ap, append-nil, ℕ}
use Rattle.std.specs.List.{AllByRecursion as Each}
use Rattle.std.specs.Prelude.{Option, Some, None, is_some}
use Rattle.std.specs.Option.{IfSome}
use Rattle.st_words.specs.declared.ids.Who.{Who}
use Rattle.st_words.specs.declared.statement.Statement.{Statement}
use Rattle.st_message.specs.declared.event.Plan.{Plan}
use Rattle.st_message.specs.declared.change.Change.{Change}
use Rattle.st_message.specs.declared.change.Heard.{Heard}
use Rattle.st_message.specs.declared.reason.Reason.{Reason}
use Rattle.st_message.specs.declared.step.Step.{Step}
use Rattle.st_message.specs.declared.message.Message.TheVariants as messages
use Rattle.st_protocol.specs.Words.{Bytes, an_accept}
use Rattle.st_protocol.specs.State.{Seat, Answers, report_of, AtPrepare, AtProposal, AtAccept, Term}
use Rattle.st_protocol.specs.Questions.{questions}
use Rattle.st_protocol.specs.Step.{Answer, Steps, seen, beyond, full}
use Rattle.st_protocol.specs.Forced.{forced_of}
use Rattle.st_protocol.specs.Duty.{Event, Reading, Pen, Course, begins, reports_at, union_made, tick_out, of_event, course, did, ignored, plan_of, duty}
use Rattle.st_protocol.specs.Ordering.{keeps_and_executes, accept_reasons, accept_step}
use Rattle.st_protocol.proofs.QuestionLaws.{one_body}
use Rattle.st_protocol.proofs.CourseLaws.{Follows, course_follows}
use Rattle.st_frame_laws.proofs.CourseFrame.{AnswerFits, kept_plan}
use Rattle.st_frame_laws.proofs.StateFrame.{StateHas}
use Rattle.st_frame_laws.proofs.PartFrame.{AnswerHas, EachPart, EventReads, event_part, decides_fits, EachAgain, tick_has}
use Rattle.st_frame_laws.proofs.OwnFrame.{own_nothing}
use Rattle.st_frame_laws.proofs.NodeFrame.{seat_of_questions}
use Rattle.st_frame_laws.proofs.ChoiceLaws.{if_any}
use Rattle.st_honest_laws.proofs.HonestWorlds.{none_above_nothing}
use Rattle.st_certificate_laws.proofs.CertificateFacts.{Certified, Reported, Recorded, certificate_facts, ChangeHas, HeardHas, OutHas, CompletedHas, TakenHas}
use Rattle.st_certificate_laws.proofs.AskLaws.{few_nothing}
use Rattle.st_certificate_laws.proofs.SlotParts.{update_has, assign_has, prepare_has, proposal_share_has, accept_share_has, proposal_has, report_has, bundle_has, union_share_has, union_has}
use Rattle.st_certificate_laws.proofs.ViewParts.{local_timeout_has, global_timeout_has, local_share_has, local_proof_has, global_share_has, view_proof_has, ask_has}
use Rattle.st_certificate_laws.proofs.CertificateCourse.{Sends, AnswersHave, WayHas, Cw, Mw, Ow, way_is_kept, answer_fits, fills_fit, Fits, executes_fit, global_vc_fits}

-- ---- which part is asked

module _ (holds : Who → Statement → Bytes → Bool) (pen : Pen) (state : Answers) (s : AnswersHave holds state.here.seat state) where
  -- an answer that fits
  abbrev AnswerFitsHere : Answer → Type 0
  AnswerFitsHere a = Fits holds pen state s a

  -- a part's answer, by what holds of its changes, of what it keeps and of what goes out
  fit : (a : Answer) → AnswerHas (ChangeHas holds state.here.seat) (HeardHas holds state.here.seat) (OutHas holds state.here.seat) a → AnswerFitsHere a
  fit a h = answer_fits holds state.here.seat pen state a h

  -- the reports that are kept of a term
  reports_at_has : (t : Option Term) (i : ℕ) → IfSome (reports_at state t i) (Reported holds state.here.seat)
  reports_at_has None i = tt
  reports_at_has (Some t) i = s.facts.reports t i

  -- each part
  parts_fit : EachPart state AnswerFitsHere (TakenHas holds state.here.seat)
  parts_fit =
      record {
        refused = λ reason. tt;
        update = λ u seal h. fit _ (update_has holds state.here state.pending (state.log.run.last u.client.0) (state.making.reply (state.log.run.place u.client.0)) u seal);
        assign = λ view local n value client_seal signed h.
            fit _ (assign_has holds state.here state.slots (forced_of state.here state.unions) view local n value client_seal signed (s.facts.shares (AtPrepare view local n)) h);
        prepare = λ site view local n value signed h. fit _ (prepare_has holds state.here state.slots site view local n value signed (s.facts.shares (AtPrepare view local n)) h);
        proposal_share = λ site view local n value signed h.
            fit _ (proposal_share_has holds state.here state.slots site view local n value signed (s.facts.shares (AtProposal view local n)) h);
        accept_share = λ site view n value signed h. fit _ (accept_share_has holds state.here state.slots site view n value signed (s.facts.shares (AtAccept view n)) h);
        local_share = λ site local signed h. fit _ (local_share_has holds state.here state.votes site local signed s.facts.local_votes h);
        global_share = λ site view signed h. fit _ (global_share_has holds state.here state.votes site view signed s.facts.global_votes h);
        union_share = λ t x signed h. fit _ (union_share_has holds state.here (state.votes.unions t) x signed (s.facts.union_shares t) h);
        proposal = λ site view local n value q h. fit _ (proposal_has holds state.here state.slots site view local n value q h);
        accept = λ site view n value q h.
            decides_fits AnswerFitsHere (λ reason. tt) (accept_reasons state.here state.hand site view n) (accept_step state.here state.hand site view n value q)
            (λ tests. executes_fit holds pen state s (messages.Certificate (an_accept site view n value) q) h.0 tt tt);
        global_vc = λ site view q h. global_vc_fits holds pen state s site view q h.0;
        union = λ t site x q h. fit _ (union_has holds state.here (state.unions t site) x q h);
        local_proof = λ site local q h. fit _ (local_proof_has holds state.here site local q h);
        view_proof = λ view words h. fit _ (view_proof_has holds state.here view words h);
        order_proof = λ n p h.
            decides_fits AnswerFitsHere (λ reason. tt) (beyond state.here n ∷ seen (is_some (state.hand.proof n)) ∷ full n ∷ [])
            (keeps_and_executes state.here state.hand (messages.OrderProof (record { 0 = n }) p))
            (λ tests. executes_fit holds pen state s (messages.OrderProof (record { 0 = n }) p) h.0 tt tt);
        report = λ r h. fit _ (report_has holds state.here (reports_at state (report_of r.statement)) r (reports_at_has (report_of r.statement)) h);
        bundle = λ r rs h. fit _ (bundle_has holds state.here (union_made state (report_of r.statement)) r rs);
        asks = λ server executed view local.
            fit _ (ask_has holds state.here state.log.proof state.words server executed view local s.facts.proof s.facts.local_words s.facts.view_words);
      }

  -- what a tick sends again
  again : EachAgain state (λ m. Unit {0}) (Reported holds state.here.seat) (CompletedHas holds state.here.seat) (OutHas holds state.here.seat)
  again = record { share = λ m to h. tt; assign = λ m h. tt; report = λ r h. h; certificate = λ c to h. h; asks = λ site index. refl }

  -- an event
  pub event_fits : {Wire : Type 0} (read : Wire → Reading) (event : Event Wire) → EventReads (TakenHas holds state.here.seat) read event → AnswerFitsHere (of_event read state event)
  event_fits read event h =
      event_part state AnswerFitsHere (TakenHas holds state.here.seat) parts_fit read event (fit _ (local_timeout_has holds state.here _)) (fit _ (global_timeout_has holds state.here _))
      (fit (Steps (record { changes = []; heard = []; out = tick_out state }))
      (record {
        changes = tt;
        heard = tt;
        out =
            tick_has state (λ m. Unit {0}) (Reported holds state.here.seat) (CompletedHas holds state.here.seat) (OutHas holds state.here.seat) again
            (λ g l n. if_any _) (λ g l n. if_any _) (λ g n. if_any _) (λ t. if_any _) (λ t. if_any _)
            s.own.report s.own.vc s.own.union s.own.proposal s.own.accept;
      }))
      h

-- ---- the plan

-- What a plan adds, and the answers then.
pub record PlanHas (holds : Who → Statement → Bytes → Bool) (seat : Seat) (bodies : List (List Change)) (heard : List Heard) (plan : Plan) : Type 0 where
  pub state : AnswersHave holds seat (questions seat (bodies ++ plan.changes ∷ []) (heard ++ plan.heard))
  pub changes : Each (Recorded holds seat) plan.changes
  pub outputs : Each (Sends holds seat) plan.outputs

module _ (holds : Who → Statement → Bytes → Bool) (seat : Seat) where
  -- a server that forgets what it heard
  pub forgets : (bodies : List (List Change)) → StateHas (certificate_facts holds seat) (questions seat bodies []) → AnswersHave holds seat (questions seat bodies [])
  forgets bodies facts =
      record {
        facts = facts;
        level = none_above_nothing seat bodies;
        few = few_nothing seat.sites seat bodies;
        own = own_nothing (Reported holds seat) (CompletedHas holds seat) (Certified holds seat) (λ r g. g) (λ s q g. g) seat bodies;
      }

  module _ (pen : Pen) (bodies : List (List Change)) (heard : List Heard) (now : AnswersHave holds seat (questions seat bodies heard)) where
    -- the plan of an event that is ignored
    ignored_has : (reason : Reason) → PlanHas holds seat bodies heard (ignored reason)
    ignored_has reason =
        let e : questions seat bodies heard ≡ questions seat (bodies ++ [] ∷ []) (heard ++ []) = sym (one_body seat bodies heard []) ∙ ap (questions seat (bodies ++ [] ∷ [])) (sym (append-nil heard)) in
        record { state = subst (AnswersHave holds seat) e now; changes = tt; outputs = tt }

    -- the plan of a course
    did_has : (step : Step) → WayHas holds seat (course pen (questions seat bodies heard) step) → PlanHas holds seat bodies heard (did (course pen (questions seat bodies heard) step))
    unfolding Follows
    did_has step w =
        let way : Course = course pen (questions seat bodies heard) step in
        let e : way.now ≡ questions seat (bodies ++ way.changes ∷ []) (heard ++ way.heard) = course_follows seat bodies heard pen step in
        record { state = subst (AnswersHave holds seat) e w.now; changes = w.changes; outputs = w.outputs }

    -- a course before its first step
    begins_has : WayHas holds seat (begins (questions seat bodies heard))
    unfolding begins
    begins_has = record { place = seat_of_questions seat bodies heard; now = now; changes = tt; outputs = tt }

    -- The duty of a server records and sends certificates alone.
    pub duty_has : {Wire : Type 0} (read : Wire → Reading) (event : Event Wire) → EventReads (TakenHas holds seat) read event → PlanHas holds seat bodies heard (duty read pen seat bodies heard event)
    unfolding plan_of
    duty_has read event h =
        kept_plan pen (WayHas holds seat) (Cw holds seat) (Mw holds seat) (Ow holds seat) (way_is_kept holds seat pen) (fills_fit holds seat pen) (PlanHas holds seat bodies heard) (questions seat bodies heard)
        ignored_has did_has (of_event read (questions seat bodies heard) event) begins_has
        (subst (λ (p : Seat). AnswerFits pen (WayHas holds p) (Cw holds p) (Mw holds p) (Ow holds p) (questions seat bodies heard) (of_event read (questions seat bodies heard) event)) is
        (event_fits holds pen (questions seat bodies heard) (subst (λ (p : Seat). AnswersHave holds p (questions seat bodies heard)) (sym is) now) read event
        (subst (λ (p : Seat). EventReads (TakenHas holds p) read event) (sym is) h)))
      where
        is : (questions seat bodies heard).here.seat ≡ seat
        is = seat_of_questions seat bodies heard
