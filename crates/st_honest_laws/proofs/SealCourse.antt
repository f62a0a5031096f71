-- A server's duty hands on seals that it recorded, heard or is given, and names its own seals as its own: whatever is had
-- of those, and of all that it hands out itself, is had of all seals that it records, keeps and sends.
use Rattle.std.proofs.Common.{◌≡◌, ℕ, ◌+◌, Bool, true, false, cond, zero, suc, nat_eq, List, [], ◌∷◌, ◌++◌, sym, subst, refl, ◌∙◌, ap, append-nil, arith}
use Rattle.std.specs.Prelude.{Option, Some, None, is_some}
use Rattle.std.specs.Option.{IfSome}
use Rattle.std.specs.List.{AllByRecursion as Each}
use Rattle.st_words.specs.declared.deployment.TheConstants.{WINDOW}
use Rattle.st_words.specs.declared.ids.Who.{Who}
use Rattle.st_words.specs.declared.value.Update.{Update}
use Rattle.st_words.specs.declared.value.Value.{Value}
use Rattle.st_words.specs.declared.value.Value.TheVariants as values
use Rattle.st_words.specs.declared.statement.Statement.{Statement}
use Rattle.st_words.specs.declared.statement.Statement.TheVariants.{Prepare, LocalReport, GlobalReport}
use Rattle.st_seal.specs.declared.quorum.Signed.{Signed}
use Rattle.st_message.specs.declared.message.Proof.{Proof}
use Rattle.st_message.specs.declared.message.Message.{Message}
use Rattle.st_message.specs.declared.message.Message.TheVariants as messages
use Rattle.st_message.specs.declared.event.Scope.{Scope}
use Rattle.st_message.specs.declared.event.Output.{Output}
use Rattle.st_message.specs.declared.event.Plan.{Plan}
use Rattle.st_message.specs.declared.change.Change.{Change}
use Rattle.st_message.specs.declared.change.Change.TheVariants.{Made, Executed}
use Rattle.st_message.specs.declared.change.Heard.{Heard}
use Rattle.st_message.specs.declared.reason.Reason.{Reason}
use Rattle.st_message.specs.declared.step.Form.{Form}
use Rattle.st_message.specs.declared.step.Form.TheVariants as forms
use Rattle.st_message.specs.declared.step.Out.{Out}
use Rattle.st_message.specs.declared.step.Out.TheVariants.{Make, Send}
use Rattle.st_message.specs.declared.step.Step.{Step}
use Rattle.st_protocol.specs.Words.{Bytes, Quorum, server_at, a_prepare, an_accept, to_client_at, site_of}
use Rattle.st_protocol.specs.Keeping.{given}
use Rattle.st_protocol.specs.State.{AtPrepare, AtProposal, AtAccept, Term, Seat, Here, Sealing, Hand, Own, Answers, report_of}
use Rattle.st_protocol.specs.Questions.{questions}
use Rattle.st_protocol.specs.Growth.{here_after, hand_takes, hand_cuts, notes, takes, cuts, after, hears}
use Rattle.st_protocol.specs.Step.{Answer, Refused, Steps, beyond, seen, full}
use Rattle.st_protocol.specs.Forced.{forced_of}
use Rattle.st_protocol.specs.Collecting.{make_report}
use Rattle.st_protocol.specs.Ordering.{in_hand, executions, keeps_and_executes, accept_reasons, accept_step}
use Rattle.st_protocol.specs.Known.{Sealed}
use Rattle.st_protocol.specs.World.{handed}
use Rattle.st_protocol.specs.Duty.{Event, Reading, Pen, message_of, sealing_of, sealed, Course, begins, records, keeps, puts, emits, makes, reports_as, base_proof, reports, replies, carries_change, reports_at, union_made, tick_out, of_event, course, did, ignored, plan_of, duty}
use Rattle.st_protocol.proofs.QuestionLaws.{one_body}
use Rattle.st_protocol.proofs.CourseLaws.{Follows, course_follows}
use Rattle.st_frame_laws.proofs.ChoiceLaws.{either_has, chosen, append_all, append_parts}
use Rattle.st_frame_laws.proofs.CourseFrame.{IsKeptWhere, ChangesFit, StepFits, AnswerFits, each_change, each_heard, each_out, answers_client, reply_to, fill_at, kept_plan}
use Rattle.st_frame_laws.proofs.StateFrame.{StateHas, HandHas, OtherHas, after_has, hears_has, hand_takes_has, hand_cuts_has}
use Rattle.st_frame_laws.proofs.OwnFrame.{OwnHas, own_after, own_hears}
use Rattle.st_frame_laws.proofs.NodeFrame.{seat_after, seat_hears, seat_of_questions}
use Rattle.st_frame_laws.proofs.PartFrame.{StepHas, AnswerHas, EachPart, EventReads, event_part, EachAgain, tick_has, decides_fits}
use Rattle.st_honest_laws.proofs.SealFacts.{SignedHas, QuorumHas, ProofHas, PartsHave, OwnSealHas, ReportHas, MessageHas, Mine, RecordHas, Stands, OfSite, seal_facts, seals_are_picked}
use Rattle.st_honest_laws.proofs.SealParts.{ChangeHas, HeardHas, FormHas, OutHas, TakenHas, update_has, assign_has, prepare_has, proposal_share_has, accept_share_has, proposal_has, local_timeout_has, global_timeout_has, local_share_has, local_proof_has, global_share_has, global_vc_has, view_proof_has, makes_report_has, report_has, bundle_has, union_share_has, union_has}
use Rattle.st_honest_laws.proofs.SealMore.{NoneAbove, none_above_takes, none_above_cuts, at_highest, InHand, in_hand_has, ask_has, fill_has, pending_seal_has}

-- a number that is executed counts one more, whatever follows
pub executed_more : (pen : Pen) (w : Course) (n : ℕ) (p : Proof) → (carries_change pen w (Executed (record { 0 = n }) p)).now.here.executed ≡ w.now.here.executed + 1
unfolding carries_change replies makes emits puts records after notes cuts
executed_more pen w n p = by p.value
  where
    either_number : (b : Bool) (v u : Course) (k : ℕ) → v.now.here.executed ≡ k → u.now.here.executed ≡ k → (cond b v u).now.here.executed ≡ k
    either_number true v u k e f = e
    either_number false v u k e f = f

    by : (v : Value) → (replies pen w.now v (records w (Executed (record { 0 = n }) p))).now.here.executed ≡ w.now.here.executed + 1
    by values.Noop = refl
    by (values.Update u) = either_number (answers_client w.now u) _ _ (w.now.here.executed + 1) refl refl

-- no word is above, after one change more, and after one thing heard more
pub after_level : (state : Answers) (x : Change) → NoneAbove state.hand → NoneAbove (after state x).hand
unfolding after notes cuts
after_level state x l = none_above_cuts (here_after x state.here) state.hand l

pub hears_level : (state : Answers) (m : Heard) → NoneAbove state.hand → NoneAbove (hears state m).hand
unfolding hears takes cuts
hears_level state m l = none_above_cuts state.here (hand_takes m state.hand) (none_above_takes m state.hand l)

module _ (H : Sealed → Type 0) (seat : Seat) where
  -- a seal of this server's over the statement
  abbrev pub OwnSeal : Statement → Type 0
  OwnSeal s = (seal : Bytes) → H (record { who = server_at seat.site seat.index; statement = s; seal = seal })

  -- the server's own seal in what goes out, if there is one
  abbrev pub HandsOwn : Output → Type 0
  HandsOwn o = IfSome o.leaf (λ leaf. IfSome (handed seat.site o.message) OwnSeal)

  -- what the server itself sent
  abbrev pub Owns : Own → Type 0
  Owns own = OwnHas (ReportHas H seat.sites) (λ c. QuorumHas H c.statement c.quorum) own

  abbrev pub HeardSeals : Heard → Type 0
  HeardSeals m = MessageHas H seat.sites m.message

  abbrev pub OutputSeals : Output → Type 0
  OutputSeals o = MessageHas H seat.sites o.message

  -- what is had where all that goes out is handed out
  pub record Gated (w : Course) : Type 0 where
    pub own : Owns w.now.own
    pub heard : Each HeardSeals w.heard
    pub outputs : Each OutputSeals w.outputs

  -- On the way through an event.
  pub record WayHas (w : Course) : Type 0 where
    pub place : w.now.here.seat ≡ seat
    pub now : StateHas (seal_facts H seat) w.now
    pub level : NoneAbove w.now.hand
    pub changes : Each (RecordHas H seat) w.changes
    pub gated : Each HandsOwn w.outputs → Gated w

  abbrev pub Cw : Course → Change → Type 0
  Cw w x = RecordHas H seat x × Stands H seat w.now.here x

  abbrev pub Mw : Course → Heard → Type 0
  Mw w m = HeardHas H seat m

  abbrev pub Ow : Course → Out → Type 0
  Ow w o = OutHas H seat o

  -- ---- what is sealed

  own_seal : (form : Form) (s : Statement) (signed : Signed) → Mine H seat s → IfSome (handed seat.site (message_of form s signed)) OwnSeal → OwnSeal s
  own_seal forms.Share s signed mine h = h
  own_seal (forms.Assign client_seal) (Prepare site view local number value) signed mine h = subst (λ i. OwnSeal (a_prepare i view.0 local.0 number.0 value)) (sym mine.site) h
  own_seal (forms.Assign client_seal) _ signed mine h = h
  own_seal (forms.Report quorums base) s signed mine h = h
  own_seal forms.Reply s signed mine h = h

  report_message : (s : Statement) (seal : Bytes) (quorums : List Quorum) (base : Option Proof) → Mine H seat s → PartsHave H seat.sites s quorums base →
      SignedHas H s (record { index = seat.index; seal = seal }) → OwnSealHas H seat.sites s seal × PartsHave H seat.sites s quorums base
  report_message (LocalReport site local index view at items) seal quorums base mine f h =
      (subst (λ i. SignedHas H (LocalReport site local index view at items) (record { index = i; seal = seal })) (sym mine.reports) h, f)
  report_message (GlobalReport site view index at items) seal quorums base mine f h =
      (subst (λ i. SignedHas H (GlobalReport site view index at items) (record { index = i; seal = seal })) (sym mine.reports) h, f)
  report_message _ seal quorums base mine f h = (tt, tt)

  parts_of : (s : Statement) (quorums : List Quorum) (base : Option Proof) → FormHas H seat s (forms.Report quorums base) → PartsHave H seat.sites s quorums base
  parts_of (Prepare site view local number value) quorums base h = h
  parts_of _ quorums base h = h

  message_has : (form : Form) (s : Statement) (seal : Bytes) → Mine H seat s → FormHas H seat s form → SignedHas H s (record { index = seat.index; seal = seal }) →
      MessageHas H seat.sites (message_of form s (record { index = seat.index; seal = seal }))
  message_has forms.Share s seal mine f h = h
  message_has (forms.Assign client_seal) (Prepare site view local number value) seal mine f h =
      (f, subst (λ i. SignedHas H (a_prepare i view.0 local.0 number.0 value) (record { index = seat.index; seal = seal })) mine.leads h)
  message_has (forms.Assign client_seal) _ seal mine f h = h
  message_has (forms.Report quorums base) s seal mine f h = report_message s seal quorums base mine (parts_of s quorums base f) h
  message_has forms.Reply s seal mine f h = h

  module _ (pen : Pen) (none : (who : Who) (s : Statement) → H (record { who = who; statement = s; seal = [] })) where
    sealed_has : (state : Answers) → state.here.seat ≡ seat → (o : Out) → OutHas H seat o → HandsOwn (sealed pen state o) → OutputSeals (sealed pen state o)
    sealed_has state is (Send m to) h own = h
    sealed_has state is (Make s form to) h own = by (sealing_of state s) own
      where
        at : (seal : Bytes) → SignedHas H s (record { index = seat.index; seal = seal }) → MessageHas H seat.sites (message_of form s (record { index = state.here.seat.index; seal = seal }))
        at seal g = subst (λ (p : Seat). MessageHas H seat.sites (message_of form s (record { index = p.index; seal = seal }))) (sym is) (message_has form s seal h.0 h.1 g)

        by : (x : Option Sealing) →
            IfSome (given x None (λ m. Some m.leaf)) (λ leaf. IfSome (handed seat.site (message_of form s (record { index = state.here.seat.index; seal = given x [] (λ m. pen m.leaf s) }))) OwnSeal) →
            MessageHas H seat.sites (message_of form s (record { index = state.here.seat.index; seal = given x [] (λ m. pen m.leaf s) }))
        by None own = at [] (none (server_at (site_of s) seat.index) s)
        by (Some m) own =
            at (pen m.leaf s)
            (subst (λ i. H (record { who = server_at i seat.index; statement = s; seal = pen m.leaf s })) (sym h.0.site)
            (own_seal form s (record { index = state.here.seat.index; seal = pen m.leaf s }) h.0 own (pen m.leaf s)))

    -- ---- the steps of a course

    records_way : (w : Course) (x : Change) → WayHas w → Cw w x → WayHas (records w x)
    unfolding records
    records_way w x h c =
        record {
          place = seat_after w.now x ∙ h.place;
          now = after_has (seal_facts H seat) (seals_are_picked H seat) w.now x h.now c;
          level = after_level w.now x h.level;
          changes = append_all (RecordHas H seat) w.changes (x ∷ []) h.changes (c.0, tt);
          gated = λ all.
              let g : Gated w = h.gated all in
              record {
                own = own_after (ReportHas H seat.sites) (λ c. QuorumHas H c.statement c.quorum) (MessageHas H seat.sites) (λ r h. h) (λ s q h. h) w.now x g.own;
                heard = g.heard;
                outputs = g.outputs;
              };
        }

    emits_way : (w : Course) (o : Out) → WayHas w → OutHas H seat o → WayHas (emits pen w o)
    unfolding emits puts
    emits_way w o h c =
        record {
          place = h.place;
          now = h.now;
          level = h.level;
          changes = h.changes;
          gated = λ all.
              let parts = append_parts HandsOwn w.outputs (sealed pen w.now o ∷ []) all in
              let g : Gated w = h.gated parts.0 in
              record {
                own = g.own;
                heard = g.heard;
                outputs = append_all OutputSeals w.outputs (sealed pen w.now o ∷ []) g.outputs (sealed_has w.now h.place o c parts.1.0, tt);
              };
        }

    keeps_way : (w : Course) (m : Heard) → WayHas w → OtherHas (seal_facts H seat) m → (Gated w → HeardSeals m) → WayHas (keeps w m)
    unfolding keeps
    keeps_way w m h other all_seals =
        record {
          place = seat_hears w.now m ∙ h.place;
          now = hears_has (seal_facts H seat) (seals_are_picked H seat) w.now m h.now other;
          level = hears_level w.now m h.level;
          changes = h.changes;
          gated = λ all.
              let g : Gated w = h.gated all in
              record {
                own = own_hears (ReportHas H seat.sites) (λ c. QuorumHas H c.statement c.quorum) (MessageHas H seat.sites) (λ r h. h) (λ s q h. h) w.now m g.own (λ e. all_seals g);
                heard = append_all HeardSeals w.heard (m ∷ []) g.heard (all_seals g, tt);
                outputs = g.outputs;
              };
        }

    -- a report: the server's own message is that which goes out
    reports_as_way : (w : Course) (s : Statement) (form : Form) (to : Scope) → WayHas w → OutHas H seat (Make s form to) → WayHas (reports_as pen w (Make s form to))
    unfolding reports_as emits puts
    reports_as_way w s form to h c =
        let made : Course = records w (Made w.now.here.leaf s) in
        keeps_way (emits pen made (Make s form to)) (record { own = true; message = (sealed pen made.now (Make s form to)).message })
        (emits_way made (Make s form to) (records_way w (Made w.now.here.leaf s) h (tt, c.0)) c)
        (λ e. absurd (let no : true ≡ false = e in cc))
        (λ g. (append_parts OutputSeals made.outputs (sealed pen made.now (Make s form to) ∷ []) g.outputs).1.0)

    reports_way : (w : Course) (global : Bool) → WayHas w → WayHas (reports pen global w)
    unfolding reports
    reports_way w global h = by global
      where
        out : (global : Bool) → OutHas H seat (make_report w.now.here w.now.slots (base_proof w.now) global)
        out global =
            subst (λ (p : Seat). OutHas H p (make_report w.now.here w.now.slots (base_proof w.now) global)) h.place
            (makes_report_has H w.now.here w.now.slots (base_proof w.now) global
            (subst (λ (p : Seat). StateHas (seal_facts H p) w.now) (sym h.place) h.now).prepared
            (subst (λ (p : Seat). StateHas (seal_facts H p) w.now) (sym h.place) h.now).accepted
            (either_has (ProofHas H w.now.here.executed) (nat_eq w.now.here.executed 0) None (w.now.log.proof w.now.here.executed) tt (h.now.proof w.now.here.executed)))

        by : (global : Bool) → WayHas (reports_as pen w (make_report w.now.here w.now.slots (base_proof w.now) global))
        by false = reports_as_way w _ _ _ h (out false)
        by true = reports_as_way w _ _ _ h (out true)

    replies_way : (w : Course) (x : Change) (u : Update) → answers_client w.now u ≡ true → WayHas w → Cw w x → WayHas (records w x) →
        WayHas (makes pen (records w x) (reply_to w.now u) forms.Reply (to_client_at u.client.0))
    unfolding makes
    replies_way w x u runs h c r =
        let s : Statement = reply_to w.now u in
        let mine : Mine H seat s = record { site = ap (λ (p : Seat). p.site) h.place; leads = tt; reports = tt } in
        emits_way (records (records w x) (Made (records w x).now.here.leaf s)) (Make s forms.Reply (to_client_at u.client.0))
        (records_way (records w x) (Made (records w x).now.here.leaf s) r (tt, mine)) (mine, tt)

    way_is_kept : IsKeptWhere pen WayHas Cw Mw Ow
    way_is_kept =
        record {
          recording = records_way;
          keeping = λ w m h c. keeps_way w m h c.0 (λ g. either_own m c);
          emitting = emits_way;
          reporting = λ w x global e h c r. reports_way (records w x) global r;
          replying = λ w x u runs goes h c r. replies_way w x u goes h c r;
        }
      where
        either_own : (m : Heard) → HeardHas H seat m → HeardSeals m
        either_own m c = by m.own refl
          where
            by : (b : Bool) → m.own ≡ b → HeardSeals m
            by true e = c.1 e
            by false e = (c.0 e).0

    -- steps of which one fact holds wherever the course stands
    step_fits : (w : Course) (step : Step) → StepHas (ChangeHas H seat) (HeardHas H seat) (OutHas H seat) step → StepFits pen WayHas Cw Mw Ow w step
    step_fits w step h = (
      each_change pen WayHas Cw Mw Ow (ChangeHas H seat) (λ w x c. (c.0, c.1 w.now.here)) w step.changes h.changes,
      (λ q. each_heard pen WayHas Cw Mw Ow (HeardHas H seat) (λ w m c. c) _ step.heard h.heard, λ q. each_out pen WayHas Cw Mw Ow (OutHas H seat) (λ w o c. c) _ step.out h.out),
    )

    answer_fits : (state : Answers) (a : Answer) → AnswerHas (ChangeHas H seat) (HeardHas H seat) (OutHas H seat) a → AnswerFits pen WayHas Cw Mw Ow state a
    answer_fits state (Refused reason) h = tt
    answer_fits state (Steps step) h = step_fits (begins state) step h

    fills_fit : (w : Course) → WayHas w → StepFits pen WayHas Cw Mw Ow w (fill_at w.now)
    fills_fit w h =
        step_fits w (fill_at w.now)
        (subst (λ (p : Seat). StepHas (ChangeHas H p) (HeardHas H p) (OutHas H p) (fill_at w.now)) h.place
        (fill_has H w.now.here w.now.slots w.now.pending (forced_of w.now.here w.now.unions) h.now.pending))

    -- numbers that are executed, each the next
    executions_fit : (here : Here) (hand : Hand) (k n : ℕ) (w : Course) → w.now.here.executed + 1 ≡ n → InHand H here hand → ChangesFit pen WayHas Cw Mw Ow w (executions here hand k n)
    unfolding executions
    executions_fit here hand zero n w e h = tt
    executions_fit here hand (suc k) n w e h =
        chosen (ProofHas H n) (ChangesFit pen WayHas Cw Mw Ow w) (in_hand here hand n) [] (λ p. Executed (record { 0 = n }) p ∷ executions here hand k (n + 1)) (in_hand_has H here hand n h) tt
        (λ p g. (
          (g, sym e),
          λ q.
              executions_fit here hand k (n + 1) (carries_change pen w (Executed (record { 0 = n }) p))
              (let more = executed_more pen w n p in omega (arith, more, e)) h,
        ))

    -- a message is kept, and what then is in hand is executed
    executes_fit : (state : Answers) (m : Message) → StateHas (seal_facts H seat) state → NoneAbove state.hand → MessageHas H seat.sites m → OfSite H seat m →
        AnswerFits pen WayHas Cw Mw Ow state (Steps (keeps_and_executes state.here state.hand m))
    unfolding begins
    executes_fit state m s level h o =
        let heard : Heard = record { own = false; message = m } in
        let hand : Hand = hand_cuts state.here (hand_takes heard state.hand) in
        let facts : HandHas (seal_facts H seat) hand =
        hand_cuts_has (seal_facts H seat) (seals_are_picked H seat) state.here (hand_takes heard state.hand)
        (hand_takes_has (seal_facts H seat) (seals_are_picked H seat) heard state.hand s.hand (λ e. (h, o))) in (
          executions_fit state.here hand WINDOW (state.here.executed + 1) (begins state) refl
              (record { has = facts.word; proof = facts.proof; level = at_highest state.here (hand_takes heard state.hand) (none_above_takes heard state.hand level) }),
          (λ q. (((λ e. (h, o)), λ e. absurd (let no : false ≡ true = e in cc)), λ r. tt), λ q. tt),
        )

-- ---- which part is asked

module _ (H : Sealed → Type 0) (pen : Pen) (none : (who : Who) (s : Statement) → H (record { who = who; statement = s; seal = [] })) (state : Answers)
    (s : StateHas (seal_facts H state.here.seat) state) (level : NoneAbove state.hand) (own : Owns H state.here.seat state.own) where
  -- an answer that fits
  abbrev Fits : Answer → Type 0
  Fits a = AnswerFits pen (WayHas H state.here.seat) (Cw H state.here.seat) (Mw H state.here.seat) (Ow H state.here.seat) state a

  fit : (a : Answer) → AnswerHas (ChangeHas H state.here.seat) (HeardHas H state.here.seat) (OutHas H state.here.seat) a → Fits a
  fit a h = answer_fits H state.here.seat pen none state a h

  -- the reports that are kept of a term
  reports_at_has : (t : Option Term) (i : ℕ) → IfSome (reports_at state t i) (ReportHas H state.here.seat.sites)
  reports_at_has None i = tt
  reports_at_has (Some t) i = s.reports t i

  parts_fit : EachPart state Fits (TakenHas H state.here.seat)
  parts_fit =
      record {
        refused = λ reason. tt;
        update = λ u seal h.
            fit _ (update_has H state.here state.pending (state.log.run.last u.client.0) (state.making.reply (state.log.run.place u.client.0)) u seal (s.reply (state.log.run.place u.client.0)) h);
        assign = λ view local n value client_seal signed h.
            fit _ (assign_has H state.here state.slots (forced_of state.here state.unions) view local n value client_seal signed (s.shares (AtPrepare view local n)) h);
        prepare = λ site view local n value signed h. fit _ (prepare_has H state.here state.slots site view local n value signed (s.shares (AtPrepare view local n)) h);
        proposal_share = λ site view local n value signed h. fit _ (proposal_share_has H state.here state.slots site view local n value signed (s.shares (AtProposal view local n)) h);
        accept_share = λ site view n value signed h. fit _ (accept_share_has H state.here state.slots site view n value signed (s.shares (AtAccept view n)) h);
        local_share = λ site local signed h. fit _ (local_share_has H state.here state.votes site local signed s.local_votes h);
        global_share = λ site view signed h. fit _ (global_share_has H state.here state.votes site view signed s.global_votes h);
        union_share = λ t x signed h. fit _ (union_share_has H state.here (state.votes.unions t) x signed (s.union_shares t) h);
        proposal = λ site view local n value q h. fit _ (proposal_has H state.here state.slots site view local n value q h);
        accept = λ site view n value q h.
            decides_fits Fits (λ reason. tt) (accept_reasons state.here state.hand site view n) (accept_step state.here state.hand site view n value q)
            (λ tests. executes_fit H state.here.seat pen none state (messages.Certificate (an_accept site view n value) q) s level h.0 tt);
        global_vc = λ site view q h. fit _ (global_vc_has H state.here state.votes site view q s.asked h);
        union = λ t site x q h. fit _ (union_has H state.here (state.unions t site) x q h);
        local_proof = λ site local q h. fit _ (local_proof_has H state.here site local q h);
        view_proof = λ view words h. fit _ (view_proof_has H state.here view words h);
        order_proof = λ n p h.
            decides_fits Fits (λ reason. tt) (beyond state.here n ∷ seen (is_some (state.hand.proof n)) ∷ full n ∷ []) (keeps_and_executes state.here state.hand (messages.OrderProof (record { 0 = n }) p))
            (λ tests. executes_fit H state.here.seat pen none state (messages.OrderProof (record { 0 = n }) p) s level h.0 tt);
        report = λ r h. fit _ (report_has H state.here (reports_at state (report_of r.statement)) r (reports_at_has (report_of r.statement)) h);
        bundle = λ r rs h. fit _ (bundle_has H state.here (union_made state (report_of r.statement)) r rs);
        asks = λ server executed view local. fit _ (ask_has H state.here state.log.proof state.words server executed view local s.proof s.local_words s.view_words);
      }

  -- what a tick sends again
  again : EachAgain state (λ m. Mine H state.here.seat m.statement) (ReportHas H state.here.seat.sites) (λ c. QuorumHas H c.statement c.quorum) (OutHas H state.here.seat)
  again =
      record {
        share = λ m to h. (h, form m.statement);
        assign = λ m h. (h, pending_seal_has H state.here state.pending m.statement s.pending);
        report = λ r h. h;
        certificate = λ c to h. h;
        asks = λ site index. tt;
      }
    where
      form : (x : Statement) → FormHas H state.here.seat x forms.Share
      form (Prepare site view local number value) = tt
      form _ = tt

  -- an event
  event_fits : {Wire : Type 0} (read : Wire → Reading) (event : Event Wire) → EventReads (TakenHas H state.here.seat) read event → Fits (of_event read state event)
  event_fits read event h =
      event_part state Fits (TakenHas H state.here.seat) parts_fit read event (fit _ (local_timeout_has H state.here _)) (fit _ (global_timeout_has H state.here _))
      (fit (Steps (record { changes = []; heard = []; out = tick_out state }))
      (record {
        changes = tt;
        heard = tt;
        out =
            tick_has state (λ m. Mine H state.here.seat m.statement) (ReportHas H state.here.seat.sites) (λ c. QuorumHas H c.statement c.quorum) (OutHas H state.here.seat) again
            (λ g l n. s.made (AtPrepare g l n)) (λ g l n. s.made (AtProposal g l n)) (λ g n. s.made (AtAccept g n)) s.vc s.own_union
            own.report own.vc own.union own.proposal own.accept;
      }))
      h

-- ---- the plan

-- What a server recorded and heard.
pub record ListsHave (H : Sealed → Type 0) (seat : Seat) (bodies : List (List Change)) (heard : List Heard) : Type 0 where
  pub state : StateHas (seal_facts H seat) (questions seat bodies heard)
  pub level : NoneAbove (questions seat bodies heard).hand
  pub own : Owns H seat (questions seat bodies heard).own
  pub changes : Each (Each (RecordHas H seat)) bodies
  pub messages : Each (HeardSeals H seat) heard

-- What a plan adds: its changes, and, where its own seals are handed out, all that is heard and sent, and the answers then.
pub record PlanHas (H : Sealed → Type 0) (seat : Seat) (bodies : List (List Change)) (heard : List Heard) (plan : Plan) : Type 0 where
  pub state : StateHas (seal_facts H seat) (questions seat (bodies ++ plan.changes ∷ []) (heard ++ plan.heard))
  pub level : NoneAbove (questions seat (bodies ++ plan.changes ∷ []) (heard ++ plan.heard)).hand
  pub changes : Each (RecordHas H seat) plan.changes
  pub own : Each (HandsOwn H seat) plan.outputs → Owns H seat (questions seat (bodies ++ plan.changes ∷ []) (heard ++ plan.heard)).own
  pub messages : Each (HandsOwn H seat) plan.outputs → Each (HeardSeals H seat) plan.heard
  pub outputs : Each (HandsOwn H seat) plan.outputs → Each (OutputSeals H seat) plan.outputs

-- with an empty body, and nothing heard
same_questions : (seat : Seat) (bodies : List (List Change)) (heard : List Heard) → questions seat bodies heard ≡ questions seat (bodies ++ [] ∷ []) (heard ++ [])
same_questions seat bodies heard = sym (one_body seat bodies heard []) ∙ ap (questions seat (bodies ++ [] ∷ [])) (sym (append-nil heard))

module _ (H : Sealed → Type 0) (seat : Seat) (pen : Pen) (none : (who : Who) (s : Statement) → H (record { who = who; statement = s; seal = [] })) where
  module _ (bodies : List (List Change)) (heard : List Heard) (lists : ListsHave H seat bodies heard) where
    -- an event that is ignored
    ignored_has : (reason : Reason) → PlanHas H seat bodies heard (ignored reason)
    ignored_has reason =
        let e : questions seat bodies heard ≡ questions seat (bodies ++ [] ∷ []) (heard ++ []) = same_questions seat bodies heard in
        record {
          state = subst (StateHas (seal_facts H seat)) e lists.state;
          level = subst (λ (q : Answers). NoneAbove q.hand) e lists.level;
          changes = tt;
          own = λ all. subst (λ (q : Answers). Owns H seat q.own) e lists.own;
          messages = λ all. tt;
          outputs = λ all. tt;
        }

    -- one that did something
    did_has : (step : Step) → WayHas H seat (course pen (questions seat bodies heard) step) → PlanHas H seat bodies heard (did (course pen (questions seat bodies heard) step))
    unfolding Follows
    did_has step w =
        let way : Course = course pen (questions seat bodies heard) step in
        let e : way.now ≡ questions seat (bodies ++ way.changes ∷ []) (heard ++ way.heard) = course_follows seat bodies heard pen step in
        record {
          state = subst (StateHas (seal_facts H seat)) e w.now;
          level = subst (λ (q : Answers). NoneAbove q.hand) e w.level;
          changes = w.changes;
          own = λ all. subst (λ (q : Answers). Owns H seat q.own) e (w.gated all).own;
          messages = λ all. (w.gated all).heard;
          outputs = λ all. (w.gated all).outputs;
        }

    -- before the event
    begins_has : WayHas H seat (begins (questions seat bodies heard))
    unfolding begins
    begins_has =
        record {
          place = seat_of_questions seat bodies heard;
          now = lists.state;
          level = lists.level;
          changes = tt;
          gated = λ all. record { own = lists.own; heard = tt; outputs = tt };
        }

    -- The duty of a server hands on seals.
    pub duty_has : {Wire : Type 0} (read : Wire → Reading) (event : Event Wire) → EventReads (TakenHas H seat) read event → PlanHas H seat bodies heard (duty read pen seat bodies heard event)
    unfolding plan_of
    duty_has read event h =
        kept_plan pen (WayHas H seat) (Cw H seat) (Mw H seat) (Ow H seat) (way_is_kept H seat pen none) (fills_fit H seat pen none) (PlanHas H seat bodies heard) (questions seat bodies heard)
        ignored_has did_has (of_event read (questions seat bodies heard) event) begins_has
        (subst (λ (p : Seat). AnswerFits pen (WayHas H p) (Cw H p) (Mw H p) (Ow H p) (questions seat bodies heard) (of_event read (questions seat bodies heard) event)) is
        (event_fits H pen none (questions seat bodies heard) (subst (λ (p : Seat). StateHas (seal_facts H p) (questions seat bodies heard)) (sym is) lists.state) lists.level
        (subst (λ (p : Seat). Owns H p (questions seat bodies heard).own) (sym is) lists.own) read event
        (subst (λ (p : Seat). EventReads (TakenHas H p) read event) (sym is) h)))
      where
        is : (questions seat bodies heard).here.seat ≡ seat
        is = seat_of_questions seat bodies heard
