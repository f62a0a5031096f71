-- A server's duty records and sends certificates alone.
use Rattle.std.proofs.Common.{◌≡◌, ◌+◌, Bool, true, false, [], ◌∷◌, sym, subst, refl, ◌∙◌, ℕ, cond, zero, suc, nat_eq, nat_le, arith}
use Rattle.std.specs.List.{AllByRecursion as Each}
use Rattle.std.proofs.lemmas.Bool.{eqb-true, leb-true, leb-false}
use Rattle.std.specs.Prelude.{Option, Some, None}
use Rattle.std.specs.Option.{IfSome}
use Rattle.st_words.specs.declared.ids.Who.{Who}
use Rattle.st_words.specs.declared.value.Update.{Update}
use Rattle.st_words.specs.declared.statement.Statement.{Statement}
use Rattle.st_words.specs.declared.deployment.TheConstants.{WINDOW}
use Rattle.st_words.specs.declared.statement.Statement.TheVariants.{Prepare}
use Rattle.st_seal.specs.declared.quorum.Signed.{Signed}
use Rattle.st_message.specs.declared.event.Scope.{Scope}
use Rattle.st_message.specs.declared.change.Change.{Change}
use Rattle.st_message.specs.declared.change.Change.TheVariants.{EnterGlobal, Made, Executed}
use Rattle.st_message.specs.declared.change.Heard.{Heard}
use Rattle.st_message.specs.declared.step.Form.{Form}
use Rattle.st_message.specs.declared.step.Form.TheVariants as forms
use Rattle.st_message.specs.declared.step.Out.{Out}
use Rattle.st_message.specs.declared.step.Out.TheVariants.{Make, Send}
use Rattle.st_message.specs.declared.step.Step.{Step}
use Rattle.st_message.specs.declared.message.Message.{Message}
use Rattle.st_message.specs.declared.message.Message.TheVariants as messages
use Rattle.st_message.specs.declared.event.Output.{Output}
use Rattle.st_protocol.specs.Words.{Bytes, to_client_at, Quorum, a_global_vc}
use Rattle.st_protocol.specs.State.{Seat, Answers, Here, Asked, Hand, Own}
use Rattle.st_protocol.specs.Step.{Answer, Refused, Steps, then, keeping, recording, when, all_below, count_below, majority, one_if, other_view, bound, seen, spent}
use Rattle.st_protocol.specs.Forced.{forced_of}
use Rattle.st_protocol.specs.Collecting.{make_report}
use Rattle.st_protocol.specs.Duty.{Pen, sealed, Course, begins, records, keeps, puts, emits, makes, reports_as, base_proof, reports, message_of, signed_by, carries_change, carries_changes}
use Rattle.st_protocol.specs.Keeping.{given}
use Rattle.st_protocol.specs.Growth.{hand_takes, hand_cuts}
use Rattle.st_protocol.specs.Views.{with_asked, asks_for, word_for, on_global_vc}
use Rattle.st_protocol.specs.Ordering.{in_hand, executions, keeps_and_executes}
use Rattle.st_frame_laws.proofs.ChoiceLaws.{append_all, either_has, chosen}
use Rattle.st_frame_laws.proofs.CourseFrame.{IsKeptWhere, StepFits, AnswerFits, each_change, each_heard, each_out, reply_to, fill_at, ChangesFit}
use Rattle.st_frame_laws.proofs.StateFrame.{StateHas, after_has, hears_has, HandHas, hand_takes_has, hand_cuts_has}
use Rattle.st_frame_laws.proofs.PartFrame.{StepHas, AnswerHas, decides_fits}
use Rattle.st_frame_laws.proofs.NodeFrame.{seat_after, seat_hears}
use Rattle.st_frame_laws.proofs.OwnFrame.{OwnHas, own_after, own_hears}
use Rattle.st_honest_laws.proofs.SealMore.{NoneAbove, none_above_takes, at_highest}
use Rattle.st_honest_laws.proofs.SealCourse.{executed_more, after_level, hears_level}
use Rattle.st_certificate_laws.proofs.AskLaws.{asking, FewAsk, AsksNot, MayAsk, asks_not, few_after, few_hears, few_with, few_without, exactly_ask, view_after}
use Rattle.st_certificate_laws.proofs.CertificateFacts.{Certifies, IsOrder, Certified, Reported, Brings, OfSite, Recorded, Stands, certificate_facts, certificates_are_picked, ChangeHas, HeardHas, FormHas, OutHas, CompletedHas}
use Rattle.st_certificate_laws.proofs.ViewParts.{fill_has}
use Rattle.st_certificate_laws.proofs.HandParts.{makes_report_has, InHand, in_hand_has, asked_has}

module _ (holds : Who → Statement → Bytes → Bool) (seat : Seat) where
  -- what the server itself sent
  abbrev pub Owns : Own → Type 0
  Owns own = OwnHas (Reported holds seat) (CompletedHas holds seat) own

  -- a message that goes out
  abbrev pub Sends : Output → Type 0
  Sends o = Certified holds seat o.message

  -- What a server's answers have.
  pub record AnswersHave (state : Answers) : Type 0 where
    pub facts : StateHas (certificate_facts holds seat) state
    pub level : NoneAbove state.hand
    pub few : FewAsk seat.sites state.votes.asked
    pub own : Owns state.own

  -- On the way through an event.
  pub record WayHas (w : Course) : Type 0 where
    pub place : w.now.here.seat ≡ seat
    pub now : AnswersHave w.now
    pub changes : Each (Recorded holds seat) w.changes
    pub outputs : Each Sends w.outputs

  -- what is asked of a change that is recorded,
  abbrev pub Cw : Course → Change → Type 0
  Cw w x = Recorded holds seat x × Stands holds seat w.now.here x

  -- of what is kept as heard,
  abbrev pub Mw : Course → Heard → Type 0
  Mw w m = (m.own ≡ false → Brings holds seat m.message × OfSite holds seat m.message × MayAsk seat.sites w.now m.message) × (m.own ≡ true → Certified holds seat m.message)

  -- and of what goes out
  abbrev pub Ow : Course → Out → Type 0
  Ow w o = OutHas holds seat o

  -- ---- what is sealed

  -- a sealed statement, by the form in which it goes out
  sealed_form : (form : Form) (s : Statement) (signed : Signed) → FormHas holds seat s form → Certified holds seat (message_of form s signed)
  sealed_form forms.Share s signed h = refl
  sealed_form (forms.Assign client_seal) (Prepare site view local number value) signed h = refl
  sealed_form (forms.Assign client_seal) _ signed h = refl
  sealed_form (forms.Report quorums base) s signed h = h
  sealed_form forms.Reply s signed h = refl

  module _ (pen : Pen) where
    -- what goes out, sealed or as it is
    sealed_has : (state : Answers) (o : Out) → OutHas holds seat o → Sends (sealed pen state o)
    sealed_has state (Send m to) h = h
    sealed_has state (Make s form to) h = sealed_form form s (signed_by pen state s) h

    -- ---- the steps of a course

    -- a change is recorded
    records_way : (w : Course) (x : Change) → WayHas w → Cw w x → WayHas (records w x)
    unfolding records
    records_way w x h c =
        record {
          place = seat_after w.now x ∙ h.place;
          now =
              record {
                facts = after_has (certificate_facts holds seat) (certificates_are_picked holds seat) w.now x h.now.facts c;
                level = after_level w.now x h.now.level;
                few = few_after seat.sites w.now x h.now.few;
                own = own_after (Reported holds seat) (CompletedHas holds seat) (Certified holds seat) (λ r g. g) (λ s q g. g) w.now x h.now.own;
              };
          changes = append_all (Recorded holds seat) w.changes (x ∷ []) h.changes (c.0, tt);
          outputs = h.outputs;
        }

    -- something goes out
    emits_way : (w : Course) (o : Out) → WayHas w → OutHas holds seat o → WayHas (emits pen w o)
    unfolding emits puts
    emits_way w o h c =
        record { place = h.place; now = h.now; changes = h.changes; outputs = append_all Sends w.outputs (sealed pen w.now o ∷ []) h.outputs (sealed_has w.now o c, tt) }

    -- something heard is kept
    keeps_way : (w : Course) (m : Heard) → WayHas w → Mw w m → WayHas (keeps w m)
    unfolding keeps
    keeps_way w m h c =
        record {
          place = seat_hears w.now m ∙ h.place;
          now =
              record {
                facts = hears_has (certificate_facts holds seat) (certificates_are_picked holds seat) w.now m h.now.facts (λ e. let g = c.0 e in (g.0, g.1));
                level = hears_level w.now m h.now.level;
                few = few_hears seat.sites w.now m h.now.few (λ e. (c.0 e).2);
                own = own_hears (Reported holds seat) (CompletedHas holds seat) (Certified holds seat) (λ r g. g) (λ s q g. g) w.now m h.now.own c.1;
              };
          changes = h.changes;
          outputs = h.outputs;
        }

    -- a report: the server's own message is that which goes out
    reports_as_way : (w : Course) (s : Statement) (form : Form) (to : Scope) → WayHas w → FormHas holds seat s form → WayHas (reports_as pen w (Make s form to))
    unfolding reports_as emits puts
    reports_as_way w s form to h c =
        let made : Course = records w (Made w.now.here.leaf s) in
        keeps_way (emits pen made (Make s form to)) (record { own = true; message = (sealed pen made.now (Make s form to)).message })
        (emits_way made (Make s form to) (records_way w (Made w.now.here.leaf s) h (refl, tt)) c)
        (λ e. absurd (let no : true ≡ false = e in cc), λ e. sealed_has made.now (Make s form to) c)

    -- the report of the view that was entered
    reports_way : (w : Course) (global : Bool) → WayHas w → WayHas (reports pen global w)
    unfolding reports
    reports_way w global h = by global
      where
        facts : StateHas (certificate_facts holds w.now.here.seat) w.now
        facts = subst (λ (p : Seat). StateHas (certificate_facts holds p) w.now) (sym h.place) h.now.facts

        out : (global : Bool) → OutHas holds seat (make_report w.now.here w.now.slots (base_proof w.now) global)
        out global =
            subst (λ (p : Seat). OutHas holds p (make_report w.now.here w.now.slots (base_proof w.now) global)) h.place
            (makes_report_has holds w.now.here w.now.slots (base_proof w.now) global facts.prepared facts.accepted
            (either_has (IsOrder holds w.now.here.seat w.now.here.executed) (nat_eq w.now.here.executed 0) None (w.now.log.proof w.now.here.executed) tt (facts.proof w.now.here.executed)))

        by : (global : Bool) → WayHas (reports_as pen w (make_report w.now.here w.now.slots (base_proof w.now) global))
        by false = reports_as_way w _ _ _ h (out false)
        by true = reports_as_way w _ _ _ h (out true)

    -- a Reply
    replies_way : (w : Course) (x : Change) (u : Update) → WayHas (records w x) → WayHas (makes pen (records w x) (reply_to w.now u) forms.Reply (to_client_at u.client.0))
    unfolding makes
    replies_way w x u r =
        let s : Statement = reply_to w.now u in
        emits_way (records (records w x) (Made (records w x).now.here.leaf s)) (Make s forms.Reply (to_client_at u.client.0)) (records_way (records w x) (Made (records w x).now.here.leaf s) r (refl, tt)) tt

    -- Each step of a course keeps it.
    pub way_is_kept : IsKeptWhere pen WayHas Cw Mw Ow
    way_is_kept =
        record {
          recording = records_way;
          keeping = keeps_way;
          emitting = emits_way;
          reporting = λ w x global e h c r. reports_way (records w x) global r;
          replying = λ w x u runs goes h c r. replies_way w x u r;
        }

    -- ---- steps that fit

    -- what a part keeps may be kept
    kept_heard : (w : Course) (m : Heard) → HeardHas holds seat m → Mw w m
    kept_heard w m h = (λ e. let g = h.0 e in (g.0, g.1, asks_not seat.sites w.now m.message g.2), h.1)

    -- a step of which all this holds
    step_fits : (w : Course) (step : Step) → StepHas (ChangeHas holds seat) (HeardHas holds seat) (OutHas holds seat) step → StepFits pen WayHas Cw Mw Ow w step
    step_fits w step h = (
      each_change pen WayHas Cw Mw Ow (ChangeHas holds seat) (λ w x c. (c.0, c.1 w.now.here)) w step.changes h.changes,
      (
        λ q. each_heard pen WayHas Cw Mw Ow (HeardHas holds seat) kept_heard _ step.heard h.heard,
        λ q. each_out pen WayHas Cw Mw Ow (OutHas holds seat) (λ w o c. c) _ step.out h.out,
      ),
    )

    -- an answer
    pub answer_fits : (state : Answers) (a : Answer) → AnswerHas (ChangeHas holds seat) (HeardHas holds seat) (OutHas holds seat) a → AnswerFits pen WayHas Cw Mw Ow state a
    answer_fits state (Refused reason) h = tt
    answer_fits state (Steps step) h = step_fits (begins state) step h

    -- the fill
    pub fills_fit : (w : Course) → WayHas w → StepFits pen WayHas Cw Mw Ow w (fill_at w.now)
    fills_fit w h =
        step_fits w (fill_at w.now)
        (subst (λ (p : Seat). StepHas (ChangeHas holds p) (HeardHas holds p) (OutHas holds p) (fill_at w.now)) h.place
        (fill_has holds w.now.here w.now.slots w.now.pending (forced_of w.now.here w.now.unions)))

    -- numbers that are executed, each the next
    executions_fit : (here : Here) (same : here.seat ≡ seat) (hand : Hand) (k n : ℕ) (w : Course) → w.now.here.executed + 1 ≡ n → InHand holds here hand → ChangesFit pen WayHas Cw Mw Ow w (executions here hand k n)
    unfolding executions
    executions_fit here same hand zero n w e h = tt
    executions_fit here same hand (suc k) n w e h =
        chosen (IsOrder holds here.seat n) (ChangesFit pen WayHas Cw Mw Ow w) (in_hand here hand n) [] (λ p. Executed (record { 0 = n }) p ∷ executions here hand k (n + 1)) (in_hand_has holds here hand n h) tt
        (λ p g. (
          (subst (λ (s : Seat). IsOrder holds s n p) same g, sym e),
          λ q.
              executions_fit here same hand k (n + 1) (carries_change pen w (Executed (record { 0 = n }) p))
              (let more = executed_more pen w n p in omega (arith, more, e)) h,
        ))

-- ---- parts that are looked at on the course

module _ (holds : Who → Statement → Bytes → Bool) (pen : Pen) (state : Answers) (s : AnswersHave holds state.here.seat state) where
  -- at this server
  abbrev seat : Seat
  seat = state.here.seat

  -- an answer that fits
  abbrev pub Fits : Answer → Type 0
  Fits a = AnswerFits pen (WayHas holds state.here.seat) (Cw holds state.here.seat) (Mw holds state.here.seat) (Ow holds state.here.seat) state a

  -- a message is kept, and what then is in hand is executed
  pub executes_fit : (m : Message) → Brings holds seat m → OfSite holds seat m → AsksNot m → Fits (Steps (keeps_and_executes state.here state.hand m))
  unfolding begins
  executes_fit m h o n =
      let heard : Heard = record { own = false; message = m } in
      let hand : Hand = hand_cuts state.here (hand_takes heard state.hand) in
      let facts : HandHas (certificate_facts holds seat) hand =
      hand_cuts_has (certificate_facts holds seat) (certificates_are_picked holds seat) state.here (hand_takes heard state.hand)
      (hand_takes_has (certificate_facts holds seat) (certificates_are_picked holds seat) heard state.hand s.facts.hand (λ e. (h, o))) in (
        executions_fit holds seat pen state.here refl hand WINDOW (state.here.executed + 1) (begins state) refl
            (record { has = facts.word; proof = facts.proof; level = at_highest state.here (hand_takes heard state.hand) (none_above_takes heard state.hand s.level) }),
        (λ q. (((λ e. (h, o, asks_not seat.sites (carries_changes pen (begins state) (keeps_and_executes state.here state.hand m).changes).now m n)), λ e. absurd (let no : false ≡ true = e in cc)), λ r. tt), λ q. tt),
      )

  -- a site's certificate that asks for a view: with it exactly a majority asks, or fewer do
  pub global_vc_fits : (site view : ℕ) (q : Quorum) → Brings holds seat (messages.Certificate (a_global_vc site view) q) → Fits (on_global_vc state.here state.votes site view q)
  unfolding begins
  global_vc_fits site view q h =
      decides_fits Fits (λ reason. tt)
      (other_view state.here (nat_le view state.here.view)
      ∷ bound view
      ∷ seen (given (state.votes.asked site) false (λ a. nat_le view a.view))
      ∷ spent state.here (one_if done)
      ∷ [])
      (then (keeping certificate) (when done (recording change)))
      (λ none. by none.1.1.0 done refl)
    where
      certificate : Message
      certificate = messages.Certificate (a_global_vc site view) q

      asked : ℕ → Option Asked
      asked = with_asked state.votes.asked site view q

      done : Bool
      done = nat_le (majority state.here) (count_below (λ s. asks_for view (asked s)) seat.sites)

      change : Change
      change = EnterGlobal (record { 0 = view }) (all_below (word_for view asked) seat.sites)

      all : (t : ℕ) (b : Bool) → nat_eq site t ≡ b → IfSome (cond b (Some (record { view = view; quorum = q })) (state.votes.asked t)) (λ (a : Asked). Certifies holds seat (a_global_vc t a.view) a.quorum)
      all t true e = subst (λ n. Certifies holds seat (a_global_vc n view) q) (eqb-true site t e) h
      all t false e = s.facts.asked t

      by : given (state.votes.asked site) false (λ a. nat_le view a.view) ≡ false → (b : Bool) → done ≡ b → Fits (Steps (then (keeping certificate) (when b (recording change))))
      by higher true e =
          let enough = leb-true (majority state.here) (asking seat.sites view asked) e in
          let exact = exactly_ask seat.sites state.votes.asked site view q s.few enough in
          let entered : Course = carries_changes pen (begins state) (change ∷ []) in
          let above = view_after pen (begins state) view (all_below (word_for view asked) seat.sites) in (
            ((asked_has holds state.here view asked (λ t. all t (nat_eq site t) refl) exact, tt), λ w. tt),
            (
              λ w. (
                (
                  (λ o. (h, tt, few_without seat.sites entered.now.votes.asked site view q w.now.few (entered.now.here.view + 1) (omega (arith, above)))),
                  λ o. absurd (let no : false ≡ true = o in cc),
                ),
                λ r. tt,
              ),
              λ w. tt,
            ),
          )
      by higher false e =
          let fewer = leb-false (majority state.here) (asking seat.sites view asked) e in (
            tt,
            (
              λ w. (
                (
                  (λ o. (h, tt, few_with seat.sites state.votes.asked site view q s.few higher fewer (state.here.view + 1))),
                  λ o. absurd (let no : false ≡ true = o in cc),
                ),
                λ r. tt,
              ),
              λ w. tt,
            ),
          )
