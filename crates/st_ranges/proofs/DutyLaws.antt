-- The duty of a server keeps ranges.
use Rattle.std.proofs.Common.{◌≡◌, ◌∙◌, ap, refl, sym, subst, inl, inr, ℕ, ◌+◌, ◌≤◌, List, [], ◌∷◌, ◌++◌, arith}
use Rattle.std.specs.List.{AllByRecursion as Each}
use Rattle.st_words.specs.declared.kind.StatementKind.TheVariants as kinds
use Rattle.st_words.specs.declared.statement.Statement.{Statement}
use Rattle.st_words.specs.declared.statement.Statement.TheVariants.{Prepare, Proposal, Accept, LocalVc, GlobalVc, LocalUnion, GlobalUnion}
use Rattle.st_words.specs.Ranges.{most_base, FitsStatement}
use Rattle.st_seal.specs.declared.quorum.Signed.{Signed}
use Rattle.st_message.specs.declared.message.ReportBody.{ReportBody}
use Rattle.st_message.specs.declared.message.ViewWords.{ViewWords}
use Rattle.st_message.specs.declared.message.ViewWords.TheVariants as view_words
use Rattle.st_message.specs.declared.message.Message.{Message}
use Rattle.st_message.specs.declared.message.Message.TheVariants as messages
use Rattle.st_message.specs.declared.change.Change.{Change}
use Rattle.st_message.specs.declared.change.Change.TheVariants.{Prepared, Accepted, Union}
use Rattle.st_message.specs.declared.change.Heard.{Heard}
use Rattle.st_message.specs.declared.reason.Reason.TheVariants.{NotBuilt}
use Rattle.st_message.specs.declared.step.Step.{Step}
use Rattle.st_wire.specs.Ranges.{KeepsCore}
use Rattle.st_protocol.specs.Words.{Quorum}
use Rattle.st_protocol.specs.Keeping.{count_of, joined}
use Rattle.st_protocol.specs.State.{OfLocal, OfGlobal, report_of, Seat, Here, Answers}
use Rattle.st_protocol.specs.Questions.{is_executed, here_of, questions}
use Rattle.st_protocol.specs.Step.{Answer, Refused, Steps, recording}
use Rattle.st_protocol.specs.Forced.{forced_of}
use Rattle.st_protocol.specs.Assigning.{fill}
use Rattle.st_protocol.specs.Duty.{Event, Deliver, LocalTimeout, GlobalTimeout, Tick, Reading, Faulty, Clean, Pen, Course, begins, carries, of_share, of_certificate, of_local_words, of_view_proof, union_made, of_bundle, of_kind, is_built_message, of_message, of_reading, of_event, fills_up, course, plan_by, plan_of, duty}
use Rattle.st_protocol.proofs.QuestionLaws.{one_body}
use Rattle.st_protocol.proofs.CourseLaws.{Follows, course_follows}
use Rattle.st_ranges.specs.Ranges.{QuorumInRange, MessageInRange, ReadingInRange, EventInRange, ChangeInRange, HeardInRange, StandsIn, IsReportOf, view_of, local_view_of, ListsInRange, PlanInRange, PenKeeps, SeatInRange}
use Rattle.st_ranges.proofs.ChoiceLaws.{either, append_all}
use Rattle.st_ranges.proofs.RisingLaws.{each_weaker}
use Rattle.st_ranges.proofs.StateLaws.{Top, top_of, ChangeAt, HeardAt, StateInRange, here_is, questions_in_range}
use Rattle.st_ranges.proofs.CourseLaws.{CourseInRange, StepInRange, carries_in_range}
use Rattle.st_ranges.proofs.StepLaws.{recording_stands, AnswerInRange}
use Rattle.st_ranges.proofs.FillLaws.{fill_in_range}
use Rattle.st_ranges.proofs.PartLaws.{local_timeout_answer, global_timeout_answer, update_answer, assign_answer, prepare_answer, proposal_share_answer, accept_share_answer, proposal_answer, accept_answer, order_proof_answer}
use Rattle.st_ranges.proofs.ViewLaws.{local_share_answer, local_proof_answer, global_share_answer, global_vc_answer, view_proof_answer, report_answer, bundle_answer, union_share_answer, union_answer, ask_answer}
use Rattle.st_ranges.proofs.TickLaws.{tick_in_range}

module _ (state : Answers) (inside : StateInRange (top_of state.here) state) where
  -- a share
  share_answer : (s : Statement) (signed : Signed) → MessageInRange (messages.Share s signed) → AnswerInRange (top_of state.here) state (of_share state s signed)
  share_answer (Prepare site view local number value) signed h =
      prepare_answer state inside site.0 view.0 local.0 number.0 value signed (h.0.0.1, h.1.0) (h.0.1, h.1.1)
  share_answer (Proposal site view local number value) signed h =
      proposal_share_answer state inside site.0 view.0 local.0 number.0 value signed (h.0.0.1, h.1.0) (h.0.1, h.1.1)
  share_answer (Accept site view number value) signed h = accept_share_answer state inside site.0 view.0 number.0 value signed (h.0.0.1, h.1.0) (h.0.1, h.1.1)
  share_answer (LocalVc site local) signed h = local_share_answer state inside site.0 local.0 signed (h.0.0.1, h.1.0) (h.0.1, h.1.1)
  share_answer (GlobalVc site view) signed h = global_share_answer state inside site.0 view.0 signed (h.0.0.1, h.1.0) (h.0.1, h.1.1)
  share_answer (LocalUnion site local greatest base items) signed h =
      union_share_answer state inside (OfLocal local.0) (LocalUnion site local greatest base items) signed h.0.0 (refl, h.0.0.1) h.1.0 (h.0.1, h.1.1)
  share_answer (GlobalUnion site view base items) signed h =
      union_share_answer state inside (OfGlobal view.0) (GlobalUnion site view base items) signed h.0.0 (refl, h.0.0.1) h.1.0 (h.0.1, h.1.1)
  share_answer _ signed h = tt

  -- a union that is recorded
  union_stands : (s : Statement) (q : Quorum) → KeepsCore (kinds.LocalUnion ∷ kinds.GlobalUnion ∷ []) s → FitsStatement s → QuorumInRange q →
      StepInRange (top_of state.here) state (recording (Union s q))
  union_stands s q core fits quorums = inl (recording_stands (top_of state.here) state (Union s q) tt ((core, fits, quorums), tt))

  -- a certificate
  certificate_answer : (s : Statement) (q : Quorum) → MessageInRange (messages.Certificate s q) → AnswerInRange (top_of state.here) state (of_certificate state s q)
  certificate_answer (Proposal site view local number value) q h =
      proposal_answer state inside site.0 view.0 local.0 number.0 value q (h.0.0.1, h.1.0) (h.0.1, h.1.1)
  certificate_answer (Accept site view number value) q h = accept_answer state inside site.0 view.0 number.0 value q (h.0.0.1, h.1.0) (h.0.1, h.1.1)
  certificate_answer (GlobalVc site view) q h = global_vc_answer state inside site.0 view.0 q (h.0.0.1, h.1.0) (h.0.1, h.1.1)
  certificate_answer (LocalUnion site local greatest base items) q h =
      union_answer state inside (state.unions (OfLocal local.0) site.0) (LocalUnion site local greatest base items) q
      (union_stands (LocalUnion site local greatest base items) q (refl, h.0.0.1) h.1.0 (h.0.1, h.1.1))
  certificate_answer (GlobalUnion site view base items) q h =
      union_answer state inside (state.unions (OfGlobal view.0) site.0) (GlobalUnion site view base items) q
      (union_stands (GlobalUnion site view base items) q (refl, h.0.0.1) h.1.0 (h.0.1, h.1.1))
  certificate_answer _ q h = tt

  -- the proof of a local view
  local_words_answer : (s : Statement) (q : Quorum) → MessageInRange (messages.ViewProof (view_words.Local s q)) → AnswerInRange (top_of state.here) state (of_local_words state s q)
  local_words_answer (LocalVc site local) q h = local_proof_answer state inside site.0 local.0 q (h.0.0.1, h.1.0) (h.0.1, h.1.1)
  local_words_answer _ q h = tt

  -- the proof of a view
  view_words_answer : (words : ViewWords) → MessageInRange (messages.ViewProof words) → AnswerInRange (top_of state.here) state (of_view_proof state words)
  view_words_answer (view_words.Local s q) h = local_words_answer s q h
  view_words_answer (view_words.Global view sites) h = view_proof_answer state inside view.0 sites h.1.0 (h.0.1, h.1.1)

  -- reports
  reports_answer : (rs : List ReportBody) → MessageInRange (messages.Bundle rs) → AnswerInRange (top_of state.here) state (of_bundle state rs)
  reports_answer [] h = tt
  reports_answer (r ∷ rs) h = bundle_answer state inside (union_made state (report_of r.statement)) r rs h

  module _ (few : state.here.executed ≤ most_base) where
    -- the part that takes a message
    kind_answer : (m : Message) → MessageInRange m → AnswerInRange (top_of state.here) state (of_kind state m)
    kind_answer (messages.Update u seal) h = update_answer state inside u seal h
    kind_answer (messages.Assign view local number value client_seal signed) h =
        assign_answer state inside (forced_of state.here state.unions) view.0 local.0 number.0 value client_seal signed
        ((h.0.0, h.0.1), (inside.here.seat.site, h.1.0, h.1.1, h.1.2, h.1.3)) (h.0.3, h.1.4)
    kind_answer (messages.Share s signed) h = share_answer s signed h
    kind_answer (messages.Certificate s q) h = certificate_answer s q h
    kind_answer (messages.OrderProof number p) h = order_proof_answer state inside number.0 p h
    kind_answer (messages.Report r) h = report_answer state inside r h
    kind_answer (messages.Bundle rs) h = reports_answer rs h
    kind_answer (messages.ViewProof words) h = view_words_answer words h
    kind_answer (messages.Ask server executed view local) h = ask_answer state inside few server executed view.0 local.0
    kind_answer (messages.Reply s signed) h = tt

    -- a message, whether or not its part is built
    message_answer : (m : Message) → MessageInRange m → AnswerInRange (top_of state.here) state (of_message state m)
    message_answer m h = either (AnswerInRange (top_of state.here) state) (is_built_message m) (of_kind state m) (Refused NotBuilt) (kind_answer m h) tt

    -- what a message on its way is read as
    reading_answer : (r : Reading) → ReadingInRange r → AnswerInRange (top_of state.here) state (of_reading state r)
    reading_answer (Faulty reason) h = tt
    reading_answer (Clean m) h = message_answer m h

    -- an event
    event_answer : {Wire : Type 0} (read : Wire → Reading) (event : Event Wire) → EventInRange read event → AnswerInRange (top_of state.here) state (of_event read state event)
    event_answer read (Deliver wire) h = reading_answer (read wire) h
    event_answer read LocalTimeout h = local_timeout_answer state inside (state.making.vc (OfLocal (state.here.local + 1)))
    event_answer read GlobalTimeout h = global_timeout_answer state inside (state.making.vc (OfGlobal (state.here.view + 1)))
    event_answer read Tick h =
        inr (inr (inl (record { no_change = refl; nothing_heard = refl; out = tick_in_range (top_of state.here) state inside (omega (arith, few)) })))

-- ---- the lists

-- where these lists leave the server
abbrev top_at : Seat → List (List Change) → Top
top_at seat records = record { site = seat.site; view = view_of records; local = local_view_of records }

-- a value of no later view than one is of no later view than a greater one
stands_more : (v w l m : ℕ) → v ≤ w → l ≤ m → (x : Change) → StandsIn v l x → StandsIn w m x
stands_more v w l m view local (Prepared (Prepare s g k n value) q) h =
    let at_view : g.0 ≤ v = h.0 in let at_local : k.0 ≤ l = h.1 in (omega (arith, at_view, view), omega (arith, at_local, local))
stands_more v w l m view local (Accepted (Proposal s g k n value) q) h = let at_view : g.0 ≤ v = h in omega (arith, at_view, view)
stands_more v w l m view local _ h = tt

-- how many numbers were executed
executed_counts : (seat : Seat) (records : List (List Change)) (heard : List Heard) → (questions seat records heard).here.executed ≡ count_of is_executed (joined records)
unfolding questions here_of
executed_counts seat records heard = refl

-- a body more, after which the server stands so
lists_with : (seat : Seat) (records : List (List Change)) (heard : List Heard) (changes : List Change) (added : List Heard) (here : Here) → ListsInRange seat records heard →
    Each (ChangeAt (top_at seat records)) changes → Each (HeardAt (top_at seat records)) added → top_of here ≡ top_at seat (records ++ changes ∷ []) →
    here.executed ≡ count_of is_executed (joined (records ++ changes ∷ [])) → here.executed ≤ most_base → view_of records ≤ here.view → local_view_of records ≤ here.local →
    ListsInRange seat (records ++ changes ∷ []) (heard ++ added)
lists_with seat records heard changes added here lists c a now counts few view local =
    let g : here.view ≡ view_of (records ++ changes ∷ []) = ap (λ (t : Top). t.view) now in
    let l : here.local ≡ local_view_of (records ++ changes ∷ []) = ap (λ (t : Top). t.local) now in
    let more : (x : Change) → StandsIn (view_of records) (local_view_of records) x → StandsIn (view_of (records ++ changes ∷ [])) (local_view_of (records ++ changes ∷ [])) x =
    stands_more (view_of records) (view_of (records ++ changes ∷ [])) (local_view_of records) (local_view_of (records ++ changes ∷ [])) (omega (arith, g, view)) (omega (arith, l, local))
    in
    record {
      changes = append_all (Each ChangeInRange) records (changes ∷ []) lists.changes (each_weaker (ChangeAt (top_at seat records)) ChangeInRange (λ x h. h.0) changes c, tt);
      messages = append_all HeardInRange heard added lists.messages (each_weaker (HeardAt (top_at seat records)) HeardInRange (λ m h. h.0) added a);
      stands =
          append_all (Each (StandsIn (view_of (records ++ changes ∷ [])) (local_view_of (records ++ changes ∷ [])))) records (changes ∷ [])
          (each_weaker (Each (StandsIn (view_of records) (local_view_of records))) (Each (StandsIn (view_of (records ++ changes ∷ [])) (local_view_of (records ++ changes ∷ []))))
          (λ xs h. each_weaker (StandsIn (view_of records) (local_view_of records)) (StandsIn (view_of (records ++ changes ∷ [])) (local_view_of (records ++ changes ∷ []))) more xs h)
          records lists.stands)
          (each_weaker (ChangeAt (top_at seat records)) (StandsIn (view_of (records ++ changes ∷ [])) (local_view_of (records ++ changes ∷ []))) (λ x h. more x h.1) changes c, tt);
      home =
          append_all (λ (m : Heard). IsReportOf seat.site m.message) heard added lists.home
          (each_weaker (HeardAt (top_at seat records)) (λ (m : Heard). IsReportOf seat.site m.message) (λ m h. h.1) added a);
      few = subst (λ n. n ≤ most_base) counts few;
    }

module _ (pen : Pen) (keeps : PenKeeps pen) where
  -- the fill
  fills_up_in_range : (top : Top) (way : Course) → CourseInRange top way → CourseInRange top (fills_up pen way)
  unfolding fills_up
  fills_up_in_range top way w =
      carries_in_range top pen keeps way (fill way.now.here way.now.slots way.now.pending (forced_of way.now.here way.now.unions)) w (inl (fill_in_range top way.now w.now))

  -- the course of an event
  course_in_range : (state : Answers) (step : Step) → state.here.executed ≤ most_base → StateInRange (top_of state.here) state → StepInRange (top_of state.here) state step →
      CourseInRange (top_of state.here) (course pen state step)
  unfolding course begins
  course_in_range state step few s h =
      fills_up_in_range (top_of state.here) (carries pen (begins state) step)
      (carries_in_range (top_of state.here) pen keeps (begins state) step
      (record { now = s; changes = tt; heard = tt; outputs = tt; few = few; home = refl; above = (omega arith, omega arith) }) h)

  -- an answer that is carried out
  plan_in_range : (seat : Seat) (bodies : List (List Change)) (heard : List Heard) (a : Answer) → SeatInRange seat → ListsInRange seat bodies heard →
      AnswerInRange (top_of (questions seat bodies heard).here) (questions seat bodies heard) a → PlanInRange seat bodies heard (plan_by pen (questions seat bodies heard) a)
  unfolding Follows
  plan_in_range seat bodies heard (Refused reason) inside lists h =
      let few : count_of is_executed (joined bodies) ≤ most_base = lists.few in
      let before : (questions seat bodies heard).here.executed ≡ count_of is_executed (joined bodies) = executed_counts seat bodies heard in
      let stays : questions seat (bodies ++ [] ∷ []) heard ≡ questions seat bodies heard = one_body seat bodies heard [] in
      let here : top_of (questions seat bodies heard).here ≡ top_at seat bodies = here_is seat bodies heard in
      let view : (questions seat bodies heard).here.view ≡ view_of bodies = ap (λ (t : Top). t.view) here in
      let local : (questions seat bodies heard).here.local ≡ local_view_of bodies = ap (λ (t : Top). t.local) here in
      record {
        lists =
            lists_with seat bodies heard [] [] (questions seat bodies heard).here lists tt tt
            (sym (ap (λ (q : Answers). top_of q.here) stays) ∙ here_is seat (bodies ++ [] ∷ []) heard)
            (sym (ap (λ (q : Answers). q.here.executed) stays) ∙ executed_counts seat (bodies ++ [] ∷ []) heard) (omega (arith, few, before)) (omega (arith, view)) (omega (arith, local));
        outputs = tt;
      }
  plan_in_range seat bodies heard (Steps step) inside lists h =
      let few : count_of is_executed (joined bodies) ≤ most_base = lists.few in
      let before : (questions seat bodies heard).here.executed ≡ count_of is_executed (joined bodies) = executed_counts seat bodies heard in
      let way : Course = course pen (questions seat bodies heard) step in
      let here : top_of (questions seat bodies heard).here ≡ top_at seat bodies = here_is seat bodies heard in
      let w : CourseInRange (top_at seat bodies) way =
      subst (λ t. CourseInRange t way) here
      (course_in_range (questions seat bodies heard) step (omega (arith, few, before)) (questions_in_range seat bodies heard inside lists) h)
      in
      let more : way.now ≡ questions seat (bodies ++ way.changes ∷ []) (heard ++ way.heard) = course_follows seat bodies heard pen step in
      record {
        lists =
            lists_with seat bodies heard way.changes way.heard way.now.here lists w.changes w.heard
            (ap (λ (q : Answers). top_of q.here) more ∙ here_is seat (bodies ++ way.changes ∷ []) (heard ++ way.heard))
            (ap (λ (q : Answers). q.here.executed) more ∙ executed_counts seat (bodies ++ way.changes ∷ []) (heard ++ way.heard)) w.few w.above.0 w.above.1;
        outputs = w.outputs;
      }

  -- The duty of a server.
  pub duty_in_range : {Wire : Type 0} (read : Wire → Reading) (seat : Seat) (bodies : List (List Change)) (heard : List Heard) (event : Event Wire) → SeatInRange seat →
      ListsInRange seat bodies heard → EventInRange read event → PlanInRange seat bodies heard (duty read pen seat bodies heard event)
  unfolding plan_of
  duty_in_range read seat bodies heard event h lists m =
      let few : count_of is_executed (joined bodies) ≤ most_base = lists.few in
      let before : (questions seat bodies heard).here.executed ≡ count_of is_executed (joined bodies) = executed_counts seat bodies heard in
      plan_in_range seat bodies heard (of_event read (questions seat bodies heard) event) h lists
      (event_answer (questions seat bodies heard) (questions_in_range seat bodies heard h lists) (omega (arith, few, before)) read event m)

  -- What the parts answer to a message.
  pub parts_in_range : (seat : Seat) (bodies : List (List Change)) (heard : List Heard) (m : Message) → SeatInRange seat → ListsInRange seat bodies heard → MessageInRange m →
      PlanInRange seat bodies heard (plan_by pen (questions seat bodies heard) (of_kind (questions seat bodies heard) m))
  parts_in_range seat bodies heard m h lists inside =
      let few : count_of is_executed (joined bodies) ≤ most_base = lists.few in
      let before : (questions seat bodies heard).here.executed ≡ count_of is_executed (joined bodies) = executed_counts seat bodies heard in
      plan_in_range seat bodies heard (of_kind (questions seat bodies heard) m) h lists
      (kind_answer (questions seat bodies heard) (questions_in_range seat bodies heard h lists) (omega (arith, few, before)) m inside)
