-- What a server's Replies say is in its log, on the way through an event and after it.
use Rattle.std.proofs.Common.{◌≡◌, ℕ, Bool, true, false, cond, nat_eq, nat_lt, zero, suc, List, [], ◌∷◌, ◌++◌, length, refl, sym, ◌∙◌, ap, subst, append-nil, arith}
use Rattle.std.proofs.lemmas.Bool.{and_parts}
use Rattle.std.proofs.lemmas.List.{length-append}
use Rattle.std.specs.Prelude.{◌&&◌, ◌%◌, Some, None, slice_get}
use Rattle.std.specs.List.{AllByRecursion as Each}
use Rattle.st_words.specs.declared.value.Update.{Update}
use Rattle.st_words.specs.declared.value.Value.{Value}
use Rattle.st_words.specs.declared.value.Value.TheVariants as values
use Rattle.st_words.specs.declared.statement.Statement.{Statement}
use Rattle.st_words.specs.declared.statement.Statement.TheVariants.{Reply}
use Rattle.st_message.specs.declared.log.Entry.{Entry}
use Rattle.st_message.specs.declared.log.Ran.TheVariants as outcomes
use Rattle.st_message.specs.declared.event.Plan.{Plan}
use Rattle.st_message.specs.declared.event.Scope.{Scope}
use Rattle.st_message.specs.declared.change.Change.{Change}
use Rattle.st_message.specs.declared.change.Change.TheVariants.{EnterLocal, EnterGlobal, Made, Prepared, Accepted, Union, Executed}
use Rattle.st_message.specs.declared.change.Heard.{Heard}
use Rattle.st_message.specs.declared.reason.Reason.{Reason}
use Rattle.st_message.specs.declared.step.Form.{Form}
use Rattle.st_message.specs.declared.step.Form.TheVariants as forms
use Rattle.st_message.specs.declared.step.Out.{Out}
use Rattle.st_message.specs.declared.step.Out.TheVariants.{Make}
use Rattle.st_message.specs.declared.step.Step.{Step}
use Rattle.st_protocol.specs.Words.{to_client_at}
use Rattle.st_protocol.specs.Keeping.{gathered, joined}
use Rattle.st_protocol.specs.State.{Seat, Answers}
use Rattle.st_protocol.specs.Questions.{values_by, executed_in, ran_by, runs, log_of, here_of, questions}
use Rattle.st_protocol.specs.Growth.{notes, takes, cuts, after, hears}
use Rattle.st_protocol.specs.Step.{Answer, Refused, Steps}
use Rattle.st_protocol.specs.Forced.{forced_of}
use Rattle.st_protocol.specs.Collecting.{make_report}
use Rattle.st_protocol.specs.Duty.{Event, Reading, Pen, sealed, Course, begins, records, keeps, puts, emits, makes, reports_as, base_proof, reports, of_event, course, did, ignored, plan_of, duty}
use Rattle.st_protocol.proofs.GatherLaws.{joined-push}
use Rattle.st_protocol.proofs.QuestionLaws.{one_body}
use Rattle.st_protocol.proofs.CourseLaws.{Follows, course_follows}
use Rattle.st_frame_laws.proofs.ChoiceLaws.{append_all, each_any, each_weaker}
use Rattle.st_frame_laws.proofs.CourseFrame.{IsKeptWhere, StepFits, AnswerFits, each_change, each_heard, each_out, answers_client, reply_to, fill_at, kept_plan}
use Rattle.st_result_laws.specs.Results.{entry_of, IsRunAt}
use Rattle.st_result_laws.proofs.ReplyParts.{IsNoReply, MakesNoReply, StepMakesNoReply, AnswerMakesNoReply, fill_none, event_none}

-- ---- entries at their places

-- with more behind
pub still_there : {A : Type 0} (xs ys : List A) (k : ℕ) (x : A) → slice_get xs k ≡ Some x → slice_get (xs ++ ys) k ≡ Some x
still_there [] ys k x e = absurd (let no : None ≡ Some x = e in cc)
still_there (y ∷ xs) ys zero x e = e
still_there (y ∷ xs) ys (suc k) x e = still_there xs ys k x e

-- the last
last_there : {A : Type 0} (xs : List A) (x : A) → slice_get (xs ++ x ∷ []) (length xs) ≡ Some x
last_there [] x = refl
last_there (y ∷ xs) x = last_there xs x

-- ---- what a Reply says

-- a Reply says what the log has at its number
abbrev pub Says : List Entry → Statement → Type 0
Says log (Reply site client time number result) = IsRunAt log client.0 time (record { number = number.0; result = result })
Says log _ = Unit {0}

-- so of what a change makes
abbrev pub ChangeSays : List Entry → Change → Type 0
ChangeSays log (Made leaf s) = Says log s
ChangeSays log _ = Unit {0}

-- a longer log has it still
says_more : (log : List Entry) (entry : Entry) (s : Statement) → Says log s → Says (log ++ entry ∷ []) s
says_more log entry (Reply site client time number result) h =
    record {
      update = h.update;
      of_client = h.of_client;
      of_time = h.of_time;
      before = h.before;
      place = h.place;
      there = still_there log (entry ∷ []) h.before (entry_of h.update (record { number = number.0; result = result })) h.there;
    }
says_more log entry _ h = tt

-- so of what a change makes
change_more : (log : List Entry) (entry : Entry) (x : Change) → ChangeSays log x → ChangeSays (log ++ entry ∷ []) x
change_more log entry (Made leaf s) h = says_more log entry s h
change_more log entry _ h = tt

-- what is no Reply says nothing
none_says : (log : List Entry) (s : Statement) → IsNoReply s → Says log s
none_says log (Reply site client time number result) h = absurd h
none_says log _ h = tt

-- nor does a change that makes none
change_says : (log : List Entry) (x : Change) → MakesNoReply x → ChangeSays log x
change_says log (Made leaf s) h = none_says log s h
change_says log _ h = tt

-- ---- the course

module _ (bodies : List (List Change)) where
  -- On the way through an event: as many numbers are executed as the log has, and all Replies say what it has.
  pub record SaysWay (w : Course) : Type 0 where
    pub counts : w.now.here.executed ≡ length w.now.log.run.entries
    pub old : Each (ChangeSays w.now.log.run.entries) (joined bodies)
    pub new : Each (ChangeSays w.now.log.run.entries) w.changes

  -- a change is recorded, of which what it makes says what the log has
  records_says : (w : Course) (x : Change) → SaysWay w → ChangeSays w.now.log.run.entries x → SaysWay (records w x)
  unfolding records after notes cuts runs
  records_says w (Executed n p) h c =
      let log : List Entry = w.now.log.run.entries in
      let entry : Entry = record { value = p.value; ran = ran_by w.now.here.seat.serve w.now.log.run p.value } in
      let grows : (x : Change) → ChangeSays log x → ChangeSays (log ++ entry ∷ []) x = change_more log entry in
      record {
        counts = let so = h.counts in let longer = length-append log (entry ∷ []) in omega (arith, so, longer);
        old = each_weaker (ChangeSays log) (ChangeSays (log ++ entry ∷ [])) grows (joined bodies) h.old;
        new = append_all (ChangeSays (log ++ entry ∷ [])) w.changes (Executed n p ∷ []) (each_weaker (ChangeSays log) (ChangeSays (log ++ entry ∷ [])) grows w.changes h.new) (tt, tt);
      }
  records_says w x h c = record { counts = h.counts; old = h.old; new = append_all (ChangeSays w.now.log.run.entries) w.changes (x ∷ []) h.new (c, tt) }

  -- something heard is kept
  keeps_says : (w : Course) (m : Heard) → SaysWay w → SaysWay (keeps w m)
  unfolding keeps hears takes cuts
  keeps_says w m h = record { counts = h.counts; old = h.old; new = h.new }

  -- something goes out
  emits_says : (pen : Pen) (w : Course) (o : Out) → SaysWay w → SaysWay (emits pen w o)
  unfolding emits puts
  emits_says pen w o h = record { counts = h.counts; old = h.old; new = h.new }

  -- the report of a view
  reports_as_says : (pen : Pen) (w : Course) (s : Statement) (form : Form) (to : Scope) → IsNoReply s → SaysWay w → SaysWay (reports_as pen w (Make s form to))
  unfolding reports_as
  reports_as_says pen w s form to none h =
      let made : Course = records w (Made w.now.here.leaf s) in
      keeps_says (emits pen made (Make s form to)) (record { own = true; message = (sealed pen made.now (Make s form to)).message })
      (emits_says pen made (Make s form to) (records_says w (Made w.now.here.leaf s) h (none_says w.now.log.run.entries s none)))

  -- the one that is made of a view that was entered
  reports_says : (pen : Pen) (w : Course) (global : Bool) → SaysWay w → SaysWay (reports pen global w)
  unfolding reports
  reports_says pen w global h = by global
    where
      by : (global : Bool) → SaysWay (reports_as pen w (make_report w.now.here w.now.slots (base_proof w.now) global))
      by false = reports_as_says pen w _ _ _ tt h
      by true = reports_as_says pen w _ _ _ tt h

  -- the Reply to an update that is executed
  reply_says : (w : Course) (x : Change) (u : Update) → values_by x ≡ values.Update u ∷ [] → answers_client w.now u ≡ true → SaysWay w → Says (records w x).now.log.run.entries (reply_to w.now u)
  unfolding records after notes cuts runs
  reply_says w (Executed n p) u e goes h =
      let log : List Entry = w.now.log.run.entries in
      let is : p.value ≡ values.Update u = first_of p.value (values.Update u) e in
      let later : Bool = nat_lt (w.now.log.run.last u.client.0) u.time in
      let home : Bool = nat_eq (u.client.0 % w.now.here.seat.sites) w.now.here.seat.site in
      let test : nat_lt (w.now.log.run.last u.client.0) u.time ≡ true = (and_parts later home (and_parts (later && home) (nat_lt w.now.here.leaf w.now.here.seat.capacity) goes).0).0 in
      record {
        update = u;
        of_client = refl;
        of_time = refl;
        before = length log;
        place = let so = h.counts in omega (arith, so);
        there =
            last_there log (record { value = p.value; ran = ran_by w.now.here.seat.serve w.now.log.run p.value })
            ∙ (ap (λ (v : Value). Some (record { value = v; ran = ran_by w.now.here.seat.serve w.now.log.run v })) is
            ∙ ap (λ b. Some (record { value = values.Update u; ran = cond b (outcomes.Ran (w.now.here.seat.serve w.now.log.run.ran u.op)) (outcomes.Skipped (w.now.log.run.last u.client.0)) })) test);
      }
    where
      first_of : (v t : Value) → v ∷ [] ≡ t ∷ [] → v ≡ t
      first_of v t f = cc
  reply_says w (EnterLocal y q) u e goes h = absurd (let no : [] ≡ values.Update u ∷ [] = e in cc)
  reply_says w (EnterGlobal y words) u e goes h = absurd (let no : [] ≡ values.Update u ∷ [] = e in cc)
  reply_says w (Made leaf s) u e goes h = absurd (let no : [] ≡ values.Update u ∷ [] = e in cc)
  reply_says w (Prepared s q) u e goes h = absurd (let no : [] ≡ values.Update u ∷ [] = e in cc)
  reply_says w (Accepted s q) u e goes h = absurd (let no : [] ≡ values.Update u ∷ [] = e in cc)
  reply_says w (Union s q) u e goes h = absurd (let no : [] ≡ values.Update u ∷ [] = e in cc)

  -- it is made and goes out
  replies_says : (pen : Pen) (w : Course) (x : Change) (u : Update) → values_by x ≡ values.Update u ∷ [] → answers_client w.now u ≡ true → SaysWay w → SaysWay (records w x) →
      SaysWay (makes pen (records w x) (reply_to w.now u) forms.Reply (to_client_at u.client.0))
  unfolding makes
  replies_says pen w x u e goes h r =
      let s : Statement = reply_to w.now u in
      emits_says pen (records (records w x) (Made (records w x).now.here.leaf s)) (Make s forms.Reply (to_client_at u.client.0))
      (records_says (records w x) (Made (records w x).now.here.leaf s) r (reply_says w x u e goes h))

  -- what is asked of a change that a step has; of what is heard and what goes out nothing is
  abbrev Cs : Course → Change → Type 0
  Cs w x = MakesNoReply x

  -- of what is kept as heard
  abbrev Ms : Course → Heard → Type 0
  Ms w m = Unit {0}

  -- of what goes out
  abbrev Os : Course → Out → Type 0
  Os w o = Unit {0}

  -- Each step of a course keeps it.
  says_is_kept : (pen : Pen) → IsKeptWhere pen SaysWay Cs Ms Os
  says_is_kept pen =
      record {
        recording = λ w x h c. records_says w x h (change_says w.now.log.run.entries x c);
        keeping = λ w m h c. keeps_says w m h;
        emitting = λ w o h c. emits_says pen w o h;
        reporting = λ w x global e h c r. reports_says pen (records w x) global r;
        replying = λ w x u e goes h c r. replies_says pen w x u e goes h r;
      }

  -- a step that makes no Reply
  step_fits : (pen : Pen) (w : Course) (step : Step) → StepMakesNoReply step → StepFits pen SaysWay Cs Ms Os w step
  step_fits pen w step h = (
    each_change pen SaysWay Cs Ms Os MakesNoReply (λ w x c. c) w step.changes h,
    (
      λ q. each_heard pen SaysWay Cs Ms Os (λ m. Unit {0}) (λ w m c. c) _ step.heard (each_any step.heard),
      λ q. each_out pen SaysWay Cs Ms Os (λ o. Unit {0}) (λ w o c. c) _ step.out (each_any step.out),
    ),
  )

  -- the fill
  fills_fit : (pen : Pen) (w : Course) → SaysWay w → StepFits pen SaysWay Cs Ms Os w (fill_at w.now)
  fills_fit pen w h = step_fits pen w (fill_at w.now) (fill_none w.now.here w.now.slots w.now.pending (forced_of w.now.here w.now.unions))

  -- an answer
  answer_fits : (pen : Pen) (state : Answers) (a : Answer) → AnswerMakesNoReply a → AnswerFits pen SaysWay Cs Ms Os state a
  answer_fits pen state (Refused reason) h = tt
  answer_fits pen state (Steps step) h = step_fits pen (begins state) step h

-- ---- records

-- A server's records: as many numbers are executed as its log has, and all Replies say what it has.
pub record RepliesSay (seat : Seat) (bodies : List (List Change)) : Type 0 where
  pub counts : (here_of seat (joined bodies)).executed ≡ length (log_of seat (joined bodies)).run.entries
  pub says : Each (ChangeSays (log_of seat (joined bodies)).run.entries) (joined bodies)

-- before anything is recorded
pub first_say : (seat : Seat) → RepliesSay seat []
unfolding joined gathered here_of executed_in
first_say seat = record { counts = refl; says = tt }

-- as the answers say it
of_answers : (seat : Seat) (bodies : List (List Change)) (heard : List Heard) (state : Answers) → state ≡ questions seat bodies heard → state.here.executed ≡ length state.log.run.entries →
    Each (ChangeSays state.log.run.entries) (joined bodies) → RepliesSay seat bodies
unfolding questions
of_answers seat bodies heard state e counts says =
    record {
      counts = subst (λ (q : Answers). q.here.executed ≡ length q.log.run.entries) e counts;
      says = subst (λ (q : Answers). Each (ChangeSays q.log.run.entries) (joined bodies)) e says;
    }

module _ (seat : Seat) (bodies : List (List Change)) (heard : List Heard) (b : RepliesSay seat bodies) where
  -- so where an event begins
  counts_first : (questions seat bodies heard).here.executed ≡ length (questions seat bodies heard).log.run.entries
  unfolding questions
  counts_first = b.counts

  -- what the Replies say there
  says_first : Each (ChangeSays (questions seat bodies heard).log.run.entries) (joined bodies)
  unfolding questions
  says_first = b.says

  -- the course before its first step
  begins_says : SaysWay bodies (begins (questions seat bodies heard))
  unfolding begins
  begins_says = record { counts = counts_first; old = says_first; new = tt }

  -- what is claimed of a plan
  abbrev PlanSays : Plan → Type 0
  PlanSays plan = RepliesSay seat (bodies ++ plan.changes ∷ [])

  -- of an event that is ignored
  ignored_says : (reason : Reason) → PlanSays (ignored reason)
  ignored_says reason =
      of_answers seat (bodies ++ [] ∷ []) heard (questions seat bodies heard) (sym (one_body seat bodies heard [])) counts_first
      (subst (Each (ChangeSays (questions seat bodies heard).log.run.entries)) (sym (joined-push bodies [] ∙ append-nil (joined bodies))) says_first)

  -- of one that did something
  did_says : (pen : Pen) (step : Step) → SaysWay bodies (course pen (questions seat bodies heard) step) → PlanSays (did (course pen (questions seat bodies heard) step))
  unfolding Follows
  did_says pen step w =
      let way : Course = course pen (questions seat bodies heard) step in
      of_answers seat (bodies ++ way.changes ∷ []) (heard ++ way.heard) way.now (course_follows seat bodies heard pen step) w.counts
      (subst (Each (ChangeSays way.now.log.run.entries)) (sym (joined-push bodies way.changes)) (append_all (ChangeSays way.now.log.run.entries) (joined bodies) way.changes w.old w.new))

  -- Every duty keeps it.
  pub duty_says : {Wire : Type 0} (read : Wire → Reading) (pen : Pen) (event : Event Wire) → RepliesSay seat (bodies ++ (duty read pen seat bodies heard event).changes ∷ [])
  unfolding plan_of
  duty_says read pen event =
      kept_plan pen (SaysWay bodies) (Cs bodies) (Ms bodies) (Os bodies) (says_is_kept bodies pen) (fills_fit bodies pen) PlanSays (questions seat bodies heard) ignored_says (did_says pen)
      (of_event read (questions seat bodies heard) event) begins_says
      (answer_fits bodies pen (questions seat bodies heard) (of_event read (questions seat bodies heard) event) (event_none (questions seat bodies heard) read event))
