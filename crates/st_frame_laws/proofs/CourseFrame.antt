-- What each step of a course keeps, where all that is recorded, kept and sent on the way is as it should be, holds at
-- the end of the course.
use Rattle.std.proofs.Common.{◌≡◌, ◌+◌, Bool, true, false, cond, nat_eq, nat_lt, List, [], ◌∷◌, refl}
use Rattle.std.specs.Prelude.{◌&&◌, ◌%◌, Option, Some, None}
use Rattle.std.specs.List.{AllByRecursion as Each}
use Rattle.st_words.specs.declared.value.Update.{Update}
use Rattle.st_words.specs.declared.value.Value.{Value}
use Rattle.st_words.specs.declared.value.Value.TheVariants as values
use Rattle.st_words.specs.declared.statement.Statement.{Statement}
use Rattle.st_message.specs.declared.change.Change.{Change}
use Rattle.st_message.specs.declared.change.Change.TheVariants.{EnterLocal, EnterGlobal, Made, Prepared, Accepted, Union, Executed}
use Rattle.st_message.specs.declared.change.Heard.{Heard}
use Rattle.st_message.specs.declared.event.Plan.{Plan}
use Rattle.st_message.specs.declared.reason.Reason.{Reason}
use Rattle.st_message.specs.declared.step.Form.TheVariants as forms
use Rattle.st_message.specs.declared.step.Out.{Out}
use Rattle.st_message.specs.declared.step.Step.{Step}
use Rattle.st_protocol.specs.Words.{a_reply, to_client_at}
use Rattle.st_protocol.specs.State.{Answers}
use Rattle.st_protocol.specs.Step.{Answer, Refused, Steps}
use Rattle.st_protocol.specs.Questions.{values_by}
use Rattle.st_protocol.specs.Forced.{forced_of}
use Rattle.st_protocol.specs.Assigning.{fill}
use Rattle.st_protocol.specs.Duty.{Pen, Course, begins, records, keeps, emits, makes, reports, replies, carries_change, carries_changes, keeps_all, emits_all, carries, fills_up, course, did, ignored, plan_by}

-- the test by which the Reply of an update that runs goes out
abbrev pub answers_client : Answers → Update → Bool
answers_client was u =
    nat_lt (was.log.run.last u.client.0) u.time
    && nat_eq (u.client.0 % was.here.seat.sites) was.here.seat.site
    && nat_lt was.here.leaf was.here.seat.capacity

-- that Reply
abbrev pub reply_to : Answers → Update → Statement
reply_to was u = a_reply was.here.seat.site u.client.0 u.time (was.here.executed + 1) (was.here.seat.serve was.log.run.ran u.op)

-- the view that a change enters: a local one, or not
abbrev pub entered : Change → Option Bool
entered (EnterLocal x q) = Some false
entered (EnterGlobal y words) = Some true
entered _ = None

-- the step of the fill at a state
abbrev pub fill_at : Answers → Step
fill_at state = fill state.here state.slots state.pending (forced_of state.here state.unions)

-- Q is kept by a change of which C holds, by an entry of which M holds and by an out of which O holds; and by what
-- follows of a change: the report of a view that was entered, the Reply to an update that a change executes.
pub record IsKeptWhere (pen : Pen) (Q : Course → Type 0) (C : Course → Change → Type 0) (M : Course → Heard → Type 0) (O : Course → Out → Type 0) : Type 0 where
  pub recording : (w : Course) (x : Change) → Q w → C w x → Q (records w x)
  pub keeping : (w : Course) (m : Heard) → Q w → M w m → Q (keeps w m)
  pub emitting : (w : Course) (o : Out) → Q w → O w o → Q (emits pen w o)
  pub reporting : (w : Course) (x : Change) (global : Bool) → entered x ≡ Some global → Q w → C w x → Q (records w x) → Q (reports pen global (records w x))
  pub replying : (w : Course) (x : Change) (u : Update) → values_by x ≡ values.Update u ∷ [] → answers_client w.now u ≡ true → Q w → C w x → Q (records w x) →
      Q (makes pen (records w x) (reply_to w.now u) forms.Reply (to_client_at u.client.0))

-- either of two courses
kept_if : (Q : Course → Type 0) (b : Bool) (v w : Course) → (b ≡ true → Q v) → Q w → Q (cond b v w)
kept_if Q true v w h k = h refl
kept_if Q false v w h k = k

module _ (pen : Pen) (Q : Course → Type 0) (C : Course → Change → Type 0) (M : Course → Heard → Type 0) (O : Course → Out → Type 0) where
  -- ---- lists along a course: each is looked at where the course stands by then, and Q may be used there

  -- changes, each with what follows from it
  abbrev pub ChangesFit : Course → List Change → Type 0
  ChangesFit w [] = Unit {0}
  ChangesFit w (x ∷ xs) = C w x × (Q (carries_change pen w x) → ChangesFit (carries_change pen w x) xs)

  -- things heard
  abbrev pub HeardFits : Course → List Heard → Type 0
  HeardFits w [] = Unit {0}
  HeardFits w (m ∷ ms) = M w m × (Q (keeps w m) → HeardFits (keeps w m) ms)

  -- what goes out
  abbrev pub OutFits : Course → List Out → Type 0
  OutFits w [] = Unit {0}
  OutFits w (o ∷ os) = O w o × (Q (emits pen w o) → OutFits (emits pen w o) os)

  -- a step
  abbrev pub StepFits : Course → Step → Type 0
  StepFits w step =
      ChangesFit w step.changes
      × ((Q (carries_changes pen w step.changes) → HeardFits (carries_changes pen w step.changes) step.heard)
      × (Q (keeps_all (carries_changes pen w step.changes) step.heard) → OutFits (keeps_all (carries_changes pen w step.changes) step.heard) step.out))

  -- an answer
  abbrev pub AnswerFits : Answers → Answer → Type 0
  AnswerFits state (Refused reason) = Unit {0}
  AnswerFits state (Steps step) = StepFits (begins state) step

  -- Lists of which one fact holds, wherever the course stands.
  pub each_change : (P : Change → Type 0) → ((w : Course) (x : Change) → P x → C w x) → (w : Course) (xs : List Change) → Each P xs → ChangesFit w xs
  each_change P give w [] h = tt
  each_change P give w (x ∷ xs) h = (give w x h.0, λ q. each_change P give (carries_change pen w x) xs h.1)

  -- things heard
  pub each_heard : (P : Heard → Type 0) → ((w : Course) (m : Heard) → P m → M w m) → (w : Course) (ms : List Heard) → Each P ms → HeardFits w ms
  each_heard P give w [] h = tt
  each_heard P give w (m ∷ ms) h = (give w m h.0, λ q. each_heard P give (keeps w m) ms h.1)

  -- what goes out
  pub each_out : (P : Out → Type 0) → ((w : Course) (o : Out) → P o → O w o) → (w : Course) (os : List Out) → Each P os → OutFits w os
  each_out P give w [] h = tt
  each_out P give w (o ∷ os) h = (give w o h.0, λ q. each_out P give (emits pen w o) os h.1)

  -- ---- the walk

  module _ (k : IsKeptWhere pen Q C M O) where
    -- by the Reply of an executed number, if one goes out
    kept_replies : (w : Course) (x : Change) (v : Value) → values_by x ≡ v ∷ [] → Q w → C w x → Q (records w x) → Q (replies pen w.now v (records w x))
    unfolding replies
    kept_replies w x values.Noop runs h c r = r
    kept_replies w x (values.Update u) runs h c r = kept_if Q (answers_client w.now u) _ _ (λ yes. k.replying w x u runs yes h c r) r

    -- by a change with what follows from it
    pub kept_change : (w : Course) (x : Change) → Q w → C w x → Q (carries_change pen w x)
    unfolding carries_change
    kept_change w (EnterLocal y q) h c = k.reporting w (EnterLocal y q) false refl h c (k.recording w (EnterLocal y q) h c)
    kept_change w (EnterGlobal y ss) h c = k.reporting w (EnterGlobal y ss) true refl h c (k.recording w (EnterGlobal y ss) h c)
    kept_change w (Made n s) h c = k.recording w (Made n s) h c
    kept_change w (Prepared s q) h c = k.recording w (Prepared s q) h c
    kept_change w (Accepted s q) h c = k.recording w (Accepted s q) h c
    kept_change w (Union s q) h c = k.recording w (Union s q) h c
    kept_change w (Executed n p) h c = kept_replies w (Executed n p) p.value refl h c (k.recording w (Executed n p) h c)

    -- by changes in order
    kept_changes : (w : Course) (xs : List Change) → Q w → ChangesFit w xs → Q (carries_changes pen w xs)
    kept_changes w [] h c = h
    kept_changes w (x ∷ xs) h c = let more : Q (carries_change pen w x) = kept_change w x h c.0 in kept_changes (carries_change pen w x) xs more (c.1 more)

    -- by things heard in order
    kept_heard : (w : Course) (ms : List Heard) → Q w → HeardFits w ms → Q (keeps_all w ms)
    kept_heard w [] h c = h
    kept_heard w (m ∷ ms) h c = let more : Q (keeps w m) = k.keeping w m h c.0 in kept_heard (keeps w m) ms more (c.1 more)

    -- by what goes out in order
    kept_out : (w : Course) (os : List Out) → Q w → OutFits w os → Q (emits_all pen w os)
    kept_out w [] h c = h
    kept_out w (o ∷ os) h c = let more : Q (emits pen w o) = k.emitting w o h c.0 in kept_out (emits pen w o) os more (c.1 more)

    -- by a step that is carried out
    pub kept_carries : (w : Course) (step : Step) → Q w → StepFits w step → Q (carries pen w step)
    unfolding carries
    kept_carries w step h c =
        let changed : Q (carries_changes pen w step.changes) = kept_changes w step.changes h c.0 in
        let kept : Q (keeps_all (carries_changes pen w step.changes) step.heard) = kept_heard (carries_changes pen w step.changes) step.heard changed (c.1.0 changed) in
        kept_out (keeps_all (carries_changes pen w step.changes) step.heard) step.out kept (c.1.1 kept)

    module _ (fills : (w : Course) → Q w → StepFits w (fill_at w.now)) where
      -- Q holds at the end of an event's course if it holds at its start, and the event's step and every fill fit.
      pub kept_course : (state : Answers) (step : Step) → Q (begins state) → StepFits (begins state) step → Q (course pen state step)
      unfolding course fills_up
      kept_course state step h c =
          let carried : Q (carries pen (begins state) step) = kept_carries (begins state) step h c in
          kept_carries (carries pen (begins state) step) (fill_at (carries pen (begins state) step).now) carried (fills (carries pen (begins state) step) carried)

      -- So of a plan holds what is had of an ignored event, and of a course with Q.
      pub kept_plan : (R : Plan → Type 0) (state : Answers) → ((reason : Reason) → R (ignored reason)) → ((step : Step) → Q (course pen state step) → R (did (course pen state step))) →
          (a : Answer) → Q (begins state) → AnswerFits state a → R (plan_by pen state a)
      kept_plan R state none some (Refused reason) h c = none reason
      kept_plan R state none some (Steps step) h c = some step (kept_course state step h c)
