-- What each step of a course keeps holds at the end of it.
use Rattle.std.proofs.Common.{◌≡◌, ◌+◌, Bool, true, false, cond, nat_eq, nat_lt, List, [], ◌∷◌, ◌++◌, sym, ◌∙◌, ap, append_assoc, append-nil}
use Rattle.std.specs.Prelude.{◌&&◌, ◌%◌}
use Rattle.std.proofs.lemmas.List.Sums.{fold_push}
use Rattle.st_words.specs.declared.value.Value.{Value}
use Rattle.st_words.specs.declared.value.Value.TheVariants as values
use Rattle.st_words.specs.declared.statement.Statement.{Statement}
use Rattle.st_message.specs.declared.event.Scope.{Scope}
use Rattle.st_message.specs.declared.event.Output.{Output}
use Rattle.st_message.specs.declared.change.Change.{Change}
use Rattle.st_message.specs.declared.change.Change.TheVariants.{EnterLocal, EnterGlobal, Made, Prepared, Accepted, Union, Executed}
use Rattle.st_message.specs.declared.change.Heard.{Heard}
use Rattle.st_message.specs.declared.step.Form.{Form}
use Rattle.st_message.specs.declared.step.Form.TheVariants as forms
use Rattle.st_message.specs.declared.step.Out.{Out}
use Rattle.st_message.specs.declared.step.Out.TheVariants.{Make}
use Rattle.st_message.specs.declared.step.Step.{Step}
use Rattle.st_protocol.specs.Words.{a_reply, to_client_at}
use Rattle.st_protocol.specs.State.{Seat, Answers}
use Rattle.st_protocol.specs.Questions.{questions}
use Rattle.st_protocol.specs.Growth.{after, hears}
use Rattle.st_protocol.specs.Duty.{Pen, Course, begins, records, keeps, puts, emits, makes, sealed, reports_as, reports, replies, carries_change, carries_changes, keeps_all, emits_all, carries, fills_up, course, statement_in}
use Rattle.st_protocol.proofs.QuestionLaws.{one_body, one_heard}

-- Q is kept by a change, by something heard, and by an output.
pub record IsKept (Q : Course → Type 0) : Type 0 where
  pub records : (w : Course) (x : Change) → Q w → Q (records w x)
  pub keeps : (w : Course) (m : Heard) → Q w → Q (keeps w m)
  pub puts : (w : Course) (o : Output) → Q w → Q (puts w o)

-- by what goes out
kept_emits : {Q : Course → Type 0} → IsKept Q → (pen : Pen) (w : Course) (o : Out) → Q w → Q (emits pen w o)
unfolding emits
kept_emits k pen w o h = k.puts w (sealed pen w.now o) h

-- by a statement that is made
kept_makes : {Q : Course → Type 0} → IsKept Q → (pen : Pen) (w : Course) (s : Statement) (form : Form) (to : Scope) → Q w → Q (makes pen w s form to)
unfolding makes
kept_makes k pen w s form to h = kept_emits k pen (records w (Made w.now.here.leaf s)) (Make s form to) (k.records w (Made w.now.here.leaf s) h)

-- by a report
kept_reports : {Q : Course → Type 0} → IsKept Q → (pen : Pen) (w : Course) (o : Out) → Q w → Q (reports_as pen w o)
unfolding reports_as
kept_reports k pen w o h =
    k.keeps _ _ (kept_emits k pen (records w (Made w.now.here.leaf (statement_in o))) o (k.records w (Made w.now.here.leaf (statement_in o)) h))

-- by either of two courses
kept_if : (Q : Course → Type 0) (b : Bool) (v w : Course) → Q v → Q w → Q (cond b v w)
kept_if Q true v w h k = h
kept_if Q false v w h k = k

-- by the Reply of an executed number
kept_replies : {Q : Course → Type 0} → IsKept Q → (pen : Pen) (was : Answers) (v : Value) (w : Course) → Q w → Q (replies pen was v w)
unfolding replies
kept_replies k pen was values.Noop w h = h
kept_replies {Q = Q} k pen was (values.Update u) w h =
    kept_if Q (nat_lt (was.log.run.last u.client.0) u.time && nat_eq (u.client.0 % was.here.seat.sites) was.here.seat.site && nat_lt was.here.leaf was.here.seat.capacity) _ _
    (kept_makes k pen w (a_reply was.here.seat.site u.client.0 u.time (was.here.executed + 1) (was.here.seat.serve was.log.run.ran u.op)) forms.Reply (to_client_at u.client.0) h) h

-- by a change with what follows from it
kept_change : {Q : Course → Type 0} → IsKept Q → (pen : Pen) (w : Course) (x : Change) → Q w → Q (carries_change pen w x)
unfolding carries_change reports
kept_change k pen w (EnterLocal y q) h = kept_reports k pen (records w (EnterLocal y q)) _ (k.records w (EnterLocal y q) h)
kept_change k pen w (EnterGlobal y ss) h = kept_reports k pen (records w (EnterGlobal y ss)) _ (k.records w (EnterGlobal y ss) h)
kept_change k pen w (Made n s) h = k.records w (Made n s) h
kept_change k pen w (Prepared s q) h = k.records w (Prepared s q) h
kept_change k pen w (Accepted s q) h = k.records w (Accepted s q) h
kept_change k pen w (Union s q) h = k.records w (Union s q) h
kept_change k pen w (Executed n p) h = kept_replies k pen w.now p.value (records w (Executed n p)) (k.records w (Executed n p) h)

-- by changes in order
kept_changes : {Q : Course → Type 0} → IsKept Q → (pen : Pen) (w : Course) (xs : List Change) → Q w → Q (carries_changes pen w xs)
kept_changes k pen w [] h = h
kept_changes k pen w (x ∷ xs) h = kept_changes k pen (carries_change pen w x) xs (kept_change k pen w x h)

-- by things heard in order
kept_heard : {Q : Course → Type 0} → IsKept Q → (w : Course) (ms : List Heard) → Q w → Q (keeps_all w ms)
kept_heard k w [] h = h
kept_heard k w (m ∷ ms) h = kept_heard k (keeps w m) ms (k.keeps w m h)

-- by what goes out in order
kept_out : {Q : Course → Type 0} → IsKept Q → (pen : Pen) (w : Course) (os : List Out) → Q w → Q (emits_all pen w os)
kept_out k pen w [] h = h
kept_out k pen w (o ∷ os) h = kept_out k pen (emits pen w o) os (kept_emits k pen w o h)

-- Q is kept by a step that is carried out.
pub kept_carries : {Q : Course → Type 0} → IsKept Q → (pen : Pen) (w : Course) (step : Step) → Q w → Q (carries pen w step)
unfolding carries
kept_carries k pen w step h = kept_out k pen _ step.out (kept_heard k _ step.heard (kept_changes k pen w step.changes h))

-- Q holds at the end of the course of an event if it holds at its start.
pub kept_course : {Q : Course → Type 0} → IsKept Q → (pen : Pen) (q : Answers) (step : Step) → Q (begins q) → Q (course pen q step)
unfolding course fills_up
kept_course k pen q step h = kept_carries k pen (carries pen (begins q) step) _ (kept_carries k pen (begins q) step h)

-- ---- the answers on the way are those of the longer lists

-- The answers are those of the lists with what the course added.
unfoldable pub Follows : Seat → List (List Change) → List Heard → Course → Type 0
Follows seat bodies heard w = w.now ≡ questions seat (bodies ++ w.changes ∷ []) (heard ++ w.heard)

-- the body with one change more
pub body-last : (seat : Seat) (bodies : List (List Change)) (heard : List Heard) (xs : List Change) (x : Change) →
    questions seat (bodies ++ (xs ++ x ∷ []) ∷ []) heard ≡ after (questions seat (bodies ++ xs ∷ []) heard) x
body-last seat bodies heard xs x =
    one_body seat bodies heard (xs ++ x ∷ []) ∙ fold_push after (questions seat bodies heard) xs x ∙ ap (λ q. after q x) (sym (one_body seat bodies heard xs))

-- each step of a course keeps it
pub follows : (seat : Seat) (bodies : List (List Change)) (heard : List Heard) → IsKept (Follows seat bodies heard)
unfolding Follows records keeps puts
follows seat bodies heard =
    record {
      records = λ w x h. ap (λ q. after q x) h ∙ sym (body-last seat bodies (heard ++ w.heard) w.changes x);
      keeps = λ w m h.
          ap (λ q. hears q m) h
          ∙ sym (one_heard seat (bodies ++ w.changes ∷ []) (heard ++ w.heard) m)
          ∙ ap (questions seat (bodies ++ w.changes ∷ [])) (append_assoc heard w.heard (m ∷ []));
      puts = λ w o h. h;
    }

-- it holds where nothing is added yet
pub at_first : (seat : Seat) (bodies : List (List Change)) (heard : List Heard) → Follows seat bodies heard (begins (questions seat bodies heard))
unfolding Follows begins
at_first seat bodies heard =
    sym (one_body seat bodies heard []) ∙ ap (questions seat (bodies ++ [] ∷ [])) (sym (append-nil heard))

-- The answers at the end of an event are those of the records with its changes and of the heard list with what it heard.
pub course_follows : (seat : Seat) (bodies : List (List Change)) (heard : List Heard) (pen : Pen) (step : Step) →
    Follows seat bodies heard (course pen (questions seat bodies heard) step)
course_follows seat bodies heard pen step = kept_course (follows seat bodies heard) pen _ step (at_first seat bodies heard)
