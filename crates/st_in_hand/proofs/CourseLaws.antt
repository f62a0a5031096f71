-- What a course executes and keeps of other servers: a Reply, a report and the fill add nothing to that.
use Rattle.std.proofs.Common.{◌≡◌, ℕ, Bool, true, false, cond, List, [], ◌∷◌, ◌++◌, refl, sym, ◌∙◌, ap, append_assoc, append-nil}
use Rattle.std.specs.Prelude.{Option}
use Rattle.std.specs.List.{AllByRecursion as Each}
use Rattle.std.proofs.lemmas.List.Elements.{filter-append}
use Rattle.st_words.specs.declared.value.Value.{Value}
use Rattle.st_words.specs.declared.value.Value.TheVariants as values
use Rattle.st_words.specs.declared.statement.Statement.{Statement}
use Rattle.st_message.specs.declared.event.Scope.{Scope}
use Rattle.st_message.specs.declared.change.Change.{Change}
use Rattle.st_message.specs.declared.change.Change.TheVariants.{EnterLocal, EnterGlobal, Made, Prepared, Accepted, Union, Executed}
use Rattle.st_message.specs.declared.change.Heard.{Heard}
use Rattle.st_message.specs.declared.step.Form.{Form}
use Rattle.st_message.specs.declared.step.Form.TheVariants as forms
use Rattle.st_message.specs.declared.step.Out.{Out}
use Rattle.st_message.specs.declared.step.Out.TheVariants.{Make}
use Rattle.st_message.specs.declared.step.Step.{Step}
use Rattle.st_protocol.specs.Words.{a_prepare, to_client_at}
use Rattle.st_protocol.specs.State.{Here, Slots, Pended, Answers}
use Rattle.st_protocol.specs.Questions.{is_executed}
use Rattle.st_protocol.specs.Forced.{Forced, forced_of}
use Rattle.st_protocol.specs.Assigning.{fill_value, fill}
use Rattle.st_protocol.specs.Duty.{Pen, Course, begins, records, keeps, puts, emits, makes, statement_in, message_in, reports_as, base_proof, reports, replies, carries_change, carries_changes, keeps_all, emits_all, carries, fills_up, course}
use Rattle.st_protocol.specs.Collecting.{make_report}
use Rattle.st_frame_laws.proofs.ChoiceLaws.{either, append_all, if_any}
use Rattle.st_frame_laws.proofs.CourseFrame.{answers_client, reply_to, fill_at}
use Rattle.st_frame_laws.proofs.FillFrame.{fill_kept}
use Rattle.st_in_hand.specs.InHand.{executing}
use Rattle.st_in_hand.proofs.HeardLaws.{is_other, others}

-- a change that executes no number
abbrev pub ExecutesNone : Change → Type 0
ExecutesNone x = is_executed x ≡ false

-- such changes execute nothing
pub none_executing : (xs : List Change) → Each ExecutesNone xs → executing xs ≡ []
none_executing [] h = refl
none_executing (x ∷ xs) h = ap (λ (b : Bool). cond b (x ∷ executing xs) (executing xs)) h.0 ∙ none_executing xs h.1

-- From one course to a later one these executions and these messages of other servers were added.
pub record Adds (before after : Course) (executions : List Change) (messages : List Heard) : Type 0 where
  pub executes : executing after.changes ≡ executing before.changes ++ executions
  pub hears : others after.heard ≡ others before.heard ++ messages

-- nothing
adds_nothing : (w : Course) → Adds w w [] []
adds_nothing w = record { executes = sym (append-nil (executing w.changes)); hears = sym (append-nil (others w.heard)) }

-- one after the other
adds_both : {u v w : Course} {xs ys : List Change} {ms ns : List Heard} → Adds u v xs ms → Adds v w ys ns → Adds u w (xs ++ ys) (ms ++ ns)
adds_both {u} {v} {w} {xs} {ys} {ms} {ns} a b =
    record {
      executes = b.executes ∙ ap (λ zs. zs ++ ys) a.executes ∙ append_assoc (executing u.changes) xs ys;
      hears = b.hears ∙ ap (λ zs. zs ++ ns) a.hears ∙ append_assoc (others u.heard) ms ns;
    }

-- ---- one thing

adds_records : (w : Course) (x : Change) → Adds w (records w x) (executing (x ∷ [])) []
unfolding records
adds_records w x = record { executes = filter-append is_executed w.changes (x ∷ []); hears = sym (append-nil (others w.heard)) }

adds_keeps : (w : Course) (m : Heard) → Adds w (keeps w m) [] (others (m ∷ []))
unfolding keeps
adds_keeps w m = record { executes = sym (append-nil (executing w.changes)); hears = filter-append is_other w.heard (m ∷ []) }

adds_emits : (pen : Pen) (w : Course) (o : Out) → Adds w (emits pen w o) [] []
unfolding emits puts
adds_emits pen w o = record { executes = sym (append-nil (executing w.changes)); hears = sym (append-nil (others w.heard)) }

adds_makes : (pen : Pen) (w : Course) (s : Statement) (form : Form) (to : Scope) → Adds w (makes pen w s form to) [] []
unfolding makes
adds_makes pen w s form to = adds_both (adds_records w (Made w.now.here.leaf s)) (adds_emits pen (records w (Made w.now.here.leaf s)) (Make s form to))

-- ---- what follows from a change

adds_report : (pen : Pen) (w : Course) (o : Out) → Adds w (reports_as pen w o) [] []
unfolding reports_as
adds_report pen w o =
    let made : Course = records w (Made w.now.here.leaf (statement_in o)) in
    adds_both (adds_both (adds_records w (Made w.now.here.leaf (statement_in o))) (adds_emits pen made o))
    (adds_keeps (emits pen made o) (record { own = true; message = message_in pen made.now o }))

adds_reports : (pen : Pen) (global : Bool) (w : Course) → Adds w (reports pen global w) [] []
unfolding reports
adds_reports pen global w = adds_report pen w (make_report w.now.here w.now.slots (base_proof w.now) global)

adds_replies : (pen : Pen) (was : Answers) (v : Value) (w : Course) → Adds w (replies pen was v w) [] []
unfolding replies
adds_replies pen was values.Noop w = adds_nothing w
adds_replies pen was (values.Update u) w =
    either (λ (v : Course). Adds w v [] []) (answers_client was u) (makes pen w (reply_to was u) forms.Reply (to_client_at u.client.0)) w
    (adds_makes pen w (reply_to was u) forms.Reply (to_client_at u.client.0)) (adds_nothing w)

adds_change : (pen : Pen) (w : Course) (x : Change) → Adds w (carries_change pen w x) (executing (x ∷ [])) []
unfolding carries_change
adds_change pen w (EnterLocal y q) = adds_both (adds_records w (EnterLocal y q)) (adds_reports pen false (records w (EnterLocal y q)))
adds_change pen w (EnterGlobal y sites) = adds_both (adds_records w (EnterGlobal y sites)) (adds_reports pen true (records w (EnterGlobal y sites)))
adds_change pen w (Made k s) = adds_records w (Made k s)
adds_change pen w (Prepared s q) = adds_records w (Prepared s q)
adds_change pen w (Accepted s q) = adds_records w (Accepted s q)
adds_change pen w (Union s q) = adds_records w (Union s q)
adds_change pen w (Executed n p) = adds_both (adds_records w (Executed n p)) (adds_replies pen w.now p.value (records w (Executed n p)))

-- ---- a step

adds_changes : (pen : Pen) (w : Course) (xs : List Change) → Adds w (carries_changes pen w xs) (executing xs) []
adds_changes pen w [] = adds_nothing w
adds_changes pen w (x ∷ xs) =
    let both : Adds w (carries_changes pen w (x ∷ xs)) (executing (x ∷ []) ++ executing xs) [] = adds_both (adds_change pen w x) (adds_changes pen (carries_change pen w x) xs) in
    record { executes = both.executes ∙ ap (λ ys. executing w.changes ++ ys) (sym (filter-append is_executed (x ∷ []) xs)); hears = both.hears }

adds_heard : (w : Course) (ms : List Heard) → Adds w (keeps_all w ms) [] (others ms)
adds_heard w [] = adds_nothing w
adds_heard w (m ∷ ms) =
    let both : Adds w (keeps_all w (m ∷ ms)) [] (others (m ∷ []) ++ others ms) = adds_both (adds_keeps w m) (adds_heard (keeps w m) ms) in
    record { executes = both.executes; hears = both.hears ∙ ap (λ ns. others w.heard ++ ns) (sym (filter-append is_other (m ∷ []) ms)) }

adds_out : (pen : Pen) (w : Course) (os : List Out) → Adds w (emits_all pen w os) [] []
adds_out pen w [] = adds_nothing w
adds_out pen w (o ∷ os) = adds_both (adds_emits pen w o) (adds_out pen (emits pen w o) os)

-- what a step says
adds_step : (pen : Pen) (w : Course) (step : Step) → Adds w (carries pen w step) (executing step.changes) (others step.heard)
unfolding carries
adds_step pen w step =
    let done : Course = carries_changes pen w step.changes in
    let kept : Course = keeps_all done step.heard in
    let all : Adds w (emits_all pen kept step.out) ((executing step.changes ++ []) ++ []) (([] ++ others step.heard) ++ []) =
    adds_both (adds_both (adds_changes pen w step.changes) (adds_heard done step.heard)) (adds_out pen kept step.out) in
    record {
      executes = all.executes ∙ ap (λ ys. executing w.changes ++ ys) (append-nil (executing step.changes ++ []) ∙ append-nil (executing step.changes));
      hears = all.hears ∙ ap (λ ns. others w.heard ++ ns) (append-nil (others step.heard));
    }

-- ---- the fill

-- a step that executes nothing, and keeps nothing
abbrev OnlyMakes : Step → Type 0
OnlyMakes step = Each ExecutesNone step.changes × (step.heard ≡ [])

-- the fill is one
fill_only : (here : Here) (slots : Slots) (pending : ℕ → Option Pended) (forced : Forced) → OnlyMakes (fill here slots pending forced)
fill_only here slots pending forced =
    fill_kept OnlyMakes (λ x. Unit {0}) here pending forced slots (tt, refl)
    (λ may.
    record {
      value = λ slots n. if_any (fill_value here slots pending forced n);
      assigning = λ step leaf n x h any.
          (append_all ExecutesNone step.changes (Made leaf (a_prepare here.seat.site here.view here.local n x.0) ∷ []) h.0 (refl, tt), ap (λ (ms : List Heard). ms ++ []) h.1);
    })

-- it adds nothing
adds_fill : (pen : Pen) (w : Course) → Adds w (fills_up pen w) [] []
unfolding fills_up
adds_fill pen w =
    let only : OnlyMakes (fill_at w.now) = fill_only w.now.here w.now.slots w.now.pending (forced_of w.now.here w.now.unions) in
    let all : Adds w (carries pen w (fill_at w.now)) (executing (fill_at w.now).changes) (others (fill_at w.now).heard) = adds_step pen w (fill_at w.now) in
    record {
      executes = all.executes ∙ ap (λ ys. executing w.changes ++ ys) (none_executing (fill_at w.now).changes only.0);
      hears = all.hears ∙ ap (λ ms. others w.heard ++ others ms) only.1;
    }

-- ---- the whole course

-- An event executes what its part's step executes, and keeps of other servers what that keeps.
pub course_executes : (pen : Pen) (state : Answers) (step : Step) → executing (course pen state step).changes ≡ executing step.changes
unfolding course begins
course_executes pen state step =
    (adds_both (adds_step pen (begins state) step) (adds_fill pen (carries pen (begins state) step))).executes ∙ append-nil (executing step.changes)

pub course_hears : (pen : Pen) (state : Answers) (step : Step) → others (course pen state step).heard ≡ others step.heard
unfolding course begins
course_hears pen state step =
    (adds_both (adds_step pen (begins state) step) (adds_fill pen (carries pen (begins state) step))).hears ∙ append-nil (others step.heard)
