-- The course of an event keeps ranges, where the step that it carries out does: a step that stands still, one that
-- executes numbers, one that only sends, or one that enters a view.
use Rattle.std.proofs.Common.{◌≡◌, ◌∙◌, refl, sym, ap, subst, ◌⊎◌, inl, inr, ℕ, ◌+◌, ◌^◌, ◌<◌, ◌≤◌, Bool, true, false, IsTrue, cond, nat_eq, nat_lt, List, [], ◌∷◌, arith}
use Rattle.std.specs.Prelude.{◌&&◌, ◌%◌, max, Option, Some, None, is_some}
use Rattle.std.specs.List.{AllByRecursion as Each}
use Rattle.std.proofs.lemmas.Bool.{and_parts, ltb-true, le-leb}
use Rattle.st_words.specs.declared.value.Value.{Value}
use Rattle.st_words.specs.declared.value.Value.TheVariants as values
use Rattle.st_words.specs.declared.statement.Statement.{Statement}
use Rattle.st_words.specs.Ranges.{most_base}
use Rattle.st_seal.specs.declared.quorum.Signed.{Signed}
use Rattle.st_message.specs.declared.event.Scope.{Scope}
use Rattle.st_message.specs.declared.change.Change.{Change}
use Rattle.st_message.specs.declared.change.Change.TheVariants.{EnterLocal, EnterGlobal, Made, Prepared, Accepted, Union, Executed}
use Rattle.st_message.specs.declared.change.Heard.{Heard}
use Rattle.st_message.specs.declared.step.Form.{Form}
use Rattle.st_message.specs.declared.step.Form.TheVariants as forms
use Rattle.st_message.specs.declared.step.Out.{Out}
use Rattle.st_message.specs.declared.step.Out.TheVariants.{Make, Send}
use Rattle.st_message.specs.declared.step.Step.{Step}
use Rattle.st_wire.specs.Ranges.{KeepsSeal}
use Rattle.st_protocol.specs.Words.{a_reply, to_client_at}
use Rattle.st_protocol.specs.Keeping.{given}
use Rattle.st_protocol.specs.State.{Seat, Here, Sealing, Answers}
use Rattle.st_protocol.specs.Step.{to_rep}
use Rattle.st_protocol.specs.Collecting.{report_statement, report_quorums}
use Rattle.st_protocol.specs.Growth.{here_after, notes, takes, cuts, after, hears, after_all}
use Rattle.st_protocol.specs.Duty.{reports_as, base_proof, reports, Pen, sealing_of, signed_by, message_of, sealed, Course, records, keeps, puts, emits, makes, replies, carries_change, carries_changes, keeps_all, emits_all, carries}
use Rattle.st_ranges.specs.Ranges.{ValueInRange, StatementInRange, ProofInRange, ChangeInRange, OutputInRange, IsReportOf, PenKeeps}
use Rattle.st_ranges.proofs.ChoiceLaws.{either, append_all}
use Rattle.st_ranges.proofs.RisingLaws.{each_weaker}
use Rattle.st_ranges.proofs.StateLaws.{Top, ChangeAt, HeardAt, StateInRange, after_in_range, hears_in_range}
use Rattle.st_ranges.proofs.ReportLaws.{OutInRange, local_report_in_range, global_report_in_range}
use Rattle.st_ranges.proofs.MadeLaws.{IsSealed, IsOpen, IsStill, MadeIn, sealed_now, sealed_after, sealed_heard}

-- ---- what goes out

-- a statement that was made
abbrev pub OutSealed : Answers → Out → Type 0
OutSealed state (Make s form to) = IsSealed state s
OutSealed state (Send m to) = Unit {0}

-- Where a course stands, of an event that came where the server stood so.
pub record CourseInRange (top : Top) (way : Course) : Type 0 where
  pub now : StateInRange top way.now
  pub changes : Each (ChangeAt top) way.changes
  pub heard : Each (HeardAt top) way.heard
  pub outputs : Each OutputInRange way.outputs
  pub few : way.now.here.executed ≤ most_base
  pub home : way.now.here.seat.site ≡ top.site
  pub above : (top.view ≤ way.now.here.view) × (top.local ≤ way.now.here.local)

-- ---- steps

-- a change that enters no view and executes nothing
abbrev pub StillInRange : Top → Change → Type 0
StillInRange top x = IsStill x × ChangeAt top x

-- a statement of an open place, which was made before or is made by these changes
abbrev pub OutMade : Answers → List Change → Out → Type 0
OutMade state changes (Make s form to) = IsOpen state.here s × (IsSealed state s ⊎ MadeIn s changes)
OutMade state changes (Send m to) = Unit {0}

-- what goes out after these changes
abbrev pub OutStands : Answers → List Change → Out → Type 0
OutStands state changes o = OutInRange o × OutMade state changes o

-- A step that enters no view and executes nothing.
pub record StandsInRange (top : Top) (state : Answers) (step : Step) : Type 0 where
  pub changes : Each (StillInRange top) step.changes
  pub heard : Each (HeardAt top) step.heard
  pub out : Each (OutStands state step.changes) step.out

-- the execution of the number after e
abbrev pub OneRun : ℕ → Change → Type 0
OneRun e (Executed n p) = (n.0 ≡ e + 1) × (n.0 ≤ most_base) × ProofInRange p
OneRun e _ = ⊥

-- the execution of the numbers after e, in order
abbrev pub Runs : ℕ → List Change → Type 0
Runs e [] = Unit {0}
Runs e (x ∷ xs) = OneRun e x × Runs (e + 1) xs

-- A step that executes numbers, and sends nothing.
pub record RunsInRange (top : Top) (executed : ℕ) (step : Step) : Type 0 where
  pub changes : Runs executed step.changes
  pub heard : Each (HeardAt top) step.heard
  pub none : step.out ≡ []

-- A step that only sends: messages, and statements that were made before.
pub record SendsInRange (state : Answers) (step : Step) : Type 0 where
  pub no_change : step.changes ≡ []
  pub nothing_heard : step.heard ≡ []
  pub out : Each (λ o. OutInRange o × OutSealed state o) step.out

-- the entry of a view above these
abbrev pub Enters : Top → Change → Type 0
Enters top (EnterLocal x q) = top.local < x.0
Enters top (EnterGlobal y ss) = top.view < y.0
Enters top _ = ⊥

-- A step that enters a view, with a leaf left for the report, and sends nothing itself.
pub record EntersInRange (top : Top) (state : Answers) (step : Step) : Type 0 where
  pub change : Change
  pub only : step.changes ≡ change ∷ []
  pub enters : Enters top change
  pub inside : ChangeInRange change
  pub leaf : state.here.leaf < 2 ^ 32
  pub heard : Each (HeardAt top) step.heard
  pub none : step.out ≡ []

-- One of these.
abbrev pub StepInRange : Top → Answers → Step → Type 0
StepInRange top state step =
    StandsInRange top state step
    ⊎ (RunsInRange top state.here.executed step ⊎ (SendsInRange state step ⊎ EntersInRange top state step))

-- ---- where the course leaves the server

module _ (pen : Pen) where
  -- after a change that stands still
  still_now : (way : Course) (x : Change) → IsStill x → (carries_change pen way x).now ≡ after way.now x
  unfolding carries_change records
  still_now way (Made leaf s) h = refl
  still_now way (Prepared s q) h = refl
  still_now way (Accepted s q) h = refl
  still_now way (EnterLocal l q) h = absurd h
  still_now way (EnterGlobal g sites) h = absurd h
  still_now way (Union s q) h = refl
  still_now way (Executed n p) h = absurd h

  -- after such changes
  all_now : (way : Course) (xs : List Change) → Each IsStill xs → (carries_changes pen way xs).now ≡ after_all way.now xs
  all_now way [] h = refl
  all_now way (x ∷ xs) h = all_now (carries_change pen way x) xs h.1 ∙ ap (λ (q : Answers). after_all q xs) (still_now way x h.0)

  -- a statement that is made executes nothing
  makes_executed : (way : Course) (s : Statement) (form : Form) (to : Scope) → (makes pen way s form to).now.here.executed ≡ way.now.here.executed
  unfolding makes emits puts records after cuts notes
  makes_executed way s form to = refl

  -- so a Reply
  replies_executed : (was : Answers) (v : Value) (way : Course) → (replies pen was v way).now.here.executed ≡ way.now.here.executed
  unfolding replies
  replies_executed was values.Noop way = refl
  replies_executed was (values.Update u) way =
      either (λ (w : Course). w.now.here.executed ≡ way.now.here.executed)
      (nat_lt (was.log.run.last u.client.0) u.time && nat_eq (u.client.0 % was.here.seat.sites) was.here.seat.site && nat_lt was.here.leaf was.here.seat.capacity) _ _
      (makes_executed way (a_reply was.here.seat.site u.client.0 u.time (was.here.executed + 1) (was.here.seat.serve was.log.run.ran u.op)) forms.Reply (to_client_at u.client.0)) refl

  -- an executed number is one more, and uses no leaf
  records_executed : (way : Course) (x : Change) (e : ℕ) → OneRun e x → ((records way x).now.here.executed ≡ way.now.here.executed + 1) × ((records way x).now.here.leaf ≡ way.now.here.leaf)
  unfolding records after cuts notes
  records_executed way (Executed n p) e h = (refl, refl)
  records_executed way (Made leaf s) e h = absurd h
  records_executed way (Prepared s q) e h = absurd h
  records_executed way (Accepted s q) e h = absurd h
  records_executed way (EnterLocal l q) e h = absurd h
  records_executed way (EnterGlobal g sites) e h = absurd h
  records_executed way (Union s q) e h = absurd h

  -- with what follows from it
  runs_executed : (way : Course) (x : Change) (e : ℕ) → OneRun e x → (carries_change pen way x).now.here.executed ≡ way.now.here.executed + 1
  unfolding carries_change
  runs_executed way (Executed n p) e h = replies_executed way.now p.value (records way (Executed n p)) ∙ (records_executed way (Executed n p) e h).0
  runs_executed way (Made leaf s) e h = absurd h
  runs_executed way (Prepared s q) e h = absurd h
  runs_executed way (Accepted s q) e h = absurd h
  runs_executed way (EnterLocal l q) e h = absurd h
  runs_executed way (EnterGlobal g sites) e h = absurd h
  runs_executed way (Union s q) e h = absurd h

  -- what is heard leaves what was made
  heard_sealed : (way : Course) (ms : List Heard) (s : Statement) → IsSealed way.now s → IsSealed (keeps_all way ms).now s
  unfolding keeps
  heard_sealed way [] s h = h
  heard_sealed way (m ∷ ms) s h = heard_sealed (keeps way m) ms s (sealed_heard way.now m s h)

-- ---- the course

-- the greater of two numbers
max_above : (a b : ℕ) → a ≤ max a b
max_above a b = grind arith

max_other : (a b : ℕ) → b ≤ max a b
max_other a b = grind arith

-- the views only rise, and the seat stays
here_rises : (x : Change) (here : Here) → (here.view ≤ (here_after x here).view) × (here.local ≤ (here_after x here).local) × ((here_after x here).seat ≡ here.seat)
here_rises (EnterLocal x q) here = (omega arith, max_above here.local x.0, refl)
here_rises (EnterGlobal y ss) here = (max_above here.view y.0, omega arith, refl)
here_rises (Made leaf s) here = (omega arith, omega arith, refl)
here_rises (Prepared s q) here = (omega arith, omega arith, refl)
here_rises (Accepted s q) here = (omega arith, omega arith, refl)
here_rises (Union s q) here = (omega arith, omega arith, refl)
here_rises (Executed n p) here = (omega arith, omega arith, refl)

-- where a change leaves the server
records_here : (way : Course) (x : Change) → (records way x).now.here ≡ here_after x way.now.here
unfolding records after cuts notes
records_here way x = refl

module _ (top : Top) where
  -- a change is recorded
  records_in_range : (way : Course) (x : Change) → CourseInRange top way → ChangeAt top x → (here_after x way.now.here).executed ≤ most_base → CourseInRange top (records way x)
  unfolding records
  records_in_range way x w h few =
      let rises = here_rises x way.now.here in
      let view : way.now.here.view ≤ (here_after x way.now.here).view = rises.0 in
      let local : way.now.here.local ≤ (here_after x way.now.here).local = rises.1 in
      let above_view : top.view ≤ way.now.here.view = w.above.0 in
      let above_local : top.local ≤ way.now.here.local = w.above.1 in
      record {
        now = after_in_range top way.now x w.now h;
        changes = append_all (ChangeAt top) way.changes (x ∷ []) w.changes (h, tt);
        heard = w.heard;
        outputs = w.outputs;
        few = subst (λ (here : Here). here.executed ≤ most_base) (sym (records_here way x)) few;
        home = ap (λ (here : Here). here.seat.site) (records_here way x) ∙ ap (λ (seat : Seat). seat.site) rises.2 ∙ w.home;
        above =
            subst (λ (here : Here). (top.view ≤ here.view) × (top.local ≤ here.local)) (sym (records_here way x)) (omega (arith, view, above_view), omega (arith, local, above_local));
      }

-- what is heard leaves the server where it is
hears_here : (state : Answers) (m : Heard) → (hears state m).here ≡ state.here
unfolding hears cuts takes
hears_here state m = refl

module _ (top : Top) where
  -- something heard is kept
  keeps_in_range : (way : Course) (m : Heard) → CourseInRange top way → HeardAt top m → CourseInRange top (keeps way m)
  unfolding keeps
  keeps_in_range way m w h =
      record {
        now = hears_in_range top way.now m w.now h;
        changes = w.changes;
        heard = append_all (HeardAt top) way.heard (m ∷ []) w.heard (h, tt);
        outputs = w.outputs;
        few = subst (λ (here : Here). here.executed ≤ most_base) (sym (hears_here way.now m)) w.few;
        home = subst (λ (here : Here). here.seat.site ≡ top.site) (sym (hears_here way.now m)) w.home;
        above = subst (λ (here : Here). (top.view ≤ here.view) × (top.local ≤ here.local)) (sym (hears_here way.now m)) w.above;
      }

  -- things heard in order
  heard_in_range : (way : Course) (ms : List Heard) → CourseInRange top way → Each (HeardAt top) ms → CourseInRange top (keeps_all way ms)
  heard_in_range way [] w h = w
  heard_in_range way (m ∷ ms) w h = heard_in_range (keeps way m) ms (keeps_in_range way m w h.0) h.1

module _ (top : Top) (pen : Pen) (keeps_seals : PenKeeps pen) where
  -- the server's own seal
  seal_in_range : (s : Statement) → StatementInRange s → (x : Option Sealing) → IsTrue (is_some x) → KeepsSeal (given x [] (λ m. pen m.leaf s))
  seal_in_range s h None e = absurd (let no : false ≡ true = e in cc)
  seal_in_range s h (Some m) e = keeps_seals m.leaf s h

  -- what goes out, sealed
  sealed_in_range : (state : Answers) (o : Out) → StateInRange top state → OutInRange o → OutSealed state o → OutputInRange (sealed pen state o)
  sealed_in_range state (Make s form to) inside h e = h.1 (signed_by pen state s) ((omega arith, seal_in_range s h.0 (sealing_of state s) e), inside.here.seat.index)
  sealed_in_range state (Send m to) inside h e = h

  -- a statement or a message goes out
  emits_in_range : (way : Course) (o : Out) → CourseInRange top way → OutInRange o → OutSealed way.now o → CourseInRange top (emits pen way o)
  unfolding emits puts
  emits_in_range way o w h e =
      record {
        now = w.now;
        changes = w.changes;
        heard = w.heard;
        outputs = append_all OutputInRange way.outputs (sealed pen way.now o ∷ []) w.outputs (sealed_in_range way.now o w.now h e, tt);
        few = w.few;
        home = w.home;
        above = w.above;
      }

  -- what goes out in order
  out_in_range : (way : Course) (os : List Out) → CourseInRange top way → Each (λ o. OutInRange o × OutSealed way.now o) os → CourseInRange top (emits_all pen way os)
  unfolding emits puts
  out_in_range way [] w h = w
  out_in_range way (o ∷ os) w h = out_in_range (emits pen way o) os (emits_in_range way o w h.0.0 h.0.1) h.1

  -- a statement is made with the next leaf
  makes_in_range : (way : Course) (s : Statement) (form : Form) (to : Scope) → CourseInRange top way → way.now.here.leaf < 2 ^ 32 → OutInRange (Make s form to) → IsOpen way.now.here s →
      CourseInRange top (makes pen way s form to)
  unfolding makes records
  makes_in_range way s form to w leaf h opens =
      emits_in_range (records way (Made way.now.here.leaf s)) (Make s form to) (records_in_range top way (Made way.now.here.leaf s) w ((leaf, h.0), tt) w.few) h
      (sealed_now way.now way.now.here.leaf s opens)

  -- the Reply of an update that ran
  replies_in_range : (was : Answers) (v : Value) (way : Course) → StateInRange top was → was.here.executed + 1 < 2 ^ 32 → ValueInRange v → way.now.here.leaf ≡ was.here.leaf →
      CourseInRange top way → CourseInRange top (replies pen was v way)
  unfolding replies
  replies_in_range was values.Noop way s few v leaf w = w
  replies_in_range was (values.Update u) way s few v leaf w =
      by (nat_lt (was.log.run.last u.client.0) u.time && nat_eq (u.client.0 % was.here.seat.sites) was.here.seat.site && nat_lt was.here.leaf was.here.seat.capacity) refl
    where
      result : List ℕ
      result = was.here.seat.serve was.log.run.ran u.op

      reply : Statement
      reply = a_reply was.here.seat.site u.client.0 u.time (was.here.executed + 1) result

      inside : StatementInRange reply
      inside = ((v.0.0, omega arith, s.here.seat.serve was.log.run.ran u.op v.0.1), (s.here.seat.site, v.1.0, v.1.1, few))

      by : (b : Bool) → (nat_lt (was.log.run.last u.client.0) u.time && nat_eq (u.client.0 % was.here.seat.sites) was.here.seat.site && nat_lt was.here.leaf was.here.seat.capacity) ≡ b →
          CourseInRange top (cond b (makes pen way reply forms.Reply (to_client_at u.client.0)) way)
      by true e =
          let left : was.here.leaf < was.here.seat.capacity =
          ltb-true was.here.leaf was.here.seat.capacity
          (and_parts (nat_lt (was.log.run.last u.client.0) u.time && nat_eq (u.client.0 % was.here.seat.sites) was.here.seat.site) (nat_lt was.here.leaf was.here.seat.capacity) e).1
          in
          let most : was.here.seat.capacity < 2 ^ 32 = s.here.seat.capacity in
          makes_in_range way reply forms.Reply (to_client_at u.client.0) w (omega (arith, leaf, left, most))
          (inside, λ signed g. (((refl, inside.0), g.0), (inside.1, g.1))) refl
      by false e = w

  -- ---- changes

  -- a change that stands still
  still_change : (way : Course) (x : Change) → CourseInRange top way → StillInRange top x → CourseInRange top (carries_change pen way x)
  unfolding carries_change
  still_change way (Made leaf s) w h = records_in_range top way (Made leaf s) w h.1 w.few
  still_change way (Prepared s q) w h = records_in_range top way (Prepared s q) w h.1 w.few
  still_change way (Accepted s q) w h = records_in_range top way (Accepted s q) w h.1 w.few
  still_change way (EnterLocal l q) w h = absurd h.0
  still_change way (EnterGlobal g sites) w h = absurd h.0
  still_change way (Union s q) w h = records_in_range top way (Union s q) w h.1 w.few
  still_change way (Executed n p) w h = absurd h.0

  -- such changes
  still_changes : (way : Course) (xs : List Change) → CourseInRange top way → Each (StillInRange top) xs → CourseInRange top (carries_changes pen way xs)
  still_changes way [] w h = w
  still_changes way (x ∷ xs) w h = still_changes (carries_change pen way x) xs (still_change way x w h.0) h.1

  -- an executed number, with its Reply
  runs_change : (way : Course) (x : Change) → CourseInRange top way → OneRun way.now.here.executed x → CourseInRange top (carries_change pen way x)
  unfolding carries_change
  runs_change way (Executed n p) w h =
      let number : n.0 ≡ way.now.here.executed + 1 = h.0 in
      let few : n.0 ≤ most_base = h.1 in
      replies_in_range way.now p.value (records way (Executed n p)) w.now (omega (arith, number, few)) (h.2.0.0, h.2.1.1)
      (records_executed pen way (Executed n p) way.now.here.executed h).1
      (records_in_range top way (Executed n p) w ((omega (arith, number), omega (arith, few), h.2), tt) (omega (arith, number, few)))
  runs_change way (Made leaf s) w h = absurd h
  runs_change way (Prepared s q) w h = absurd h
  runs_change way (Accepted s q) w h = absurd h
  runs_change way (EnterLocal l q) w h = absurd h
  runs_change way (EnterGlobal g sites) w h = absurd h
  runs_change way (Union s q) w h = absurd h

  -- executed numbers
  runs_changes : (way : Course) (xs : List Change) → CourseInRange top way → Runs way.now.here.executed xs → CourseInRange top (carries_changes pen way xs)
  runs_changes way [] w h = w
  runs_changes way (x ∷ xs) w h =
      runs_changes (carries_change pen way x) xs (runs_change way x w h.0) (subst (λ e. Runs e xs) (sym (runs_executed pen way x way.now.here.executed h.0)) h.1)

  -- ---- steps

  -- a step that stands still
  stands_carried : (way : Course) (step : Step) → CourseInRange top way → StandsInRange top way.now step → CourseInRange top (carries pen way step)
  unfolding carries
  stands_carried way step w h =
      out_in_range (keeps_all (carries_changes pen way step.changes) step.heard) step.out
      (heard_in_range top (carries_changes pen way step.changes) step.heard (still_changes way step.changes w h.changes) h.heard)
      (each_weaker (OutStands way.now step.changes) (λ o. OutInRange o × OutSealed (keeps_all (carries_changes pen way step.changes) step.heard).now o) one step.out h.out)
    where
      still : Each IsStill step.changes
      still = each_weaker (StillInRange top) IsStill (λ x g. g.0) step.changes h.changes

      one : (o : Out) → OutStands way.now step.changes o → OutInRange o × OutSealed (keeps_all (carries_changes pen way step.changes) step.heard).now o
      one (Make s form to) g = (
        g.0,
        heard_sealed pen (carries_changes pen way step.changes) step.heard s
            (subst (λ (q : Answers). IsSealed q s) (sym (all_now pen way step.changes still)) (sealed_after way.now step.changes s still g.1.0 g.1.1)),
      )
      one (Send m to) g = (g.0, tt)

  -- a step that executes
  runs_carried : (way : Course) (step : Step) → CourseInRange top way → RunsInRange top way.now.here.executed step → CourseInRange top (carries pen way step)
  unfolding carries
  runs_carried way step w h =
      subst (λ (os : List Out). CourseInRange top (emits_all pen (keeps_all (carries_changes pen way step.changes) step.heard) os)) (sym h.none)
      (heard_in_range top (carries_changes pen way step.changes) step.heard (runs_changes way step.changes w h.changes) h.heard)

  -- a step that only sends
  sends_carried : (way : Course) (step : Step) → CourseInRange top way → SendsInRange way.now step → CourseInRange top (carries pen way step)
  unfolding carries
  sends_carried way step w h =
      subst (λ (xs : List Change). CourseInRange top (emits_all pen (keeps_all (carries_changes pen way xs) step.heard) step.out)) (sym h.no_change)
      (subst (λ (ms : List Heard). CourseInRange top (emits_all pen (keeps_all way ms) step.out)) (sym h.nothing_heard) (out_in_range way step.out w h.out))

  -- ---- a view is entered

  -- a report is made, sent and noted
  reports_as_in_range : (way : Course) (s : Statement) (form : Form) (to : Scope) → CourseInRange top way → way.now.here.leaf < 2 ^ 32 → OutInRange (Make s form to) → IsOpen way.now.here s →
      ((signed : Signed) → IsReportOf top.site (message_of form s signed)) → CourseInRange top (reports_as pen way (Make s form to))
  unfolding reports_as records
  reports_as_in_range way s form to w leaf h opens home =
      let made : Course = records way (Made way.now.here.leaf s) in
      let inside : CourseInRange top made = records_in_range top way (Made way.now.here.leaf s) w ((leaf, h.0), tt) w.few in
      let found : IsSealed made.now s = sealed_now way.now way.now.here.leaf s opens in
      keeps_in_range top (emits pen made (Make s form to)) (record { own = true; message = message_of form s (signed_by pen made.now s) }) (emits_in_range made (Make s form to) inside h found)
      (sealed_in_range made.now (Make s form to) inside.now h found, home (signed_by pen made.now s))

  -- the report of a local view that is entered
  local_report_kept : (way : Course) → CourseInRange top way → way.now.here.leaf < 2 ^ 32 → top.local < way.now.here.local → CourseInRange top (reports pen false way)
  unfolding reports
  local_report_kept way w leaf entered =
      reports_as_in_range way (report_statement way.now.here way.now.slots false) (forms.Report (report_quorums way.now.here way.now.slots false) (base_proof way.now)) (to_rep way.now.here) w leaf
      (local_report_in_range top way.now w.now w.few w.above.0 entered) (le-leb way.now.here.local way.now.here.local (omega arith)) (λ signed. w.home)

  -- the report of a view that is entered
  global_report_kept : (way : Course) → CourseInRange top way → way.now.here.leaf < 2 ^ 32 → top.view < way.now.here.view → CourseInRange top (reports pen true way)
  unfolding reports
  global_report_kept way w leaf entered =
      reports_as_in_range way (report_statement way.now.here way.now.slots true) (forms.Report (report_quorums way.now.here way.now.slots true) (base_proof way.now)) (to_rep way.now.here) w leaf
      (global_report_in_range top way.now w.now w.few entered) (le-leb way.now.here.view way.now.here.view (omega arith)) (λ signed. w.home)

  -- a view is entered
  enters_change : (way : Course) (x : Change) → CourseInRange top way → Enters top x → ChangeInRange x → way.now.here.leaf < 2 ^ 32 → CourseInRange top (carries_change pen way x)
  unfolding carries_change
  enters_change way (EnterLocal x q) w enters h leaf =
      let leaves : (records way (EnterLocal x q)).now.here ≡ here_after (EnterLocal x q) way.now.here = records_here way (EnterLocal x q) in
      let above : x.0 ≤ max way.now.here.local x.0 = max_other way.now.here.local x.0 in
      local_report_kept (records way (EnterLocal x q)) (records_in_range top way (EnterLocal x q) w (h, tt) w.few) (subst (λ (here : Here). here.leaf < 2 ^ 32) (sym leaves) leaf)
      (subst (λ (here : Here). top.local < here.local) (sym leaves) (omega (arith, enters, above)))
  enters_change way (EnterGlobal y ss) w enters h leaf =
      let leaves : (records way (EnterGlobal y ss)).now.here ≡ here_after (EnterGlobal y ss) way.now.here = records_here way (EnterGlobal y ss) in
      let above : y.0 ≤ max way.now.here.view y.0 = max_other way.now.here.view y.0 in
      global_report_kept (records way (EnterGlobal y ss)) (records_in_range top way (EnterGlobal y ss) w (h, tt) w.few) (subst (λ (here : Here). here.leaf < 2 ^ 32) (sym leaves) leaf)
      (subst (λ (here : Here). top.view < here.view) (sym leaves) (omega (arith, enters, above)))
  enters_change way (Made leaf s) w enters h few = absurd enters
  enters_change way (Prepared s q) w enters h few = absurd enters
  enters_change way (Accepted s q) w enters h few = absurd enters
  enters_change way (Union s q) w enters h few = absurd enters
  enters_change way (Executed n p) w enters h few = absurd enters

  -- a step that enters a view
  enters_carried : (way : Course) (step : Step) → CourseInRange top way → EntersInRange top way.now step → CourseInRange top (carries pen way step)
  unfolding carries
  enters_carried way step w h =
      subst (λ (os : List Out). CourseInRange top (emits_all pen (keeps_all (carries_changes pen way step.changes) step.heard) os)) (sym h.none)
      (subst (λ (xs : List Change). CourseInRange top (keeps_all (carries_changes pen way xs) step.heard)) (sym h.only)
      (heard_in_range top (carries_change pen way h.change) step.heard (enters_change way h.change w h.enters h.inside h.leaf) h.heard))

  -- A step is carried out.
  pub carries_in_range : (way : Course) (step : Step) → CourseInRange top way → StepInRange top way.now step → CourseInRange top (carries pen way step)
  carries_in_range way step w (inl h) = stands_carried way step w h
  carries_in_range way step w (inr (inl h)) = runs_carried way step w h
  carries_in_range way step w (inr (inr (inl h))) = sends_carried way step w h
  carries_in_range way step w (inr (inr (inr h))) = enters_carried way step w h
