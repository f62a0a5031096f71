-- The steps of which a part's answer is made keep ranges.
use Rattle.std.proofs.Common.{◌≡◌, refl, ◌⊎◌, inl, inr, ℕ, ◌+◌, ◌*◌, ◌^◌, ◌<◌, ◌≤◌, Bool, true, false, IsTrue, cond, nat_eq, nat_lt, nat_le, List, [], ◌∷◌, ◌++◌}
use Rattle.std.specs.Prelude.{◌&&◌, not, Option}
use Rattle.std.specs.Option.{IfSome}
use Rattle.std.specs.List.{AllByRecursion as Each}
use Rattle.std.proofs.lemmas.Bool.{and_from, and_parts, or_parts, not-false, eqb-true, leb-false, le-leb, lt-ltb}
use Rattle.st_words.specs.declared.deployment.TheConstants.{WINDOW}
use Rattle.st_words.specs.declared.statement.Statement.{Statement}
use Rattle.st_words.specs.Ranges.{FitsStatement}
use Rattle.st_seal.specs.declared.quorum.Signed.{Signed}
use Rattle.st_message.specs.declared.message.Message.{Message}
use Rattle.st_message.specs.declared.message.Message.TheVariants as messages
use Rattle.st_message.specs.declared.event.Scope.{Scope}
use Rattle.st_message.specs.declared.change.Change.{Change}
use Rattle.st_message.specs.declared.reason.Reason.{Reason}
use Rattle.st_message.specs.declared.step.Form.{Form}
use Rattle.st_message.specs.declared.step.Out.{Out}
use Rattle.st_message.specs.declared.step.Out.TheVariants.{Make, Send}
use Rattle.st_message.specs.declared.step.Step.{Step}
use Rattle.st_wire.specs.Kind.{share_kinds, certificate_kinds}
use Rattle.st_wire.specs.Ranges.{KeepsCore}
use Rattle.st_protocol.specs.State.{Here, Share, Answers}
use Rattle.st_protocol.specs.Step.{Answer, Refused, Steps, idle, then, making, recording, keeping, completing, putting, when, decides, one_if, out_of_window, completes, completed, certifies}
use Rattle.st_ranges.specs.Ranges.{QuorumInRange, MessageInRange, IsReportOf}
use Rattle.st_ranges.proofs.ChoiceLaws.{append_all}
use Rattle.st_ranges.proofs.RisingLaws.{each_weaker, ShareInRange, completed_in_range}
use Rattle.st_ranges.proofs.StateLaws.{Top, ChangeAt, HeardAt}
use Rattle.st_ranges.proofs.MadeLaws.{IsSealed, IsOpen, IsStill, MadeIn, made_first, made_last}
use Rattle.st_ranges.proofs.ReportLaws.{SignedInRange, OutInRange}
use Rattle.st_ranges.proofs.CourseLaws.{StillInRange, OutStands, StandsInRange, StepInRange}

-- ---- where a place is open

-- a place at these views or later ones, of a number that isn't executed
pub open_slot : (view local executed g l n : ℕ) → view ≤ g → local ≤ l → executed < n → IsTrue (nat_le view g && nat_le local l && nat_lt executed n)
open_slot view local executed g l n a b c =
    and_from (nat_le view g && nat_le local l) (nat_lt executed n) (and_from (nat_le view g) (nat_le local l) (le-leb view g a) (le-leb local l b)) (lt-ltb executed n c)

-- so without a local view
pub open_accept : (view executed g n : ℕ) → view ≤ g → executed < n → IsTrue (nat_le view g && nat_lt executed n)
open_accept view executed g n a c = and_from (nat_le view g) (nat_lt executed n) (le-leb view g a) (lt-ltb executed n c)

-- ---- what reasons that don't hold say

-- no reason holds
abbrev pub Free : List (Bool × Reason) → Type 0
Free ts = Each (λ (t : Bool × Reason). t.0 ≡ false) ts

-- a number of the window
pub above_executed : (here : Here) (n : ℕ) → out_of_window here n ≡ false → here.executed < n
above_executed here n e = leb-false n here.executed (or_parts (nat_le n here.executed) (nat_lt (here.executed + WINDOW) n) e).0

-- of the present view
pub at_view : (g view : ℕ) → not (nat_eq g view) ≡ false → g ≡ view
at_view g view e = eqb-true g view (not-false (nat_eq g view) e)

-- of the present views
pub at_views : (g view l local : ℕ) → not (nat_eq g view && nat_eq l local) ≡ false → (g ≡ view) × (l ≡ local)
at_views g view l local e =
    let parts = and_parts (nat_eq g view) (nat_eq l local) (not-false (nat_eq g view && nat_eq l local) e) in
    (eqb-true g view parts.0, eqb-true l local parts.1)

-- 1 where a test holds
pub one_if_true : (b : Bool) → b ≡ true → one_if b ≡ 1
one_if_true true e = refl
one_if_true false e = absurd (let no : false ≡ true = e in cc)

module _ (top : Top) (state : Answers) where
  -- ---- steps

  -- nothing
  pub idle_stands : StandsInRange top state idle
  idle_stands = record { changes = tt; heard = tt; out = tt }

  -- what goes out after the first changes, or the last, goes out after both
  out_first : (xs ys : List Change) (o : Out) → OutStands state xs o → OutStands state (xs ++ ys) o
  out_first xs ys (Make s form to) h = (h.0, (h.1.0, by h.1.1))
    where
      by : IsSealed state s ⊎ MadeIn s xs → IsSealed state s ⊎ MadeIn s (xs ++ ys)
      by (inl before) = inl before
      by (inr now) = inr (made_first s xs ys now)
  out_first xs ys (Send m to) h = (h.0, tt)

  out_last : (xs ys : List Change) (o : Out) → OutStands state ys o → OutStands state (xs ++ ys) o
  out_last xs ys (Make s form to) h = (h.0, (h.1.0, by h.1.1))
    where
      by : IsSealed state s ⊎ MadeIn s ys → IsSealed state s ⊎ MadeIn s (xs ++ ys)
      by (inl before) = inl before
      by (inr now) = inr (made_last s xs ys now)
  out_last xs ys (Send m to) h = (h.0, tt)

  -- one step and then another
  pub then_stands : (a b : Step) → StandsInRange top state a → StandsInRange top state b → StandsInRange top state (then a b)
  then_stands a b p q =
      record {
        changes = append_all (StillInRange top) a.changes b.changes p.changes q.changes;
        heard = append_all (HeardAt top) a.heard b.heard p.heard q.heard;
        out =
            append_all (OutStands state (a.changes ++ b.changes)) a.out b.out
            (each_weaker (OutStands state a.changes) (OutStands state (a.changes ++ b.changes)) (out_first a.changes b.changes) a.out p.out)
            (each_weaker (OutStands state b.changes) (OutStands state (a.changes ++ b.changes)) (out_last a.changes b.changes) b.out q.out);
      }

  -- a statement of an open place is made
  pub making_stands : (leaf : ℕ) (s : Statement) (form : Form) (to : Scope) → leaf < 2 ^ 32 → OutInRange (Make s form to) → IsOpen state.here s → StandsInRange top state (making leaf s form to)
  making_stands leaf s form to few h opens = record { changes = ((tt, ((few, h.0), tt)), tt); heard = tt; out = ((h, (opens, inr (inl refl))), tt) }

  -- a change is recorded
  pub recording_stands : (x : Change) → IsStill x → ChangeAt top x → StandsInRange top state (recording x)
  recording_stands x still h = record { changes = ((still, h), tt); heard = tt; out = tt }

  -- a message is kept
  pub keeping_stands : (m : Message) → MessageInRange m → IsReportOf top.site m → StandsInRange top state (keeping m)
  keeping_stands m h home = record { changes = tt; heard = ((h, home), tt); out = tt }

  -- a message is completed
  pub completing_stands : (m : Message) (to : Scope) → MessageInRange m → IsReportOf top.site m → StandsInRange top state (completing m to)
  completing_stands m to h home = record { changes = tt; heard = ((h, home), tt); out = ((h, tt), tt) }

  -- a statement that was made goes out again
  pub again_stands : (s : Statement) (form : Form) (to : Scope) → OutInRange (Make s form to) → IsOpen state.here s → IsSealed state s → StandsInRange top state (putting (Make s form to))
  again_stands s form to h opens before = record { changes = tt; heard = tt; out = ((h, (opens, inl before)), tt) }

  -- a message goes out
  pub sending_stands : (m : Message) (to : Scope) → MessageInRange m → StandsInRange top state (putting (Send m to))
  sending_stands m to h = record { changes = tt; heard = tt; out = ((h, tt), tt) }

  -- a step that is taken where a test holds
  pub when_stands : (b : Bool) (step : Step) → (b ≡ true → StandsInRange top state step) → StandsInRange top state (when b step)
  when_stands true step h = h refl
  when_stands false step h = idle_stands

  -- ---- answers

  -- what a part answers
  abbrev pub AnswerInRange : Answer → Type 0
  AnswerInRange (Refused reason) = Unit {0}
  AnswerInRange (Steps step) = StepInRange top state step

  -- a step that no reason forbids
  pub decides_in_range : (ts : List (Bool × Reason)) (step : Step) → (Free ts → StepInRange top state step) → AnswerInRange (decides ts step)
  decides_in_range [] step h = h tt
  decides_in_range (t ∷ ts) step h = by t.0 refl (λ e. decides_in_range ts step (λ free. h (e, free)))
    where
      by : (b : Bool) → t.0 ≡ b → (t.0 ≡ false → AnswerInRange (decides ts step)) → AnswerInRange (cond b (Refused t.1) (decides ts step))
      by true e more = tt
      by false e more = more e

  -- ---- a share

  -- a share is kept, and may complete a certificate
  pub certifies_stands : (shares : ℕ → Option Share) (s : Statement) (signed : Signed) (to : Scope) → 3 * state.here.seat.f + 1 < 2 ^ 8 → ((i : ℕ) → IfSome (shares i) ShareInRange) →
      KeepsCore share_kinds s → KeepsCore certificate_kinds s → FitsStatement s → SignedInRange signed → StandsInRange top state (certifies state.here shares s signed to)
  certifies_stands shares s signed to few all share certificate fits seal =
      let complete : Message = messages.Certificate s (completed state.here shares s signed) in
      then_stands (keeping (messages.Share s signed)) (when (completes state.here shares s signed) (completing complete to))
      (keeping_stands (messages.Share s signed) ((share, seal.0), (fits, seal.1)) tt)
      (when_stands (completes state.here shares s signed) (completing complete to)
      (λ done.
      let q : QuorumInRange (completed state.here shares s signed) = completed_in_range state.here shares s signed few all seal.0.1 done in
      completing_stands complete to ((certificate, q.0), (fits, q.1)) tt))
