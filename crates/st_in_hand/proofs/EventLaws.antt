-- An event executes what is in hand once its message was heard, and leaves nothing in hand.
use Rattle.std.proofs.Common.{◌≡◌, ℕ, ◌+◌, ◌<◌, ◌≤◌, Bool, false, List, [], ◌∷◌, ◌++◌, length, refl, sym, ◌∙◌, ap, subst, arith}
use Rattle.std.specs.Prelude.{None, nat_lt, nat_le, is_some}
use Rattle.std.proofs.lemmas.Bool.{ltb-false, ne_eqb, or_parts}
use Rattle.st_words.specs.declared.deployment.TheConstants.{WINDOW}
use Rattle.st_words.specs.declared.value.Value.{Value}
use Rattle.st_message.specs.declared.message.Proof.{Proof}
use Rattle.st_message.specs.declared.message.Message.{Message}
use Rattle.st_message.specs.declared.message.Message.TheVariants as messages
use Rattle.st_message.specs.declared.change.Change.{Change}
use Rattle.st_message.specs.declared.change.Heard.{Heard}
use Rattle.st_message.specs.declared.reason.Reason.{Reason}
use Rattle.st_message.specs.declared.step.Step.{Step}
use Rattle.st_protocol.specs.Words.{Quorum, an_accept}
use Rattle.st_protocol.specs.State.{Seat, Here, Hand, Answers}
use Rattle.st_protocol.specs.Questions.{questions}
use Rattle.st_protocol.specs.Growth.{hand_takes, hand_cuts, hears, takes, cuts}
use Rattle.st_protocol.specs.Step.{Answer, Refused, Steps, idle, decides, out_of_window, beyond, seen, full}
use Rattle.st_protocol.specs.Ordering.{in_hand, executions, is_seen_word, accept_step, on_accept, on_order_proof, keeps_and_executes}
use Rattle.st_protocol.specs.Duty.{Event, Reading, Pen, Course, course, plan_by, plan_of, duty, of_event}
use Rattle.st_protocol.proofs.QuestionLaws.{one_heard}
use Rattle.st_frame_laws.proofs.PartFrame.{decides_fits}
use Rattle.st_in_hand.specs.InHand.{in_hand_at, IsUpToDate, ExecutesFrom, executing, ExecutesInHand}
use Rattle.st_in_hand.proofs.HeardLaws.{heard_proof, in_hand-open, IsSilent, heard_proof-silent, heard_proof-same}
use Rattle.st_in_hand.proofs.ExecutionLaws.{executes_same, executes_until, executions_execute, executed_more}
use Rattle.st_in_hand.proofs.CourseLaws.{none_executing, course_executes, course_hears}
use Rattle.st_in_hand.proofs.QuietLaws.{IsQuiet, IsQuietAnswer, all_silent, event_by}

-- ---- messages that order one number

-- an Accept certificate orders its own number alone
silent_accept : (site view n : ℕ) (value : Value) (q : Quorum) (k : ℕ) → (n ≡ k → ⊥) → IsSilent k (record { own = false; message = messages.Certificate (an_accept site view n value) q })
silent_accept site view n value q k other = record { height = rw (ne_eqb n k other) refl; word = λ s. rw (ne_eqb n k other) refl; proof = refl }

-- so does an order proof
silent_proof : (n : ℕ) (p : Proof) (k : ℕ) → (n ≡ k → ⊥) → IsSilent k (record { own = false; message = messages.OrderProof (record { 0 = n }) p })
silent_proof n p k other = record { height = refl; word = λ s. refl; proof = rw (ne_eqb n k other) refl }

-- a number that is refused by nothing isn't beyond the window
within : (here : Here) (n : ℕ) → out_of_window here n ≡ false → n ≤ here.executed + WINDOW
within here n e = ltb-false (here.executed + WINDOW) n (or_parts (nat_le n here.executed) (nat_lt (here.executed + WINDOW) n) e).1

-- ---- an event at two lists

module _ (seat : Seat) (records : List (List Change)) (heard : List Heard) where
  -- what the server answers before the event
  abbrev before : Answers
  before = questions seat records heard

  -- These changes execute just what is in hand once this was heard too, and it orders nothing beyond the window.
  pub record IsDue (changes : List Change) (added : List Heard) : Type 0 where
    pub executes : ExecutesFrom (heard_proof seat (heard ++ added)) (before.here.executed + 1) (executing changes)
    pub beyond : (n : ℕ) → before.here.executed + WINDOW < n → heard_proof seat (heard ++ added) n ≡ heard_proof seat heard n

  -- an answer whose step does so, or a refusal
  abbrev IsDueAnswer : Answer → Type 0
  IsDueAnswer (Refused reason) = Unit {0}
  IsDueAnswer (Steps step) = IsDue step.changes step.heard

  -- a reason, or such a step
  due_decides : (ts : List (Bool × Reason)) (step : Step) → IsDue step.changes step.heard → IsDueAnswer (decides ts step)
  due_decides ts step h = decides_fits IsDueAnswer (λ reason. tt) ts step (λ none. h)

  -- once more was heard the server has executed as much
  executed_hearing : (more : List Heard) → (questions seat records more).here.executed ≡ before.here.executed
  unfolding questions
  executed_hearing more = refl

  module _ (up : IsUpToDate before) where
    -- what the server has in hand above its log is what was heard
    next_none : heard_proof seat heard (before.here.executed + 1) ≡ None
    next_none = sym (in_hand-open seat records heard (before.here.executed + 1) (omega arith)) ∙ up.next

    beyond_none : (n : ℕ) → before.here.executed + WINDOW < n → heard_proof seat heard n ≡ None
    beyond_none n above = sym (in_hand-open seat records heard n (omega arith)) ∙ up.beyond n above

    -- a quiet step executes nothing, and nothing more is in hand
    quiet_is_due : (step : Step) → IsQuiet step → IsDue step.changes step.heard
    unfolding ExecutesFrom
    quiet_is_due step h =
        record {
          executes =
              subst (λ xs. ExecutesFrom (heard_proof seat (heard ++ step.heard)) (before.here.executed + 1) xs) (sym (none_executing step.changes h.0))
              (heard_proof-silent seat heard step.heard (before.here.executed + 1) (all_silent (before.here.executed + 1) step.heard h.1) ∙ next_none);
          beyond = λ n above. heard_proof-silent seat heard step.heard n (all_silent n step.heard h.1);
        }

    quiet_answer_is_due : (answer : Answer) → IsQuietAnswer answer → IsDueAnswer answer
    quiet_answer_is_due (Refused reason) h = tt
    quiet_answer_is_due (Steps step) h = quiet_is_due step h

    -- a message that orders one number of the window is kept, and what then is in hand is executed
    orders_is_due : (m : Message) (n : ℕ) → n ≤ before.here.executed + WINDOW → ((k : ℕ) → (n ≡ k → ⊥) → IsSilent k (record { own = false; message = m })) →
        IsDue (keeps_and_executes before.here before.hand m).changes (record { own = false; message = m } ∷ [])
    unfolding hears takes cuts
    orders_is_due m n inside silent =
        record {
          executes =
              executes_same (in_hand before.here hand) (heard_proof seat (heard ++ x ∷ [])) (before.here.executed + 1) (executing (executions before.here hand WINDOW (before.here.executed + 1)))
              (λ k above. known k (omega arith))
              (executions_execute before.here hand WINDOW (before.here.executed + 1)
              (known (before.here.executed + 1 + WINDOW) (omega arith) ∙ still (before.here.executed + 1 + WINDOW) (omega arith) ∙ beyond_none (before.here.executed + 1 + WINDOW) (omega arith)));
          beyond = still;
        }
      where
        x : Heard
        x = record { own = false; message = m }

        hand : Hand
        hand = hand_cuts before.here (hand_takes x before.hand)

        known : (k : ℕ) → before.here.executed < k → in_hand before.here hand k ≡ heard_proof seat (heard ++ x ∷ []) k
        known k above =
            ap (λ (q : Answers). in_hand_at q k) (sym (one_heard seat records heard x))
            ∙ in_hand-open seat records (heard ++ x ∷ []) k (subst (λ e. e < k) (sym (executed_hearing (heard ++ x ∷ []))) above)

        still : (k : ℕ) → before.here.executed + WINDOW < k → heard_proof seat (heard ++ x ∷ []) k ≡ heard_proof seat heard k
        still k above = heard_proof-silent seat heard (x ∷ []) k (silent k (λ e. omega (arith, inside, above, e)), tt)

    -- ---- each answer

    -- a number beyond the window is refused, and otherwise the step is due
    due_within : (n : ℕ) (ts : List (Bool × Reason)) (step : Step) → (n ≤ before.here.executed + WINDOW → IsDue step.changes step.heard) → IsDueAnswer (decides (beyond before.here n ∷ ts) step)
    due_within n ts step h = decides_fits IsDueAnswer (λ reason. tt) (beyond before.here n ∷ ts) step (λ none. h (within before.here n none.0))

    due_accept : (site view n : ℕ) (value : Value) (q : Quorum) → IsDueAnswer (on_accept before.here before.hand site view n value q)
    due_accept site view n value q =
        due_within n (seen (is_seen_word before.hand site view n) ∷ full n ∷ []) (accept_step before.here before.hand site view n value q)
        (λ inside. orders_is_due (messages.Certificate (an_accept site view n value) q) n inside (silent_accept site view n value q))

    due_order_proof : (n : ℕ) (p : Proof) → IsDueAnswer (on_order_proof before.here before.hand n p)
    due_order_proof n p =
        due_within n (seen (is_some (before.hand.proof n)) ∷ full n ∷ []) (keeps_and_executes before.here before.hand (messages.OrderProof (record { 0 = n }) p))
        (λ inside. orders_is_due (messages.OrderProof (record { 0 = n }) p) n inside (silent_proof n p))

    due_event : {Wire : Type 0} (read : Wire → Reading) (event : Event Wire) → IsDueAnswer (of_event read before event)
    due_event read event = event_by before IsDueAnswer quiet_answer_is_due due_accept due_order_proof read event

    -- ---- the plan

    -- a step is due as its course carries it out
    due_course : (pen : Pen) (step : Step) → IsDue step.changes step.heard → IsDue (course pen before step).changes (course pen before step).heard
    due_course pen step due =
        let way : Course = course pen before step in
        let same : (k : ℕ) → heard_proof seat (heard ++ way.heard) k ≡ heard_proof seat (heard ++ step.heard) k = λ k. heard_proof-same seat heard step.heard way.heard k (course_hears pen before step) in
        record {
          executes =
              executes_same (heard_proof seat (heard ++ step.heard)) (heard_proof seat (heard ++ way.heard)) (before.here.executed + 1) (executing way.changes) (λ k above. sym (same k))
              (subst (λ xs. ExecutesFrom (heard_proof seat (heard ++ step.heard)) (before.here.executed + 1) xs) (sym (course_executes pen before step)) due.executes);
          beyond = λ n above. same n ∙ due.beyond n above;
        }

    -- so is an answer
    due_plan_by : (pen : Pen) (answer : Answer) → IsDueAnswer answer → IsDue (plan_by pen before answer).changes (plan_by pen before answer).heard
    due_plan_by pen (Refused reason) due = quiet_is_due idle (tt, tt)
    due_plan_by pen (Steps step) due = due_course pen step due

    -- So is the plan of an event.
    pub due_plan : {Wire : Type 0} (read : Wire → Reading) (pen : Pen) (event : Event Wire) → IsDue (plan_of read pen before event).changes (plan_of read pen before event).heard
    unfolding plan_of
    due_plan read pen event = due_plan_by pen (of_event read before event) (due_event read event)

  -- ---- the laws

  -- what is due is in hand once it was heard
  executes_in_hand : (changes : List Change) (added : List Heard) → IsDue changes added → ExecutesInHand (questions seat records (heard ++ added)) changes
  executes_in_hand changes added due =
      let after : Answers = questions seat records (heard ++ added) in
      let same : after.here.executed ≡ before.here.executed = executed_hearing (heard ++ added) in
      executes_same (heard_proof seat (heard ++ added)) (in_hand_at after) (after.here.executed + 1) (executing changes)
      (λ k above. sym (in_hand-open seat records (heard ++ added) k (omega (arith, above))))
      (subst (λ e. ExecutesFrom (heard_proof seat (heard ++ added)) (e + 1) (executing changes)) (sym same) due.executes)

  -- and then nothing is left in hand
  up_to_date_again : (changes : List Change) (added : List Heard) → IsUpToDate before → IsDue changes added → IsUpToDate (questions seat (records ++ changes ∷ []) (heard ++ added))
  up_to_date_again changes added up due =
      let after : Answers = questions seat (records ++ changes ∷ []) (heard ++ added) in
      let more : after.here.executed ≡ before.here.executed + length (executing changes) = executed_more seat records changes heard (heard ++ added) in
      let next : after.here.executed + 1 ≡ before.here.executed + 1 + length (executing changes) = omega (arith, more) in
      record {
        next =
            in_hand-open seat (records ++ changes ∷ []) (heard ++ added) (after.here.executed + 1) (omega arith)
            ∙ ap (heard_proof seat (heard ++ added)) next
            ∙ executes_until (heard_proof seat (heard ++ added)) (before.here.executed + 1) (executing changes) due.executes;
        beyond = λ n above.
            in_hand-open seat (records ++ changes ∷ []) (heard ++ added) n (omega (arith, above))
            ∙ due.beyond n (omega (arith, above, more))
            ∙ beyond_none up n (omega (arith, above, more));
      }

  -- An event executes what is in hand once its message was heard.
  pub event_executes : {Wire : Type 0} (read : Wire → Reading) (pen : Pen) (event : Event Wire) → IsUpToDate before →
      ExecutesInHand (questions seat records (heard ++ (duty read pen seat records heard event).heard)) (duty read pen seat records heard event).changes
  event_executes read pen event up = executes_in_hand _ _ (due_plan up read pen event)

  -- It leaves nothing in hand.
  pub event_leaves : {Wire : Type 0} (read : Wire → Reading) (pen : Pen) (event : Event Wire) → IsUpToDate before →
      IsUpToDate (questions seat (records ++ (duty read pen seat records heard event).changes ∷ []) (heard ++ (duty read pen seat records heard event).heard))
  event_leaves read pen event up = up_to_date_again _ _ up (due_plan up read pen event)
