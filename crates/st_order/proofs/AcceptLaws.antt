-- The tables take what an Accept certificate executes and keeps, where no reason is against it.
use Rattle.std.proofs.Common.{◌≡◌, sym, ℕ, zero, suc, ◌+◌, ◌<◌, ◌≤◌, true, false, nat_lt, nat_le, Option, Some, None, List, [], ◌∷◌, refl, arith}
use Rattle.std.proofs.lemmas.Bool.{eq-eqb}
use Rattle.st_words.specs.declared.value.Value.{Value}
use Rattle.st_words.specs.declared.statement.Statement.{Statement}
use Rattle.st_message.specs.declared.message.Proof.{Proof}
use Rattle.st_message.specs.declared.message.Message.TheVariants as messages
use Rattle.st_message.specs.declared.change.Change.{Change}
use Rattle.st_message.specs.declared.step.Step.{Step}
use Rattle.st_message.specs.declared.change.Change.TheVariants.{Executed}
use Rattle.st_protocol.specs.Words.{Quorum, an_accept}
use Rattle.st_protocol.specs.Keeping.{given}
use Rattle.st_protocol.specs.State.{Here, Hand}
use Rattle.st_protocol.specs.Growth.{hand_takes, hand_cuts}
use Rattle.st_protocol.specs.Step.{out_of_window}
use Rattle.st_protocol.specs.Ordering.{in_hand, executions, accept_reasons, accept_step}
use Rattle.st_protocol.specs.Part.{first_reason}
use Rattle.st_protocol.proofs.PartLaws.{none_true}
use Rattle.st_state.specs.Placed.{all_executed, all_placed, here_after_all, Fits}

-- where the next number leaves a server
abbrev one_more : Here → Here
one_more at = record at { executed = at.executed + 1 }

-- numbers are executed one after another, whatever the hand is of which they are
pub all_executed_in_order : (at h : Here) (hand : Hand) (k n : ℕ) → n ≡ at.executed + 1 → all_executed at (executions h hand k n) ≡ true
unfolding executions
all_executed_in_order at h hand zero n next = refl
all_executed_in_order at h hand (suc k) n next =
    by_proof (in_hand h hand n) (all_executed_in_order (one_more at) h hand k (n + 1) (omega (arith, next)))
  where
    by_proof : (p : Option Proof) → all_executed (one_more at) (executions h hand k (n + 1)) ≡ true
        → all_executed at (given p [] (λ x. Executed (record { 0 = n }) x ∷ executions h hand k (n + 1))) ≡ true
    by_proof None more = refl
    by_proof (Some p) more = rw (eq-eqb n (at.executed + 1) next, more) refl

-- the tables take them
pub executions_placed : (h : Here) (hand : Hand) (k : ℕ) → all_placed h (executions h hand k (h.executed + 1)) ≡ true
unfolding executions
executions_placed h hand zero = refl
executions_placed h hand (suc k) =
    by_proof (in_hand h hand (h.executed + 1)) (all_executed_in_order (one_more h) h hand k (h.executed + 1 + 1) refl)
  where
    by_proof : (p : Option Proof) → all_executed (one_more h) (executions h hand k (h.executed + 1 + 1)) ≡ true
        → all_placed h (given p [] (λ x. Executed (record { 0 = h.executed + 1 }) x ∷ executions h hand k (h.executed + 1 + 1))) ≡ true
    by_proof None more = refl
    by_proof (Some p) more = rw (eq-eqb (h.executed + 1) (h.executed + 1) refl, more) refl

-- where they leave a server: as many sites, and no fewer numbers
pub record IsAfter (before after : Here) : Type 0 where
  pub sites : after.seat.sites ≡ before.seat.sites
  pub executed : before.executed ≤ after.executed

pub after_executions : (at h : Here) (hand : Hand) (k n : ℕ) → IsAfter at (here_after_all at (executions h hand k n))
unfolding executions
after_executions at h hand zero n = record { sites = refl; executed = omega arith }
after_executions at h hand (suc k) n = by_proof (in_hand h hand n) (after_executions (one_more at) h hand k (n + 1))
  where
    by_proof : (p : Option Proof) → IsAfter (one_more at) (here_after_all (one_more at) (executions h hand k (n + 1)))
        → IsAfter at (here_after_all at (given p [] (λ x. Executed (record { 0 = n }) x ∷ executions h hand k (n + 1))))
    by_proof None more = record { sites = refl; executed = omega arith }
    by_proof (Some p) more = record { sites = more.sites; executed = omega (arith, more.executed) }

pub accept_fits : (h : Here) (hand : Hand) (site view n : ℕ) (value : Value) (q : Quorum)
    → first_reason (accept_reasons h hand site view n) ≡ None → site < h.seat.sites
    → Fits h (accept_step h hand site view n value q)
accept_fits h hand site view n value q none known =
    let tests = none_true (accept_reasons h hand site view n) none in
    let kept = hand_cuts h (hand_takes (record { own = false; message = messages.Certificate (an_accept site view n value) q }) hand) in
    let end = here_after_all h (executions h kept 16 (h.executed + 1)) in
    let after : IsAfter h end = after_executions h h kept 16 (h.executed + 1) in
    let near : nat_le n (end.executed + 16) ≡ true = within h end n tests.0 after.executed in
    let of_deployment : nat_lt site end.seat.sites ≡ true = below site h.seat.sites end.seat.sites known after.sites in
    record { placed = executions_placed h kept 16; taken = rw (near, of_deployment) refl }
  where
    within : (a b : Here) (m : ℕ) → out_of_window a m ≡ false → a.executed ≤ b.executed → nat_le m (b.executed + 16) ≡ true
    within a b m inside up = grind (arith, inside, up)

    below : (s a b : ℕ) → s < a → b ≡ a → nat_lt s b ≡ true
    below s a b less same = grind (arith, less, same)

-- a number that no reason is against isn't above the window
pub accept_near : (h : Here) (hand : Hand) (site view n : ℕ) → None ≡ first_reason (accept_reasons h hand site view n) → n ≤ h.executed + 16
accept_near h hand site view n none =
    let tests = none_true (accept_reasons h hand site view n) (sym none) in
    by_test h n tests.0
  where
    by_test : (a : Here) (m : ℕ) → out_of_window a m ≡ false → m ≤ a.executed + 16
    by_test a m inside = grind (arith, inside)

-- the step of a certificate, from the hand with it
pub accept_step_is : (h : Here) (hand kept : Hand) (site view n : ℕ) (value : Value) (q : Quorum) (s : Statement) (changes : List Change) (step : Step)
    → step ≡ record { changes = changes; heard = record { own = false; message = messages.Certificate s q } ∷ []; out = [] }
    → changes ≡ executions h kept 16 (h.executed + 1)
    → kept ≡ hand_cuts h (hand_takes (record { own = false; message = messages.Certificate (an_accept site view n value) q }) hand)
    → s ≡ an_accept site view n value
    → step ≡ accept_step h hand site view n value q
accept_step_is h hand kept site view n value q s changes step step_by changes_by kept_by s_by = cc
