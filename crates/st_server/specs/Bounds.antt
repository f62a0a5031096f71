-- What holds of every state that a server comes to: its deployment's numbers, and the last number of a log.
use Rattle.std.specs.Prelude.{ℕ, ◌≡◌, ◌*◌, ◌^◌, ◌<◌, ◌≤◌, nat_le, Bool, true, ◌&&◌, Some, List, [], ◌∷◌, IsTrue}
use Rattle.st_words.specs.declared.deployment.TheConstants.{LAST_NUMBER}
use Rattle.st_words.specs.declared.statement.Statement.TheVariants.{Accept}
use Rattle.st_message.specs.declared.change.Change.{Change}
use Rattle.st_message.specs.declared.change.Change.TheVariants.{Executed}
use Rattle.st_message.specs.declared.change.Heard.{Heard}
use Rattle.st_message.specs.declared.message.Message.{Message}
use Rattle.st_message.specs.declared.message.Message.TheVariants as messages
use Rattle.st_message.specs.declared.message.Proof.{Proof}
use Rattle.st_message.specs.declared.step.Step.{Step}
use Rattle.st_protocol.specs.State.{Seat, Answers, Word}
use Rattle.st_live.specs.declared.live.Live.{Live}
use Rattle.st_live.specs.LiveView.{IsLive}

-- A deployment's numbers.
pub record IsSeat (seat : Seat) : Type 0 where
  -- the index of each of a site's servers is a byte
  pub servers : 3 * seat.f < 256
  pub sites : 0 < seat.sites
  pub capacity : seat.capacity ≤ 2 ^ 20

-- Nothing is executed, or in hand, above the last number of a log.
pub record IsBound (q : Answers) : Type 0 where
  pub seat : IsSeat q.here.seat
  pub executed : q.here.executed ≤ LAST_NUMBER
  pub words : (n s : ℕ) (w : Word) → q.hand.word n s ≡ Some w → n ≤ LAST_NUMBER
  pub proofs : (n : ℕ) (p : Proof) → q.hand.proof n ≡ Some p → n ≤ LAST_NUMBER

-- it executes no number above a log's last
abbrev pub is_low : Change → Bool
is_low (Executed n p) = nat_le n.0 LAST_NUMBER
is_low x = true

-- it orders no number above a log's last
abbrev pub is_low_message : Message → Bool
is_low_message (messages.Certificate (Accept s g n v) q) = nat_le n.0 LAST_NUMBER
is_low_message (messages.OrderProof n p) = nat_le n.0 LAST_NUMBER
is_low_message m = true

-- each executes no number above a log's last
abbrev pub all_low : List Change → Bool
all_low [] = true
all_low (x ∷ xs) = is_low x && all_low xs

-- each orders no number above a log's last
abbrev pub all_low_heard : List Heard → Bool
all_low_heard [] = true
all_low_heard (m ∷ ms) = is_low_message m.message && all_low_heard ms

-- A short state that stands for such answers.
pub record IsSound (live : Live) : Type 0 where
  pub answers : Answers
  pub stands : IsLive live answers
  pub bound : IsBound answers

-- A step that executes, and hears of, no number above a log's last.
pub record IsLowStep (step : Step) : Type 0 where
  pub changes : IsTrue (all_low step.changes)
  pub heard : IsTrue (all_low_heard step.heard)
