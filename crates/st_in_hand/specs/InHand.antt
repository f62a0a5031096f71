-- A number that is in hand is executed: what that says of a server, and of an event of it.
use Rattle.std.specs.Prelude.{◌≡◌, ℕ, ◌+◌, ◌<◌, Option, Some, None, List, [], ◌∷◌, ◌++◌}
use Rattle.std.specs.List.{filter}
use Rattle.st_words.specs.declared.deployment.TheConstants.{WINDOW}
use Rattle.st_message.specs.declared.message.Proof.{Proof}
use Rattle.st_message.specs.declared.event.Plan.{Plan}
use Rattle.st_message.specs.declared.change.Change.{Change}
use Rattle.st_message.specs.declared.change.Change.TheVariants.{Executed}
use Rattle.st_protocol.specs.State.{Answers}
use Rattle.st_protocol.specs.Questions.{is_executed, questions}
use Rattle.st_protocol.specs.Ordering.{in_hand}
use Rattle.st_protocol.specs.World.{Deployment, World, seat_of}

-- the proof of a number that a server has in hand
abbrev pub in_hand_at : Answers → ℕ → Option Proof
in_hand_at state n = in_hand state.here state.hand n

-- A server that has executed what it can: the next number isn't in hand, and neither is any beyond the window.
pub record IsUpToDate (state : Answers) : Type 0 where
  pub next : in_hand_at state (state.here.executed + 1) ≡ None
  pub beyond : (n : ℕ) → state.here.executed + WINDOW < n → in_hand_at state n ≡ None

-- Changes that execute the numbers from n on, one by one and each with its proof, up to the first number that has no proof.
unfoldable pub ExecutesFrom : (ℕ → Option Proof) → ℕ → List Change → Type 0
ExecutesFrom proof n [] = proof n ≡ None
ExecutesFrom proof n (x ∷ xs) = (p : Proof) × (proof n ≡ Some p) × (x ≡ Executed (record { 0 = n }) p) × ExecutesFrom proof (n + 1) xs

-- of changes those that execute a number
abbrev pub executing : List Change → List Change
executing changes = filter is_executed changes

-- A body executes exactly what a server has in hand, from its next number on without a gap.
abbrev pub ExecutesInHand : Answers → List Change → Type 0
ExecutesInHand state changes = ExecutesFrom (in_hand_at state) (state.here.executed + 1) (executing changes)

-- what a server of a world answers once it has heard what its plan keeps, and before it executes any of it
abbrev pub answers_hearing : {Wire : Type 0} → Deployment Wire → World Wire → ℕ → ℕ → Plan → Answers
answers_hearing d world site index plan =
    questions (seat_of d site index) (world.nodes site index).bodies ((world.nodes site index).heard ++ plan.heard)
