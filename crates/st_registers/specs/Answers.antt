-- What the calls on a flat world answer, and why. Each answer stands for one state of affairs; want of
-- memory alone may come in any.
use Rattle.std.specs.Prelude.{◌≡◌, ℕ, ◌<◌, IsTrue, Result, Ok, Err}
use Rattle.st_counts.specs.Counts.{HasMajority}
use Rattle.st_registers.specs.Tests.{Tests, IsUnwritten, Safe}
use Rattle.st_registers.specs.declared.error.FlatError.{FlatError}
use Rattle.st_registers.specs.declared.error.FlatError.TheVariants.{Taken, Unsafe, NotProposed, Written, NoMajority, OutOfMemory}

-- another value is proposed in the view
pub record IsTaken {V : Type 0} (t : Tests V) (view : ℕ) (v : V) : Type 0 where
  pub other : V
  pub differs : ¬ (other ≡ v)
  pub proposed : IsTrue (t.proposed view other)

-- a lower view has neither the value proposed nor a majority of the registers closed
pub record IsUnsafe {V : Type 0} (t : Tests V) (view : ℕ) (v : V) : Type 0 where
  pub lower : ℕ
  pub below : lower < view
  pub not_proposed : ¬ IsTrue (t.proposed lower v)
  pub not_closed : ¬ HasMajority t.members (λ m. t.closed m lower)

-- a value is proposed in the view
abbrev pub IsProposed : {V : Type 0} → Tests V → ℕ → Type 0
IsProposed {V} t view = (v : V) × IsTrue (t.proposed view v)

-- a majority has accepted one value in the view
abbrev pub IsChosenIn : {V : Type 0} → Tests V → ℕ → Type 0
IsChosenIn {V} t view = (v : V) × HasMajority t.members (λ m. t.accepted m view v)

-- a proposal: taken first, then unsafe
abbrev pub ProposeAnswers : {V : Type 0} → Tests V → ℕ → V → Result (Unit {0}) FlatError → Type 0
ProposeAnswers t view v (Ok _) = (¬ IsTaken t view v) × Safe t view v
ProposeAnswers t view v (Err Taken) = IsTaken t view v
ProposeAnswers t view v (Err Unsafe) = (¬ IsTaken t view v) × IsUnsafe t view v
ProposeAnswers t view v (Err OutOfMemory) = Unit {0}
ProposeAnswers t view v (Err _) = ⊥

-- an acceptance: not proposed first, then written
abbrev pub AcceptAnswers : {V : Type 0} → Tests V → ℕ → ℕ → Result (Unit {0}) FlatError → Type 0
AcceptAnswers t member view (Ok _) = IsProposed t view × IsUnwritten t member view
AcceptAnswers t member view (Err NotProposed) = ¬ IsProposed t view
AcceptAnswers t member view (Err Written) = IsProposed t view × (¬ IsUnwritten t member view)
AcceptAnswers t member view (Err OutOfMemory) = Unit {0}
AcceptAnswers t member view (Err _) = ⊥

-- a closing: written
abbrev pub CloseAnswers : {V : Type 0} → Tests V → ℕ → ℕ → Result (Unit {0}) FlatError → Type 0
CloseAnswers t member view (Ok _) = IsUnwritten t member view
CloseAnswers t member view (Err Written) = ¬ IsUnwritten t member view
CloseAnswers t member view (Err OutOfMemory) = Unit {0}
CloseAnswers t member view (Err _) = ⊥

-- an order: no majority
abbrev pub OrderAnswers : {V : Type 0} → Tests V → ℕ → Result (Unit {0}) FlatError → Type 0
OrderAnswers t view (Ok _) = IsChosenIn t view
OrderAnswers t view (Err NoMajority) = ¬ IsChosenIn t view
OrderAnswers t view (Err OutOfMemory) = Unit {0}
OrderAnswers t view (Err _) = ⊥
