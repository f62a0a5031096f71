-- The four kinds of flat steps, and runs of them.
use Rattle.std.specs.Prelude.{◌≡◌, ◌↔◌, ℕ, ◌⊎◌, Bool, IsTrue, List, [], ◌∷◌}
use Rattle.st_counts.specs.Counts.{Has}
use Rattle.st_registers.specs.Tests.{Tests, IsUnwritten, Safe, IsChosen}

-- A value is proposed in a view in which nothing is, where it is safe.
pub record Proposes {V : Type 0} (old new : Tests V) (view : ℕ) (v : V) : Type 0 where
  pub free : (u : V) → ¬ IsTrue (old.proposed view u)
  pub safe : Safe old view v
  pub proposed : (h : ℕ) (u : V) → IsTrue (new.proposed h u) ↔ (IsTrue (old.proposed h u) ⊎ ((h ≡ view) × (u ≡ v)))
  pub others : new ≡ record old { proposed = new.proposed }

-- A member accepts the value that is proposed in the view, where its register is unwritten.
pub record Accepts {V : Type 0} (old new : Tests V) (member view : ℕ) (v : V) : Type 0 where
  pub is_member : Has member old.members
  pub is_proposed : IsTrue (old.proposed view v)
  pub unwritten : IsUnwritten old member view
  pub accepted : (m h : ℕ) (u : V) → IsTrue (new.accepted m h u) ↔ (IsTrue (old.accepted m h u) ⊎ ((m ≡ member) × (h ≡ view) × (u ≡ v)))
  pub others : new ≡ record old { accepted = new.accepted }

-- The registers that the test chooses, all of them unwritten, are closed.
pub record Closes {V : Type 0} (old new : Tests V) (is_closing : ℕ → ℕ → Bool) : Type 0 where
  pub unwritten : (m h : ℕ) → IsTrue (is_closing m h) → IsUnwritten old m h
  pub closed : (m h : ℕ) → IsTrue (new.closed m h) ↔ (IsTrue (old.closed m h) ⊎ IsTrue (is_closing m h))
  pub others : new ≡ record old { closed = new.closed }

-- A value that a majority has accepted in one view is put into the log.
pub record Orders {V : Type 0} (old new : Tests V) (v : V) : Type 0 where
  pub chosen : IsChosen old v
  pub logged : (u : V) → IsTrue (new.logged u) ↔ (IsTrue (old.logged u) ⊎ (u ≡ v))
  pub others : new ≡ record old { logged = new.logged }

-- A step at one number: all other numbers are as they were.
pub record At {V : Type 0} (number : ℕ) (Step : Tests V → Tests V → Type 0) (old new : ℕ → Tests V) : Type 0 where
  pub here : Step (old number) (new number)
  pub others : (n : ℕ) → ¬ (n ≡ number) → new n ≡ old n

-- A flat step from one flat world to the next. A flat world has its tests for each number.
pub data FlatStep {V : Type 0} (old new : ℕ → Tests V) : Type 0 where
  proposes : (number view : ℕ) (v : V) → At number (λ a b. Proposes a b view v) old new → FlatStep old new
  accepts : (number member view : ℕ) (v : V) → At number (λ a b. Accepts a b member view v) old new → FlatStep old new
  closes : (is_closing : ℕ → ℕ → ℕ → Bool) → ((n : ℕ) → Closes (old n) (new n) (is_closing n)) → FlatStep old new
  orders : (number : ℕ) (v : V) → At number (λ a b. Orders a b v) old new → FlatStep old new

-- Each world of the list comes by one step from the one before it, and the first from this world.
abbrev pub IsRun : {W : Type 0} → (W → W → Type 0) → W → List W → Type 0
IsRun Step world [] = Unit {0}
IsRun Step world (next ∷ later) = Step world next × IsRun Step next later

-- in whatever worlds of the list two values are in the log of one number, they are the same
abbrev pub LogsOneValue : {V : Type 0} → List (ℕ → Tests V) → Type 0
LogsOneValue {V} worlds =
    (a b : ℕ → Tests V) → Has a worlds → Has b worlds → (number : ℕ) (u v : V) → IsTrue ((a number).logged u) → IsTrue ((b number).logged v) → u ≡ v
