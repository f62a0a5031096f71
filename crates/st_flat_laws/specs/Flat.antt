-- Runs of flat steps, in order, between flat worlds that are alike.
use Rattle.std.specs.Prelude.{◌≡◌, ◌↔◌, ℕ, ◌<◌, ◌≤◌, Bool, IsTrue, suc, List, [], ◌∷◌}
use Rattle.st_counts.specs.Counts.{Has}
use Rattle.st_registers.specs.Steps.{Proposes, Accepts, Closes, Orders, At, IsRun}
use Rattle.st_registers.specs.Tests.{Tests}

-- ---- runs

-- the last of a world and those behind it
abbrev pub last_in : {W : Type 0} → W → List W → W
last_in w [] = w
last_in w (x ∷ xs) = last_in x xs

-- A run of steps leads from one world to another.
pub record Along {W : Type 0} (Step : W → W → Type 0) (old new : W) : Type 0 where
  pub worlds : List W
  pub run : IsRun Step old worlds
  pub ends : last_in old worlds ≡ new

-- a step in a view not below that of the step before it; with each world goes the view of the step that led to it
abbrev pub Higher : {W : Type 0} → (ℕ → W → W → Type 0) → ℕ × W → ℕ × W → Type 0
Higher Step old new = (old.0 ≤ new.0) × Step new.0 old.1 new.1

-- A run of steps by rising view leads from one world to another.
pub record Rising {W : Type 0} (Step : ℕ → W → W → Type 0) (old new : W) : Type 0 where
  pub highest : ℕ
  pub along : Along (Higher Step) (0, old) (highest, new)

-- Proposals by rising view, then acceptances, then orders lead from one world to another.
pub record InOrder {W : Type 0} (Proposal : ℕ → W → W → Type 0) (Acceptance Order : W → W → Type 0) (old new : W) : Type 0 where
  pub proposed : W
  pub accepted : W
  pub proposals : Rising Proposal old proposed
  pub acceptances : Along Acceptance proposed accepted
  pub orders : Along Order accepted new

-- ---- flat steps by their kinds

-- some value is proposed in the view
abbrev pub ProposesOne : {V : Type 0} → ℕ → Tests V → Tests V → Type 0
ProposesOne {V} view old new = (v : V) × Proposes old new view v

-- some member accepts some value
abbrev pub AcceptsOne : {V : Type 0} → Tests V → Tests V → Type 0
AcceptsOne {V} old new = (member view : ℕ) × ((v : V) × Accepts old new member view v)

-- some value is put into the log
abbrev pub OrdersOne : {V : Type 0} → Tests V → Tests V → Type 0
OrdersOne {V} old new = (v : V) × Orders old new v

-- some registers are closed, of whatever numbers
abbrev pub ClosesSome : {V : Type 0} → (ℕ → Tests V) → (ℕ → Tests V) → Type 0
ClosesSome old new = (is_closing : ℕ → ℕ → ℕ → Bool) × ((n : ℕ) → Closes (old n) (new n) (is_closing n))

-- Flat steps at one number: first proposals by rising view, then acceptances, then orders.
abbrev pub LeadsAt : {V : Type 0} → ℕ → (ℕ → Tests V) → (ℕ → Tests V) → Type 0
LeadsAt number old new = InOrder (λ view. At number (ProposesOne view)) (At number AcceptsOne) (At number OrdersOne) old new

-- ---- flat worlds that are alike

-- The same members, and of them the same registers; the same proposals and the same log.
pub record Alike {V : Type 0} (t u : Tests V) : Type 0 where
  pub members : t.members ≡ u.members
  pub proposed : (view : ℕ) (v : V) → IsTrue (t.proposed view v) ↔ IsTrue (u.proposed view v)
  pub accepted : (m view : ℕ) (v : V) → Has m u.members → IsTrue (t.accepted m view v) ↔ IsTrue (u.accepted m view v)
  pub closed : (m view : ℕ) → Has m u.members → t.closed m view ≡ u.closed m view
  pub logged : (v : V) → IsTrue (t.logged v) ↔ IsTrue (u.logged v)

-- What is proposed is of these views and values.
abbrev pub ProposesWithin : {V : Type 0} → ℕ → List V → Tests V → Type 0
ProposesWithin {V} top values t = (view : ℕ) (v : V) → IsTrue (t.proposed view v) → (view < top) × Has v values

-- Flat steps lead from one flat world to one alike to another at each number, in order: first all that is closed, in one
-- step, then number by number proposals by rising view, acceptances and orders.
pub record LeadsFlat {V : Type 0} (old new : ℕ → Tests V) : Type 0 where
  -- how many numbers have steps of their own
  pub numbers : ℕ
  -- the flat world before the steps at each number
  pub before : ℕ → ℕ → Tests V
  pub closings : ClosesSome old (before 0)
  pub each : (n : ℕ) → n < numbers → LeadsAt n (before n) (before (suc n))
  pub alike : (n : ℕ) → Alike (before numbers n) (new n)
