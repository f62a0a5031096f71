-- One number of a flat world, as tests, and what is safe and chosen there.
use Rattle.std.specs.Prelude.{ℕ, ◌<◌, ◌⊎◌, Bool, false, IsTrue, List}
use Rattle.st_counts.specs.Counts.{HasMajority}

-- What stands at one number: each member has for each view a register, which is unwritten, accepted a
-- value or is closed.
pub record Tests (V : Type 0) : Type 0 where
  pub members : List ℕ
  -- view, value
  pub proposed : ℕ → V → Bool
  -- member, view, value
  pub accepted : ℕ → ℕ → V → Bool
  -- member, view
  pub closed : ℕ → ℕ → Bool
  pub logged : V → Bool

-- where nothing has happened
abbrev pub start : {V : Type 0} → List ℕ → Tests V
start members =
    record {
      members = members;
      proposed = λ view v. false;
      accepted = λ member view v. false;
      closed = λ member view. false;
      logged = λ v. false;
    }

-- the member's register of the view is unwritten
pub record IsUnwritten {V : Type 0} (t : Tests V) (member view : ℕ) : Type 0 where
  pub not_accepted : (v : V) → ¬ IsTrue (t.accepted member view v)
  pub not_closed : ¬ IsTrue (t.closed member view)

-- in each lower view the value is proposed, or a majority of the registers is closed
abbrev pub Safe : {V : Type 0} → Tests V → ℕ → V → Type 0
Safe t view v = (lower : ℕ) → lower < view → IsTrue (t.proposed lower v) ⊎ HasMajority t.members (λ m. t.closed m lower)

-- a majority has accepted the value in one view
abbrev pub IsChosen : {V : Type 0} → Tests V → V → Type 0
IsChosen t v = (view : ℕ) × HasMajority t.members (λ m. t.accepted m view v)
