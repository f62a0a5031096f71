-- What a sealer is to those who see only its seals.
use Rattle.std.specs.Prelude.{◌≡◌, ℕ, ◌<◌, ◌≤◌, ◌^◌, List, Bool, IsTrue, length}
use Rattle.st_words.specs.declared.ids.Who.{Who}
use Rattle.st_words.specs.declared.deployment.Deployment.{Deployment}
use Rattle.st_seal.specs.Scheme.{Scheme, scheme_of}

-- whether a seal is this party's over these bytes
abbrev pub Checks : Type 0
Checks = Who → List ℕ → List ℕ → Bool

-- a party's seals: whose they are, in which scheme, how many leaves there are, the seal that a leaf
-- gives for bytes, and the check of the scheme
pub record Pen : Type 0 where
  pub owner : Who
  pub scheme : Scheme
  pub capacity : ℕ
  pub seal_of : ℕ → List ℕ → List ℕ
  pub checks : Checks

-- the pen is of the deployment
abbrev pub IsOf : Deployment → Pen → Type 0
IsOf d pen = pen.scheme ≡ scheme_of d

-- what the pen seals, the check accepts as its owner's
abbrev pub Accepts : Checks → Pen → Type 0
Accepts checks pen = (leaf : ℕ) (bytes : List ℕ) → leaf < pen.capacity → IsTrue (checks pen.owner bytes (pen.seal_of leaf bytes))

-- the longest seal: of height 10, width 4 and two levels
abbrev pub most_seal : ℕ
most_seal = 5076

-- the laws of a pen: its seals check in its own scheme, a message has room for each of them, and its
-- leaves are few. That a leaf with the same bytes gives the same seal is said by `seal_of` being a function.
pub record IsSound (pen : Pen) : Type 0 where
  pub accepted : Accepts pen.checks pen
  pub fits : (leaf : ℕ) (bytes : List ℕ) → leaf < pen.capacity → (1 ≤ length (pen.seal_of leaf bytes)) × (length (pen.seal_of leaf bytes) ≤ most_seal)
  pub few : pen.capacity ≤ 2 ^ 20
