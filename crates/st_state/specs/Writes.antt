-- How an entry of a number of the window is written.
use Rattle.std.specs.Prelude.{ℕ, ◌≡◌, cond, nat_eq, ◌&&◌, Option, Some, None, List}
use Rattle.st_tables.specs.Entries.{entry}
use Rattle.st_tables.specs.Window.{kept}
use Rattle.st_protocol.specs.Keeping.{or_else}

-- the number's entry is now `item`, and all others stay
abbrev pub Puts : {A : Type 0} → ℕ → List (Option A) → List (Option A) → ℕ → Option A → Type 0
Puts base old new n item = (k : ℕ) → kept base new k ≡ cond (nat_eq n k) item (kept base old k)

-- of the number's entry and this item, the first stays
abbrev pub PutsFirst : {A : Type 0} → ℕ → List (Option A) → List (Option A) → ℕ → A → Type 0
PutsFirst base old new n item = Puts base old new n (or_else (kept base old n) (Some item))

-- a server's entry among those of a number
abbrev pub among : {A : Type 0} → Option (List (Option A)) → ℕ → Option A
among None i = None
among (Some xs) i = entry xs i

-- of a server's entry of a number and this item, the first stays; all others stay
abbrev pub PutsAmong : {A : Type 0} → ℕ → List (Option (List (Option A))) → List (Option (List (Option A))) → ℕ → ℕ → A → Type 0
PutsAmong base old new n j item =
    (k i : ℕ) → among (kept base new k) i ≡ cond (nat_eq n k && nat_eq j i) (or_else (among (kept base old n) j) (Some item)) (among (kept base old k) i)
