-- A ring: the entries of the numbers of a window, each at the number's remainder.
use Rattle.std.specs.Prelude.{ℕ, ◌≡◌, ◌≢◌, ◌+◌, ◌%◌, ◌<◌, ◌≤◌, Bool, cond, nat_eq, nat_lt, nat_le, ◌&&◌, Option, None, List}
use Rattle.st_words.specs.declared.deployment.TheConstants.{WINDOW}
use Rattle.st_tables.specs.Entries.{entry}

-- whether a number is one of the window above `base`
abbrev pub in_window : ℕ → ℕ → Bool
in_window base n = nat_lt base n && nat_le n (base + WINDOW)

-- what the ring keeps of a number of the window above `base`
unfoldable pub kept : {T : Type 0} → ℕ → List (Option T) → ℕ → Option T
kept base xs n = cond (in_window base n) (entry xs (n % WINDOW)) None

-- The entry of a number of the window is written, and all others stay.
abbrev pub SetsNumber : {T : Type 0} → List (Option T) → List (Option T) → ℕ → Option T → Type 0
SetsNumber old new n item = (base k : ℕ) → base < n → n ≤ base + WINDOW → kept base new k ≡ cond (nat_eq n k) item (kept base old k)

-- The window moves up by one number, whose entry is gone.
abbrev pub MovesUp : {T : Type 0} → List (Option T) → List (Option T) → ℕ → Type 0
MovesUp old new base = (k : ℕ) → kept (base + 1) new k ≡ cond (nat_lt (base + 1) k) (kept base old k) None
