-- Tables by key: lists of entries that are there or not.
use Rattle.std.specs.Prelude.{ℕ, ◌≡◌, ◌≢◌, Option, Some, None, List, [], ◌∷◌, slice_get, replicate}

-- what is found, if an entry is there
abbrev pub found : {T : Type 0} → Option (Option T) → Option T
found None = None
found (Some x) = x

-- the entry of a key
unfoldable pub entry : {T : Type 0} → List (Option T) → ℕ → Option T
entry xs k = found (slice_get xs k)

-- One entry is written: the key's is now `item`, and all others stay.
pub record Sets {T : Type 0} (old new : List (Option T)) (key : ℕ) (item : Option T) : Type 0 where
  pub here : entry new key ≡ item
  pub others : (k : ℕ) → k ≢ key → entry new k ≡ entry old k
