-- The list service: it keeps the first operations, and answers how many it keeps.
use Rattle.std.specs.Prelude.{ℕ, ◌+◌, ◌-◌, ◌^◌, min, List, length}
use Rattle.std.specs.Int.{to_be_bytes, w32}

-- how many operations are kept of so many
abbrev pub kept_count : ℕ → ℕ
kept_count n = min n (2 ^ 32 - 1)

-- what running an operation gives after these ran
unfoldable pub list_serve : List (List ℕ) → List ℕ → List ℕ
list_serve ran op = to_be_bytes w32 (kept_count (length ran + 1))
