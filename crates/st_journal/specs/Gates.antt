-- What stands at a gate.
use Rattle.std.specs.Prelude.{◌≡◌, ◌≢◌, ℕ, List, drop, slice_index, Ok, Err}
use Rattle.st_journal.specs.declared.gate.Gate.{Gate}
use Rattle.st_journal.specs.declared.gate.Gate.TheVariants.{Closed, Open, Broken}
use Rattle.st_journal.specs.Blocks.{body_at}

-- what the bytes from a gate on are
abbrev pub IsGate : List ℕ → Gate → Type 0
IsGate bytes Closed = slice_index bytes 0 ≡ 0
IsGate bytes (Open body next) = (slice_index bytes 0 ≢ 0) × (body_at (drop 1 bytes) ≡ Ok (body.now, next.now))
IsGate bytes Broken = (slice_index bytes 0 ≢ 0) × (left : ℕ) × (body_at (drop 1 bytes) ≡ Err left)
