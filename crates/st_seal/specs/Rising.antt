-- Lists of seals with strictly rising indices.
use Rattle.std.specs.Prelude.{ℕ, ◌+◌, ◌≤◌, List, [], ◌∷◌}
use Rattle.st_seal.specs.declared.quorum.Signed.{Signed}

-- each index is at least `low`, and above those before it
abbrev pub IsRisingFrom : ℕ → List Signed → Type 0
IsRisingFrom low [] = Unit {0}
IsRisingFrom low (s ∷ ss) = (low ≤ s.index) × IsRisingFrom (s.index + 1) ss
