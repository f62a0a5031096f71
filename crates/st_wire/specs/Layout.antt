-- Laying out a message's pieces one by one, as the code does, which counts bytes up to the greatest number of its type.
use Rattle.std.specs.Prelude.{ℕ, ◌+◌, ◌-◌, ◌^◌, List, [], ◌∷◌, ◌++◌, length, min}
use Rattle.std.specs.List.{fold}
use Rattle.st_wire.specs.declared.layout.Layout.{Layout}
use Rattle.st_wire.specs.Seals.{Piece, Plain, Sealed}

-- so many bytes further on
abbrev pub beyond : ℕ → ℕ → ℕ
beyond at n = min (at + n) (2 ^ 64 - 1)

-- one piece more
abbrev pub lay_one : Layout → Piece → Layout
lay_one l (Plain bytes) = record { at = beyond l.at (length bytes); seals = l.seals }
lay_one l (Sealed who s seal) = record { at = beyond (beyond l.at 2) (length seal); seals = l.seals ++ (record { who = who; statement = s; seal = seal; place = beyond l.at 2 }) ∷ [] }

-- these pieces, from the first on
unfoldable pub laid : Layout → List Piece → Layout
laid l pieces = fold lay_one l pieces
