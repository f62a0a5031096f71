-- The bytes that a source has left and those that a sink has taken, where they tell them.
use Rattle.std.specs.Prelude.{◌≡◌, ℕ, ◌+◌, ◌<◌, ◌≤◌, List, [], ◌++◌, length, take, drop, Option, Some, Result, Ok, Err}
use Rattle.st_io.specs.declared.whole.ReadError.{ReadError}
use Rattle.st_io.specs.declared.whole.ReadError.TheVariants.{Failed, TooLong, OutOfMemory}

-- a read gave the first n of the bytes that were left, and those after them are left; none only where
-- none were left, or into an empty piece
pub record Gives (left : List ℕ) (now : Option (List ℕ)) (n : ℕ) (piece : List ℕ) : Type 0 where
  pub there : n ≤ length left
  pub first : take n piece ≡ take n left
  pub rest : now ≡ Some (drop n left)
  pub ended : n ≡ 0 → 0 < length piece → left ≡ []

-- these bytes were added
abbrev pub Adds : Option (List ℕ) → Option (List ℕ) → List ℕ → Type 0
Adds before now bytes = (had : List ℕ) → before ≡ Some had → now ≡ Some (had ++ bytes)

-- some of these bytes were added from the front, and not all
abbrev pub AddsFront : Option (List ℕ) → Option (List ℕ) → List ℕ → Type 0
AddsFront before now bytes = (had : List ℕ) → before ≡ Some had → (n : ℕ) × (n < length bytes) × (now ≡ Some (had ++ take n bytes))

-- bytes were added from the front of these, and `rest` are those after them
pub record AddsSome (before now : Option (List ℕ)) (bytes rest : List ℕ) : Type 0 where
  pub front : List ℕ
  pub parts : bytes ≡ front ++ rest
  pub added : Adds before now front

-- the first of these bytes were read, and those after them are left
pub record HasRead (all bytes : List ℕ) (now : Option (List ℕ)) : Type 0 where
  pub rest : List ℕ
  pub parts : all ≡ bytes ++ rest
  pub left : now ≡ Some rest

-- what was read so far grew by the first of the bytes that were left, and by none only where none were left
pub record ReadsSome (left : List ℕ) (now : Option (List ℕ)) (old new : List ℕ) : Type 0 where
  pub front : List ℕ
  pub added : new ≡ old ++ front
  pub read : HasRead left front now
  pub ended : length front ≡ 0 → left ≡ []

-- the first of these bytes were read, `most` at most
pub record LosesFew (all : List ℕ) (now : Option (List ℕ)) (most : ℕ) : Type 0 where
  pub front : List ℕ
  pub few : length front ≤ most
  pub read : HasRead all front now

-- what a read of all bytes answers, where `all` are left and at most `limit` are wanted, and what it
-- leaves: TooLong exactly where there are more, which one byte more shows
abbrev pub ReadsAll : List ℕ → ℕ → Result (List ℕ) ReadError → Option (List ℕ) → Type 0
ReadsAll all limit (Ok bytes) now = (bytes ≡ all) × (length all ≤ limit) × (now ≡ Some [])
ReadsAll all limit (Err TooLong) now = (limit < length all) × (now ≡ Some (drop (limit + 1) all))
ReadsAll all limit (Err Failed) now = LosesFew all now limit
ReadsAll all limit (Err OutOfMemory) now = LosesFew all now (limit + 1)
