-- What device calls do to a file, and what a crash may make of them.
use Rattle.std.specs.Prelude.{◌≡◌, ℕ, ◌+◌, ◌-◌, ◌≤◌, min, max, List, ◌++◌, length, take, drop, replicate}

-- the first bytes of a file, up to this size; zeros where it is shorter
abbrev pub padded : ℕ → List ℕ → List ℕ
padded size file = take size file ++ replicate (size - length file) 0

-- the file with these bytes at this offset; zeros between its end and them
abbrev pub written : ℕ → List ℕ → List ℕ → List ℕ
written at piece file = (padded at file ++ piece) ++ drop (at + length piece) file

-- After a write of n bytes that a crash or a fault cut short: any bytes in its range and past the old
-- end, the same bytes elsewhere, and a length between the two.
pub record Torn (at n : ℕ) (old new : List ℕ) : Type 0 where
  pub before : take (min at (length old)) new ≡ take at old
  pub after : drop (at + n) new ≡ drop (at + n) old
  pub no_shorter : length old ≤ length new
  pub no_longer : length new ≤ max (length old) (at + n)

-- after a change of the size that a crash or a fault cut short: a length between the two, and the same
-- bytes below the shorter one
pub record Resized (size : ℕ) (old new : List ℕ) : Type 0 where
  pub no_shorter : min size (length old) ≤ length new
  pub no_longer : length new ≤ max size (length old)
  pub same : take (length old) new ≡ take (length new) old
