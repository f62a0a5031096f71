-- An input's text, parted at its first line `---`.
use Rattle.std.specs.Prelude.{ℕ, ◌+◌, ◌==◌, Bool, if◌then◌else◌, List, [], ◌∷◌, ◌++◌, Option, Some, None, bytes_eq, codes}
use Rattle.std.specs.List.{slice_split}
use Rattle.std.specs.Option.{option_map}
use Rattle.std.specs.Str.Lines.{lines, lines_of_parts, strip_carriage_return}
use Rattle.st_input.specs.declared.parted.Parts.{Parts}

-- what stands between the newlines of a text
abbrev pub parts : List ℕ → List (List ℕ)
parts text = slice_split (λ b. b == 10) text

-- `---`, where a carriage return at the end is dropped
abbrev pub is_separator : List ℕ → Bool
is_separator part = bytes_eq (strip_carriage_return part) (codes "---")

-- What an input's text is parted into.
pub record Parted : Type 0 where
  -- the text before the separator
  pub header : List ℕ
  -- the number of the line after the separator, in the whole input and from 1
  pub first : ℕ
  -- the lines after the separator
  pub events : List (List ℕ)

-- the same, with this text before its header
abbrev pub with_front : List ℕ → Parted → Parted
with_front front p = record p { header = front ++ p.header }

-- a part with the newline after it
abbrev pub ended : List ℕ → List ℕ
ended part = part ++ 10 ∷ []

-- The parts of a text, of which the first has this number, parted at the first separator.
unfoldable pub parted_from : ℕ → List (List ℕ) → Option Parted
parted_from n [] = None
parted_from n (part ∷ more) =
    if is_separator part then Some (record { header = []; first = n + 1; events = lines_of_parts more })
    else option_map (with_front (ended part)) (parted_from (n + 1) more)

-- the text, parted; none where no line is a separator
abbrev pub parted : List ℕ → Option Parted
parted text = parted_from 1 (parts text)

-- what the code's parts of a text say
abbrev pub parted_as : Parts → Parted
parted_as p = record { header = p.header.now; first = p.first; events = lines p.events.now }
