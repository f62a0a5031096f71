-- Parts of a line `key = value`.
use Rattle.std.specs.Prelude.{ℕ, List, [], ◌∷◌, Option, codes, option_and_then}
use Rattle.st_texts.specs.Parts.{after_front, before_end}

-- the value of a line `key = value`
unfoldable pub value_of : List ℕ → List ℕ → Option (List ℕ)
value_of key line = option_and_then (after_front (codes " = ")) (after_front key line)

-- a quotation mark
abbrev pub quote : List ℕ
quote = 34 ∷ []

-- the text between two quotation marks
unfoldable pub unquoted : List ℕ → Option (List ℕ)
unquoted text = option_and_then (before_end quote) (after_front quote text)
