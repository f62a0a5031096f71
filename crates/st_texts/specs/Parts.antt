-- Parts of a text.
use Rattle.std.specs.Prelude.{ℕ, ◌-◌, if◌then◌else◌, List, length, take, drop, nat_eq, Option, Some, None}
use Rattle.std.specs.List.{starts_with, ends_with}

-- what follows this front, where the text begins with it
unfoldable pub after_front : List ℕ → List ℕ → Option (List ℕ)
after_front front text = if starts_with nat_eq text front then Some (drop (length front) text) else None

-- what stands before this end, where the text ends with it
unfoldable pub before_end : List ℕ → List ℕ → Option (List ℕ)
before_end end text = if ends_with nat_eq text end then Some (take (length text - length end) text) else None
