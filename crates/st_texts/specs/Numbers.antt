-- Numbers as texts.
use Rattle.std.specs.Prelude.{ℕ, Bool, ◌==◌, ◌&&◌, ◌||◌, not, nat_le, if◌then◌else◌, List, length, slice_index, Option, Some, None, bytes_eq}
use Rattle.std.specs.Fmt.{decimal}
use Rattle.std.specs.Str.Parse.{digits_value}

-- the number of these digits, where the text is just how that number is written, from least to most
unfoldable pub number_in : ℕ → ℕ → List ℕ → Option ℕ
number_in least most text =
    let n : ℕ = digits_value 10 text in
    if nat_le least n && nat_le n most && bytes_eq text (decimal n) then Some n else None

-- a text that begins with no plus, and with a zero only where that is all
unfoldable pub has_plain_start : List ℕ → Bool
has_plain_start text = not (slice_index text 0 == 43) && (not (slice_index text 0 == 48) || length text == 1)
