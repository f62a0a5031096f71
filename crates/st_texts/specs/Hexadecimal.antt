-- Bytes as hexadecimal texts.
use Rattle.std.specs.Prelude.{ℕ, ◌==◌, if◌then◌else◌, List, [], ◌∷◌, length, Option, Some, None, bytes_eq, codes}
use Rattle.std.specs.Result.{result_ok}
use Rattle.hex.specs.Hex.{decode_of, encode_lower}

-- `-` for no bytes, else two digits a byte, of either case
unfoldable pub hex_bytes : List ℕ → Option (List ℕ)
hex_bytes text = if bytes_eq text (codes "-") then Some [] else if length text == 0 then None else result_ok (decode_of text)

-- bytes in lower-case hexadecimal, `-` for none
unfoldable pub hex_text : List ℕ → List ℕ
hex_text [] = codes "-"
hex_text (b ∷ bs) = encode_lower (b ∷ bs)
