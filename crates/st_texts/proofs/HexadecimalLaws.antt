-- How many bytes a hexadecimal text writes, and that the text of bytes is read back.
use Rattle.std.proofs.Common.{◌≡◌, ◌∙◌, ◌≤◌, ◌*◌, ℕ, false, cond, List, [], ◌∷◌, length, eqb, Option, Some, None, Result, Ok, Err, refl, ap, arith, codes}
use Rattle.std.specs.Result.{result_ok}
use Rattle.std.specs.Str.{bytes_eq}
use Rattle.std.proofs.lemmas.Bool.{cond_both, cond-false, eqb-true, false_from_ne_true}
use Rattle.std.proofs.lemmas.Slice.Eq.{bytes_eq-Decides}
use Rattle.hex.specs.Hex.{IsBytes, decode_of, encode_lower, lower_digits}
use Rattle.hex.specs.declared.error.FromHexError.{FromHexError}
use Rattle.hex.proofs.HexLemmas.{decode_of-ok, decode_of-encode_lower, length-encode_with}
use Rattle.st_texts.specs.Hexadecimal.{hex_bytes, hex_text}

decoded_length : (text bytes : List ℕ) (r : Result (List ℕ) FromHexError) → decode_of text ≡ r → result_ok r ≡ Some bytes → 2 * length bytes ≤ length text
decoded_length text bytes (Err e) is some = absurd (let none : None ≡ Some bytes = some in cc)
decoded_length text bytes (Ok x) is some =
    let same : x ≡ bytes = (let s : Some x ≡ Some bytes = some in cc) in
    omega (arith, (decode_of-ok text bytes (is ∙ ap Ok same)).2)

-- two digits a byte
pub length_hex_bytes : (text bytes : List ℕ) → hex_bytes text ≡ Some bytes → 2 * length bytes ≤ length text
unfolding hex_bytes
length_hex_bytes text bytes e =
    cond_both (bytes_eq text (codes "-")) (Some []) (cond (eqb (length text) 0) None (result_ok (decode_of text))) (λ (o : Option (List ℕ)). o ≡ Some bytes → 2 * length bytes ≤ length text)
    (λ dash is. let same : [] ≡ bytes = (let s : Some [] ≡ Some bytes = is in cc) in omega (arith, ap length same))
    (λ other. cond_both (eqb (length text) 0) None (result_ok (decode_of text)) (λ (o : Option (List ℕ)). o ≡ Some bytes → 2 * length bytes ≤ length text)
    (λ nothing is. absurd (let none : None ≡ Some bytes = is in cc))
    (λ some is. decoded_length text bytes (decode_of text) refl is))
    e

-- a text of two digits or more is read by its digits
read_digits : (text : List ℕ) → 2 ≤ length text → hex_bytes text ≡ result_ok (decode_of text)
unfolding hex_bytes
read_digits text long =
    let dash : bytes_eq text (codes "-") ≡ false = false_from_ne_true _ (λ e. let same = (bytes_eq-Decides text (codes "-")).0 e in omega (arith, ap length same)) in
    let some : eqb (length text) 0 ≡ false = false_from_ne_true _ (λ e. let zero = eqb-true (length text) 0 e in omega arith) in
    cond-false (bytes_eq text (codes "-")) (Some []) _ dash ∙ cond-false (eqb (length text) 0) None (result_ok (decode_of text)) some

-- what bytes are written as is read as them
pub hex_bytes-hex_text : (bytes : List ℕ) → IsBytes bytes → hex_bytes (hex_text bytes) ≡ Some bytes
unfolding hex_bytes hex_text
hex_bytes-hex_text [] each = refl
hex_bytes-hex_text (b ∷ bs) each =
    let long = length-encode_with lower_digits (b ∷ bs) in
    read_digits (encode_lower (b ∷ bs)) (omega (arith, long)) ∙ ap result_ok (decode_of-encode_lower (b ∷ bs) each)
