-- What a number's text looks like, and which text `parse` reads as it.
use Rattle.std.proofs.Common.{◌≡◌, ◌≤◌, ◌<◌, ◌^◌, ◌&&◌, zero, suc, ℕ, true, false, List, [], ◌∷◌, length, get_or, Option, Some, None, Result, Ok, Err, Decides, refl, sym, ap, ◌∙◌, subst, arith, leb}
use Rattle.std.specs.Fmt.{decimal}
use Rattle.std.specs.Result.{result_ok, OkIff}
use Rattle.std.proofs.lemmas.Bool.{leb-true, le-leb, eqb-true, cond-true, cond-false, cond_both, false_from_ne_true, false≢true}
use Rattle.std.specs.Str.{bytes_eq}
use Rattle.std.specs.Str.Parse.{IsNumeral, AllDigits, digits_value, ParsesUnsigned}
use Rattle.std.proofs.lemmas.Bool.Decides.{nat_tests, Decides-and}
use Rattle.std.proofs.lemmas.Fmt.{decimal_is_IsNumeral, decimal_digit, first_decimal, decimal-digits_value}
use Rattle.std.proofs.lemmas.Slice.Eq.{bytes_eq-Decides}
use Rattle.std.proofs.lemmas.Str.Parse.{tells_digits, numerals_by_value, without_leading_plus_none}
use Rattle.st_texts.specs.Numbers.{number_in, has_plain_start}

-- a number's text: its digits, of that value, with a plain start
pub record IsWritten (text : List ℕ) (n : ℕ) : Type 0 where
  pub numeral : IsNumeral 10 text
  pub value : digits_value 10 text ≡ n
  pub plain : has_plain_start text ≡ true

plain_zero : has_plain_start (48 ∷ []) ≡ true
unfolding has_plain_start
plain_zero = refl

plain_above : (text : List ℕ) → 48 < get_or text 0 0 → has_plain_start text ≡ true
unfolding has_plain_start
plain_above text above = grind (arith, nat_tests)

plain_decimal : (n : ℕ) → n < 2 ^ 64 → has_plain_start (decimal n) ≡ true
plain_decimal zero fits = ap has_plain_start (decimal_digit 0 (omega arith)) ∙ plain_zero
plain_decimal (suc n) fits = plain_above (decimal (suc n)) (first_decimal (suc n) (omega arith) fits)

written_decimal : (n : ℕ) → n < 2 ^ 64 → IsWritten (decimal n) n
written_decimal n fits = record {
  numeral = (decimal_is_IsNumeral n fits).0;
  value = (decimal_is_IsNumeral n fits).1;
  plain = plain_decimal n fits;
}

pub written : (text : List ℕ) (n : ℕ) → n < 2 ^ 64 → text ≡ decimal n → IsWritten text n
written text n fits is = subst (λ (t : List ℕ). IsWritten t n) (sym is) (written_decimal n fits)

-- the test of `number_in`, with the number of a text's digits
decides : (least most : ℕ) (text : List ℕ) →
    Decides (leb least (digits_value 10 text) && leb (digits_value 10 text) most && bytes_eq text (decimal (digits_value 10 text)))
    (((least ≤ digits_value 10 text) × (digits_value 10 text ≤ most)) × (text ≡ decimal (digits_value 10 text)))
decides least most text =
    let n : ℕ = digits_value 10 text in
    Decides-and _ _ (Decides-and _ _ (leb-true least n, le-leb least n) (leb-true n most, le-leb n most)) (bytes_eq-Decides text (decimal n))

-- a number's text is read as that number
pub number_in-some : (least most n : ℕ) (text : List ℕ) → n < 2 ^ 64 → text ≡ decimal n → least ≤ n → n ≤ most → number_in least most text ≡ Some n
unfolding number_in
number_in-some least most n text fits is low high =
    let value = (written text n fits is).value in
    cond-true _ (Some (digits_value 10 text)) None ((decides least most text).1 ((rw value low, rw value high), rw value is)) ∙ ap Some value

-- what is no number's text in the range is not read
pub number_in-none : (least most : ℕ) (text : List ℕ) → ((n : ℕ) → least ≤ n → n ≤ most → text ≡ decimal n → ⊥) → number_in least most text ≡ None
unfolding number_in
number_in-none least most text never =
    cond-false _ (Some (digits_value 10 text)) None
    (false_from_ne_true _ (λ e. let parts = (decides least most text).0 e in never _ parts.0.0 parts.0.1 parts.1))

-- a text that is read as a number is its text
pub number_in-is : (least most n : ℕ) (text : List ℕ) → number_in least most text ≡ Some n → (text ≡ decimal n) × (least ≤ n) × (n ≤ most)
unfolding number_in
number_in-is least most n text e =
    cond_both _ (Some (digits_value 10 text)) None (λ (o : Option ℕ). o ≡ Some n → (text ≡ decimal n) × (least ≤ n) × (n ≤ most))
    (λ test is. let parts = (decides least most text).0 test in let value : digits_value 10 text ≡ n = cc in (rw value at parts.1, rw value at parts.0.0, rw value at parts.0.1))
    (λ test is. absurd (let none : None ≡ Some n = is in cc)) e

no_plus : (text : List ℕ) → has_plain_start text ≡ true → get_or text 0 0 ≡ 43 → ⊥
unfolding has_plain_start
no_plus text plain e = false≢true (rw e at plain)

no_zero : (text : List ℕ) → has_plain_start text ≡ true → get_or text 0 0 ≡ 48 → length text ≡ 1
unfolding has_plain_start
no_zero text plain e = eqb-true (length text) 1 (rw e at plain)

-- a numeral with a plain start is its number's text
is_decimal : (text : List ℕ) → has_plain_start text ≡ true → IsNumeral 10 text → digits_value 10 text < 2 ^ 64 → text ≡ decimal (digits_value 10 text)
is_decimal text plain numeral fits =
    sym (decimal-digits_value (numerals_by_value (AllDigits 10) tells_digits) text numeral.1 numeral.0 (no_zero text plain) fits)

-- what a text without a plain start is no number's
pub unread_start : (least most : ℕ) (text : List ℕ) → most < 2 ^ 64 → has_plain_start text ≡ false → number_in least most text ≡ None
unread_start least most text fits odd =
    number_in-none least most text (λ n low high is. false≢true (sym odd ∙ (written text n (omega arith) is).plain))

-- what `parse` says of a text with a plain start
parsed : {E : Type 0} (text : List ℕ) (r : Result ℕ E) → has_plain_start text ≡ true → ParsesUnsigned 64 10 text r → OkIff r (IsNumeral 10 text × (digits_value 10 text < 2 ^ 64)) (digits_value 10 text)
parsed text r plain h = subst (λ (t : List ℕ). OkIff r (IsNumeral 10 t × (digits_value 10 t < 2 ^ 64)) (digits_value 10 t)) (without_leading_plus_none text (no_plus text plain)) h

-- what `parse` refuses is not read
pub unread_text : {E : Type 0} (least most : ℕ) (text : List ℕ) (r : Result ℕ E) → most < 2 ^ 64 → has_plain_start text ≡ true → ParsesUnsigned 64 10 text r → result_ok r ≡ None → number_in least most text ≡ None
unread_text least most text (Ok x) fits plain h e = absurd (let none : Some x ≡ None = e in cc)
unread_text least most text (Err x) fits plain h e =
    number_in-none least most text (λ n low high is.
    let w = written text n (omega arith) is in
    parsed text (Err x) plain h (w.numeral, rw w.value (omega arith)))

-- what `parse` reads is the text of the number
pub read_text : {E : Type 0} (text : List ℕ) (r : Result ℕ E) (n : ℕ) → has_plain_start text ≡ true → ParsesUnsigned 64 10 text r → result_ok r ≡ Some n → (text ≡ decimal n) × (n < 2 ^ 64)
read_text {E = E} text (Err x) n plain h e = absurd (let none : None ≡ Some n = e in cc)
read_text {E = E} text (Ok x) n plain h e =
    let p = parsed {E = E} text (Ok x) plain h in
    let same : digits_value 10 text ≡ n = sym p.1 ∙ (let s : Some x ≡ Some n = e in cc) in
    (rw same at (is_decimal text plain p.0.0 p.0.1), rw same at p.0.1)

-- a number out of the range is not read
pub unread_number : (least most n : ℕ) (text : List ℕ) → most < 2 ^ 64 → (text ≡ decimal n) × (n < 2 ^ 64) → (least ≤ n → n ≤ most → ⊥) → number_in least most text ≡ None
unread_number least most n text fits is out =
    number_in-none least most text (λ m low high other.
    let same : m ≡ n = sym (written text m (omega arith) other).value ∙ (written text n is.1 is.0).value in
    out (omega arith) (omega arith))
