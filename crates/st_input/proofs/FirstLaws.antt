-- What `split_once` and `strip_suffix` answer at a text, and the first line of a text.
use Rattle.std.proofs.Common.{◌≡◌, ◌∙◌, suc, ℕ, ◌+◌, ◌-◌, ◌<◌, ◌≢◌, false, List, [], ◌∷◌, ◌++◌, length, take, drop, get_or, eqb, Option, Some, None, MatchOption, Bor, refl, sym, ap, arith, lit<}
use Rattle.std.specs.List.{All}
use Rattle.std.specs.Str.Lines.{lines, lines_of_parts, strip_carriage_return}
use Rattle.std.specs.Str.Pattern.{FindsCharSuffix, StripsSuffix}
use Rattle.std.proofs.Math.Seq.{take-append_seam, get_or-append_seam, drop-cons}
use Rattle.std.proofs.lemmas.Bool.{ne_eqb, cond-false, eqb-true, false_from_ne_true}
use Rattle.std.proofs.lemmas.List.{take-append-drop, length-append, drop_all}
use Rattle.std.proofs.lemmas.List.Elements.{All-from_get_or}
use Rattle.std.proofs.lemmas.List.Splits.{slice_split_none, slice_split_at, length-slice_split}
use Rattle.std.proofs.lemmas.Str.Pattern.{IsSplitOnceResult, split_parts, strip_suffix_char}
use Rattle.st_input.specs.Parted.{parts}

none_newline : (xs : List ℕ) → ((i : ℕ) → i < length xs → get_or xs i 0 ≢ 10) → All (λ b. eqb b 10 ≡ false) xs
none_newline xs none = All-from_get_or (λ b. eqb b 10 ≡ false) xs 0 (λ i h. ne_eqb (get_or xs i 0) 10 (none i h))

by_parts : (text : List ℕ) (r : Option (Bor (List ℕ) × Bor (List ℕ)))
    → MatchOption r ((i : ℕ) → i < length text → get_or text i 0 ≢ 10) (λ x. (text ≡ x.0.now ++ (10 ∷ x.1.now)) × ((i : ℕ) → i < length x.0.now → get_or x.0.now i 0 ≢ 10))
    → MatchOption r (parts text ≡ text ∷ []) (λ x. parts text ≡ x.0.now ∷ parts x.1.now)
by_parts text None none = slice_split_none (λ b. eqb b 10) text (none_newline text none)
by_parts text (Some x) (whole, none) = ap parts whole ∙ slice_split_at (λ b. eqb b 10) x.0.now 10 x.1.now (none_newline x.0.now none) refl

-- the first part of a text, and the parts of the text after it
pub split_text : (text : List ℕ) (r : Option (Bor (List ℕ) × Bor (List ℕ))) → IsSplitOnceResult 10 text r → MatchOption r (parts text ≡ text ∷ []) (λ x. parts text ≡ x.0.now ∷ parts x.1.now)
split_text text r h = by_parts text r (split_parts 10 text r h (lit< tt))

-- a carriage return at the end is dropped
return_dropped : (x : List ℕ) → strip_carriage_return (x ++ 13 ∷ []) ≡ x
return_dropped x =
    let long : length (x ++ 13 ∷ []) - 1 ≡ length x = omega (arith, length-append x (13 ∷ [])) in
    rw long (rw (get_or-append_seam x 13 [] 0) (take-append_seam x (13 ∷ [])))

-- a text that ends with a carriage return
last_is : (x : List ℕ) (i : ℕ) → i + 1 ≡ length x → get_or x i 0 ≡ 13 → x ≡ take i x ++ 13 ∷ []
last_is x i long e =
    sym (take-append-drop i x)
    ∙ ap (λ (t : List ℕ). take i x ++ t) (drop-cons x i 0 (omega arith) ∙ (ap (λ (b : ℕ). b ∷ drop (suc i) x) e ∙ ap (λ (t : List ℕ). 13 ∷ t) (drop_all (suc i) x (omega arith))))

ends_so : (x : List ℕ) → get_or x (length x - 1) 0 ≡ 13 → x ≡ take (length x - 1) x ++ 13 ∷ []
ends_so [] e = absurd (omega arith)
ends_so (y ∷ ys) e = last_is (y ∷ ys) (length (y ∷ ys) - 1) (omega arith) e

-- where there is none at the end, nothing is dropped
nothing_dropped : (x : List ℕ) → ((front : List ℕ) → x ≢ front ++ 13 ∷ []) → x ≡ strip_carriage_return x
nothing_dropped x never =
    sym (cond-false _ (take (length x - 1) x) x (false_from_ne_true _ (λ test. never (take (length x - 1) x) (ends_so x (eqb-true (get_or x (length x - 1) 0) 13 test)))))

by_strip : (part : List ℕ) (r : Option (Bor (List ℕ))) → MatchOption r ((front : List ℕ) → part ≢ front ++ (13 ∷ [])) (λ x. part ≡ x.now ++ (13 ∷ []))
    → MatchOption r (part ≡ strip_carriage_return part) (λ x. x.now ≡ strip_carriage_return part)
by_strip part None never = nothing_dropped part never
by_strip part (Some x) e = sym (ap strip_carriage_return e ∙ return_dropped x.now)

-- a part without the carriage return at its end
pub strips_return : (part : List ℕ) (r : Option (Bor (List ℕ))) → MatchOption r (FindsCharSuffix 13 part None) (λ x. StripsSuffix (FindsCharSuffix 13) part x.now)
    → MatchOption r (part ≡ strip_carriage_return part) (λ x. x.now ≡ strip_carriage_return part)
strips_return part r h = by_strip part r (strip_suffix_char 13 part r h (lit< tt))

-- a text has a part at least
some_part : (text : List ℕ) → 0 < length (parts text)
some_part text = omega (arith, length-slice_split (λ b. eqb b 10) text)

lines_are : (part : List ℕ) (others : List (List ℕ)) → 0 < length others → lines_of_parts (part ∷ others) ≡ strip_carriage_return part ∷ lines_of_parts others
lines_are part [] some = absurd (omega arith)
lines_are part (x ∷ xs) some = refl

-- the first line of a text with a newline
pub first_of_more : (text part rest : List ℕ) → parts text ≡ part ∷ parts rest → lines text ≡ strip_carriage_return part ∷ lines rest
first_of_more text part rest e = ap lines_of_parts e ∙ lines_are part (parts rest) (some_part rest)

-- the only line of a text without a newline
pub only_line : (text : List ℕ) → 0 < length text → parts text ≡ text ∷ [] → lines text ≡ text ∷ []
only_line text some e = ap lines_of_parts e ∙ cond-false _ [] (text ∷ []) (ne_eqb (length text) 0 (λ none. omega arith))
