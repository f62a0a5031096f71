-- How a text is parted, part by part.
use Rattle.std.proofs.Common.{◌≡◌, ◌∙◌, ℕ, ◌+◌, ◌≤◌, true, false, List, [], ◌∷◌, ◌++◌, length, take, get_or, Option, Some, None, refl, sym, ap, subst, arith}
use Rattle.std.specs.Option.{option_map}
use Rattle.std.specs.Str.{IsUtf8, IsCharBoundary}
use Rattle.std.specs.Str.Lines.{lines_of_parts}
use Rattle.std.proofs.Math.Seq.{take-append_seam, get_or-append_seam}
use Rattle.std.proofs.lemmas.Bool.{cond-true, cond-false}
use Rattle.std.proofs.lemmas.List.{length-append, length-take-le, append-nil, append_assoc}
use Rattle.std.proofs.lemmas.Str.{IsCharBoundary-start, IsCharBoundary-after_ascii}
use Rattle.st_input.specs.Parted.{Parted, parts, parted, parted_from, is_separator, with_front, ended}

-- So many bytes of a text are header lines, this is the number of the line after them, and this the text from it on.
pub record IsParting (text : List ℕ) (header number : ℕ) (rest : List ℕ) : Type 0 where
  pub parting : parted text ≡ option_map (with_front (take header text)) (parted_from number (parts rest))
  pub whole : text ≡ take header text ++ rest
  pub boundary : IsCharBoundary text header
  pub few : number ≤ header + 1

no_front : (o : Option Parted) → o ≡ option_map (with_front []) o
no_front None = refl
no_front (Some p) = refl

fronts : (a b : List ℕ) (o : Option Parted) → option_map (with_front a) (option_map (with_front b) o) ≡ option_map (with_front (a ++ b)) o
fronts a b None = refl
fronts a b (Some p) = ap (λ (h : List ℕ). Some (record p { header = h })) (sym (append_assoc a b p.header))

-- at first no line is parted off
pub begun : (text : List ℕ) → IsUtf8 text → IsParting text 0 1 text
begun text utf8 = record { parting = no_front (parted text); whole = refl; boundary = IsCharBoundary-start text utf8; few = omega arith }

header_length : (text : List ℕ) (header number : ℕ) (rest : List ℕ) → IsParting text header number rest → length (take header text) ≡ header
header_length text header number rest p = length-take-le header text p.boundary.0

-- with the header so far, and one line more after it
one_more : (front line more rest text : List ℕ) → text ≡ front ++ rest → rest ≡ line ++ 10 ∷ more → text ≡ (front ++ ended line) ++ more
one_more front line more rest text whole e =
    whole ∙ (ap (λ (xs : List ℕ). front ++ xs) (e ∙ sym (append_assoc line (10 ∷ []) more)) ∙ sym (append_assoc front (ended line) more))

-- after a newline a text may be cut
cut_after : (front line more rest text : List ℕ) (n : ℕ) → IsUtf8 text → text ≡ front ++ rest → rest ≡ line ++ 10 ∷ more → n ≡ length (front ++ line) → IsCharBoundary text (n + 1)
cut_after front line more rest text n utf8 whole e long =
    let split : text ≡ (front ++ line) ++ 10 ∷ more = whole ∙ (ap (λ (xs : List ℕ). front ++ xs) e ∙ sym (append_assoc front line (10 ∷ more))) in
    let size : length text ≡ length (front ++ line) + length (10 ∷ more) = ap length split ∙ length-append (front ++ line) (10 ∷ more) in
    let newline : get_or text n 0 ≡ 10 =
    ap (λ (k : ℕ). get_or text k 0) long ∙ (ap (λ (xs : List ℕ). get_or xs (length (front ++ line)) 0) split ∙ get_or-append_seam (front ++ line) 10 more 0) in
    IsCharBoundary-after_ascii text n utf8 (omega arith) (omega arith)

header_line : (n : ℕ) (line : List ℕ) (more : List (List ℕ)) → is_separator line ≡ false → parted_from n (line ∷ more) ≡ option_map (with_front (ended line)) (parted_from (n + 1) more)
unfolding parted_from
header_line n line more test =
    cond-false _ (Some (record { header = []; first = n + 1; events = lines_of_parts more })) (option_map (with_front (ended line)) (parted_from (n + 1) more)) test

separator_line : (n : ℕ) (line : List ℕ) (more : List (List ℕ)) → is_separator line ≡ true → parted_from n (line ∷ more) ≡ Some (record { header = []; first = n + 1; events = lines_of_parts more })
unfolding parted_from
separator_line n line more test =
    cond-true _ (Some (record { header = []; first = n + 1; events = lines_of_parts more })) (option_map (with_front (ended line)) (parted_from (n + 1) more)) test

no_lines : (n : ℕ) → parted_from n [] ≡ None
unfolding parted_from
no_lines n = refl

-- a line that is no separator is of the header
pub goes_on : (text : List ℕ) (header number : ℕ) (rest line more : List ℕ) → IsUtf8 text → IsParting text header number rest
    → parts rest ≡ line ∷ parts more → rest ≡ line ++ 10 ∷ more → is_separator line ≡ false → IsParting text (header + (length line + 1)) (number + 1) more
goes_on text header number rest line more utf8 p e whole test =
    let front : List ℕ = take header text in
    let size : length front ≡ header = header_length text header number rest p in
    let split : text ≡ (front ++ ended line) ++ more = one_more front line more rest text p.whole whole in
    let long : header + (length line + 1) ≡ length (front ++ ended line) = omega (arith, length-append front (ended line), length-append line (10 ∷ [])) in
    let taken : take (header + (length line + 1)) text ≡ front ++ ended line =
    ap (λ (k : ℕ). take k text) long ∙ (ap (λ (xs : List ℕ). take (length (front ++ ended line)) xs) split ∙ take-append_seam (front ++ ended line) more) in
    let cut : IsCharBoundary text (header + length line + 1) = cut_after front line more rest text (header + length line) utf8 p.whole whole (omega (arith, length-append front line)) in
    record {
      parting =
          p.parting
          ∙ (ap (λ (ls : List (List ℕ)). option_map (with_front front) (parted_from number ls)) e
          ∙ (ap (λ (o : Option Parted). option_map (with_front front) o) (header_line number line (parts more) test)
          ∙ (fronts front (ended line) (parted_from (number + 1) (parts more))
          ∙ ap (λ (xs : List ℕ). option_map (with_front xs) (parted_from (number + 1) (parts more))) (sym taken))));
      whole = split ∙ ap (λ (xs : List ℕ). xs ++ more) (sym taken);
      boundary = subst (λ (n : ℕ). IsCharBoundary text n) (omega arith) cut;
      few = omega (arith, p.few);
    }

-- the first separator ends the header
pub found : (text : List ℕ) (header number : ℕ) (rest line : List ℕ) (more : List (List ℕ)) → IsParting text header number rest
    → parts rest ≡ line ∷ more → is_separator line ≡ true → parted text ≡ Some (record { header = take header text; first = number + 1; events = lines_of_parts more })
found text header number rest line more p e test =
    p.parting
    ∙ (ap (λ (ls : List (List ℕ)). option_map (with_front (take header text)) (parted_from number ls)) e
    ∙ (ap (λ (o : Option Parted). option_map (with_front (take header text)) o) (separator_line number line more test)
    ∙ ap (λ (xs : List ℕ). Some (record { header = xs; first = number + 1; events = lines_of_parts more })) (append-nil (take header text))))

-- without a separator nothing is parted
pub not_found : (text : List ℕ) (header number : ℕ) (rest : List ℕ) → IsParting text header number rest → parts rest ≡ rest ∷ [] → is_separator rest ≡ false → parted text ≡ None
not_found text header number rest p e test =
    p.parting
    ∙ (ap (λ (ls : List (List ℕ)). option_map (with_front (take header text)) (parted_from number ls)) e
    ∙ (ap (λ (o : Option Parted). option_map (with_front (take header text)) o) (header_line number rest [] test)
    ∙ ap (λ (o : Option Parted). option_map (with_front (take header text)) (option_map (with_front (ended rest)) o)) (no_lines (number + 1))))
