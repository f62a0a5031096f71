-- What `strip_prefix` and `strip_suffix` answer at a text.
use Rattle.std.proofs.Common.{◌≡◌, ◌∙◌, ℕ, ◌-◌, true, List, ◌++◌, length, take, drop, Option, Some, None, MatchOption, Bor, sym, ap, arith}
use Rattle.std.specs.Option.{option_copied}
use Rattle.std.specs.Str.{bytes_eq}
use Rattle.std.specs.Str.Pattern.{FindsTextPrefix, FindsTextSuffix, StripsPrefix, StripsSuffix}
use Rattle.std.proofs.Math.Seq.{take-append_seam, drop-append_seam}
use Rattle.std.proofs.lemmas.Bool.{cond-true, cond-false, false_from_ne_true}
use Rattle.std.proofs.lemmas.List.{take-append-drop}
use Rattle.std.proofs.lemmas.Slice.Eq.{bytes_eq-Decides}
use Rattle.st_texts.specs.Parts.{after_front, before_end}

-- the text begins with this front where the test says so
front_is : (n s : List ℕ) → bytes_eq n (take (length n) s) ≡ true → s ≡ n ++ drop (length n) s
front_is n s test = sym (take-append-drop (length n) s) ∙ ap (λ (xs : List ℕ). xs ++ drop (length n) s) (sym ((bytes_eq-Decides n (take (length n) s)).0 test))

-- the text ends with this end where the test says so
end_is : (n s : List ℕ) → bytes_eq n (drop (length s - length n) s) ≡ true → s ≡ take (length s - length n) s ++ n
end_is n s test =
    sym (take-append-drop (length s - length n) s)
    ∙ ap (λ (xs : List ℕ). take (length s - length n) s ++ xs) (sym ((bytes_eq-Decides n (drop (length s - length n) s)).0 test))

-- what `strip_prefix` answers
pub strips_front : (n s : List ℕ) (r : Option (Bor (List ℕ))) → MatchOption r (FindsTextPrefix n s None) (λ x. StripsPrefix (FindsTextPrefix n) s x.now) → option_copied r ≡ after_front n s
unfolding after_front
strips_front n s None never = sym (cond-false _ (Some (drop (length n) s)) None (false_from_ne_true _ (λ test. never (drop (length n) s) (front_is n s test))))
strips_front n s (Some x) (k, (long, parts, at), rest, size) =
    let test : bytes_eq n (take (length n) s) ≡ true =
    (bytes_eq-Decides n (take (length n) s)).1 (sym (ap (λ (xs : List ℕ). take (length n) xs) parts ∙ take-append_seam n (drop k s))) in
    ap Some (rest ∙ ap (λ (m : ℕ). drop m s) long) ∙ sym (cond-true _ (Some (drop (length n) s)) None test)

-- where the front is known to be long, what follows it is the end
end_after : (xs n : List ℕ) (k : ℕ) → k ≡ length xs → drop k (xs ++ n) ≡ n
end_after xs n k long = ap (λ (m : ℕ). drop m (xs ++ n)) long ∙ drop-append_seam xs n

-- what `strip_suffix` answers
pub strips_end : (n s : List ℕ) (r : Option (Bor (List ℕ))) → MatchOption r (FindsTextSuffix n s None) (λ x. StripsSuffix (FindsTextSuffix n) s x.now) → option_copied r ≡ before_end n s
unfolding before_end
strips_end n s None never =
    sym (cond-false _ (Some (take (length s - length n) s)) None (false_from_ne_true _ (λ test. never (take (length s - length n) s) (end_is n s test))))
strips_end n s (Some x) (k, (long, parts, at), front, size) =
    let whole : s ≡ x.now ++ n = parts ∙ ap (λ (xs : List ℕ). xs ++ n) (sym front) in
    let size_is : length s - length n ≡ length x.now = omega arith in
    let test : bytes_eq n (drop (length s - length n) s) ≡ true =
    (bytes_eq-Decides n (drop (length s - length n) s)).1 (sym (ap (λ (xs : List ℕ). drop (length s - length n) xs) whole ∙ end_after x.now n (length s - length n) size_is)) in
    ap Some (front ∙ ap (λ (m : ℕ). take (length s - m) s) long) ∙ sym (cond-true _ (Some (take (length s - length n) s)) None test)
