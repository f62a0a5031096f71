-- Looking at seals one after another.
use Rattle.std.proofs.Common.{◌≡◌, ℕ, ◌+◌, ◌<◌, ◌≤◌, Bool, true, false, cond, Option, Some, None, List, [], ◌∷◌, length, get_or, drop, refl, sym, ap, ◌∙◌}
use Rattle.std.proofs.lemmas.List.{at_drop_more, at_drop_all}
use Rattle.st_words.specs.Spelling.{statement_spelling}
use Rattle.st_seal.specs.Pen.{Checks}
use Rattle.st_wire.specs.declared.seal.SealIn.{SealIn}
use Rattle.st_protocol.specs.World.{first_bad}
use Rattle.st_reading.specs.Answered.{first_unchecked}

-- a seal that checks is gone past
pub goes_past : (checks : Checks) (id : ℕ) (seals : List SealIn) (i : ℕ) (x : SealIn) → i < length seals → x ≡ get_or seals i x
    → checks x.who (statement_spelling id x.statement) x.seal ≡ true
    → first_unchecked checks id (drop (i + 1) seals) ≡ first_unchecked checks id (drop i seals)
unfolding first_bad
goes_past checks id seals i x lt is good =
    let here : first_unchecked checks id (drop i seals) ≡ first_unchecked checks id (x ∷ drop (i + 1) seals)
    = at_drop_more (first_unchecked checks id) seals i x lt ∙ ap (λ (y : SealIn). first_unchecked checks id (y ∷ drop (i + 1) seals)) (sym is) in
    sym (here ∙ ap (λ (b : Bool). cond b (first_unchecked checks id (drop (i + 1) seals)) (Some x.place)) good)

-- one that doesn't is the first
pub is_found : (checks : Checks) (id : ℕ) (seals : List SealIn) (i : ℕ) (x : SealIn) → i < length seals → x ≡ get_or seals i x
    → checks x.who (statement_spelling id x.statement) x.seal ≡ false
    → Some x.place ≡ first_unchecked checks id (drop i seals)
unfolding first_bad
is_found checks id seals i x lt is bad =
    let here : first_unchecked checks id (drop i seals) ≡ first_unchecked checks id (x ∷ drop (i + 1) seals)
    = at_drop_more (first_unchecked checks id) seals i x lt ∙ ap (λ (y : SealIn). first_unchecked checks id (y ∷ drop (i + 1) seals)) (sym is) in
    sym (here ∙ ap (λ (b : Bool). cond b (first_unchecked checks id (drop (i + 1) seals)) (Some x.place)) bad)

-- where each checks there is none
pub none_is_left : (checks : Checks) (id : ℕ) (seals : List SealIn) (i : ℕ) → length seals ≤ i → None ≡ first_unchecked checks id (drop i seals)
unfolding first_bad
none_is_left checks id seals i past = sym (at_drop_all (first_unchecked checks id) seals i past)
