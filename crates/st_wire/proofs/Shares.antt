-- Putting the seals of a quorum one behind another.
use Rattle.std.proofs.Common.{◌≡◌, ℕ, ◌<◌, ◌≤◌, Bool, false, List, [], ◌∷◌, ◌++◌, All, Result, Ok, Err, arith}
use Rattle.std.specs.Prelude.{OnOk}
use Rattle.std.specs.Result.{is_err}
use Rattle.std.proofs.lemmas.List.Elements.{All-nil, All-cons, All-head, All-tail}
use Rattle.st_seal.specs.declared.quorum.Signed.{Signed}

-- what holds where a call succeeded, once it did
pub if_ok : {A E : Type 0} (answer : Result A E) (P : Type 0) → is_err answer ≡ false → OnOk answer P → P
if_ok (Ok x) P e holds = holds
if_ok (Err error) P e holds = absurd cc

-- indices below a bound, and one more below a greater one
pub all_below : (low high : ℕ) (shares : List Signed) (s : Signed) → low ≤ high → s.index < high → All (λ (t : Signed). t.index < low) shares → All (λ (t : Signed). t.index < high) (shares ++ s ∷ [])
all_below low high [] s more below all = All-cons (λ (t : Signed). t.index < high) s [] below (All-nil (λ (t : Signed). t.index < high))
all_below low high (t ∷ shares) s more below all =
    let head : t.index < low = All-head (λ (u : Signed). u.index < low) t shares all in
    let rest = All-tail (λ (u : Signed). u.index < low) t shares all in
    All-cons (λ (u : Signed). u.index < high) t (shares ++ s ∷ []) (omega (arith, head)) (all_below low high shares s more below rest)
