-- Two parts written one behind the other.
use Rattle.std.proofs.Common.{◌≡◌, ℕ, List, [], ◌++◌, length, drop, take, ap, ap₂, ◌∙◌, arith, append-nil}
use Rattle.std.proofs.lemmas.List.{take_at, drop_at, drop_all}

-- the part behind the first n, written over
pub written : (n k : ℕ) (a z y : List ℕ) → length a ≡ n → length z ≡ k → take n (a ++ z) ++ (y ++ drop k (drop n (a ++ z))) ≡ a ++ y
written n k a z y e d =
    let rest : drop k (drop n (a ++ z)) ≡ [] = ap (drop k) (drop_at a z n e) ∙ drop_all k z (omega arith) in
    ap₂ (λ (x t : List ℕ). x ++ (y ++ t)) (take_at a z n e) rest ∙ ap (λ (t : List ℕ). a ++ t) (append-nil y)
