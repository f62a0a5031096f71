-- The leaf stands in the first four bytes, the digest in the others.
use Rattle.std.proofs.Common.{◌≡◌, ℕ, List, [], ◌++◌, length, drop, take, ap, ap₂, ◌∙◌, arith, append-nil}
use Rattle.std.proofs.lemmas.List.{take_at, drop_at, drop_all}
use Rattle.std.specs.Prelude.{replicate}
use Rattle.st_seal.specs.Keyed.{keyed_seal}
use Rattle.st_seal.proofs.keyed.keyed_seal.Goals as goal

-- the second part of a list, written over
written : (n k : ℕ) (a z y : List ℕ) → length a ≡ n → length z ≡ k → take n (a ++ z) ++ (y ++ drop k (drop n (a ++ z))) ≡ a ++ y
written n k a z y e d =
    let rest : drop k (drop n (a ++ z)) ≡ [] = ap (drop k) (drop_at a z n e) ∙ drop_all k z (omega arith) in
    ap₂ (λ (x t : List ℕ). x ++ (y ++ t)) (take_at a z n e) rest ∙ ap (λ (t : List ℕ). a ++ t) (append-nil y)

pub returns : goal.returns
unfolding keyed_seal
returns c =
    let first = c.copy_from_slice.ensures.after in
    let others = c.copy_from_slice-2.ensures.after ∙ c.digest_of-digest.ensures in
    written 4 32 c.copy_from_slice.new.self (replicate 32 0) c.copy_from_slice-2.new.self c.copy_from_slice.ensures.len (omega arith)
    ∙ ap₂ (λ (x t : List ℕ). x ++ t) first others
