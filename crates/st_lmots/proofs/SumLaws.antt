-- Sums of digits.
use Rattle.std.proofs.Common.{◌≡◌, ℕ, suc, ◌+◌, ◌*◌, ◌/◌, ◌^◌, ◌≤◌, ◌<◌, refl, ap, arith}
use Rattle.st_lmots.specs.declared.kind.OtsKind.{OtsKind}
use Rattle.st_lmots.specs.declared.kind.OtsKind.TheVariants.{W1, W2, W4, W8}
use Rattle.st_lmots.specs.Kinds.{width_of, shift_of, top_of}
use Rattle.st_lmots.specs.Formulas.{sum_below}

-- the empty sum
pub sum_none : (f : ℕ → ℕ) → sum_below f 0 ≡ 0
unfolding sum_below
sum_none f = refl

-- one number more
pub sum_more : (f : ℕ → ℕ) (n : ℕ) → sum_below f (n + 1) ≡ sum_below f n + f n
unfolding sum_below
sum_more f n =
    let e : n + 1 ≡ suc n = omega arith in
    ap (sum_below f) e

-- the greatest checksum fits two bytes
pub checksum_fits : (kind : OtsKind) (sum : ℕ) → sum ≤ (256 / width_of kind) * top_of kind → sum * 2 ^ shift_of kind < 2 ^ 16
checksum_fits W1 sum few = omega arith
checksum_fits W2 sum few = omega arith
checksum_fits W4 sum few = omega arith
checksum_fits W8 sum few = omega arith

-- a sum that goes on stays small
pub sum_small : (kind : OtsKind) (i sum more : ℕ) → i < 256 / width_of kind → sum ≤ i * top_of kind → more ≤ top_of kind → sum + more < 2 ^ 16
sum_small W1 i sum more below few last = omega arith
sum_small W2 i sum more below few last = omega arith
sum_small W4 i sum more below few last = omega arith
sum_small W8 i sum more below few last = omega arith
