-- The way up a tree.
use Rattle.std.proofs.Common.{◌≡◌, ℕ, zero, suc, ◌+◌, ◌-◌, ◌*◌, ◌/◌, ◌^◌, ◌<◌, ◌≤◌, ◌%◌, ◌≢◌, eqb, List, ◌++◌, take, drop, sym, ap, ◌∙◌, arith, append_assoc, append-nil, inl, inr}
use Rattle.std.proofs.lemmas.Bool.{cases_Bool, eqb-false}
use Rattle.st_lms.specs.declared.kind.LmsKind.{LmsKind}
use Rattle.st_lms.specs.Kinds.{leaves_of}
use Rattle.std.proofs.Math.Nat.{pow-succ'}
use Rattle.st_lms.specs.declared.secret.LmsSecret.{LmsSecret}
use Rattle.st_lms.specs.Formulas.{tree_node, sibling, path_from, parent_of, climbed}

-- at the root
pub climb_end : (i : List ℕ) (n r : ℕ) (value path : List ℕ) → n ≡ 0 → climbed i n r value path ≡ value
unfolding climbed
climb_end i n r value path e = ap (λ (k : ℕ). climbed i k r value path) e

-- one level up
pub climb_step : (i : List ℕ) (h k r : ℕ) (value path : List ℕ) → k < h → climbed i (h - k) r value path ≡ climbed i (h - (k + 1)) (r / 2) (parent_of i r value (take 32 path)) (drop 32 path)
unfolding climbed
climb_step i h k r value path below =
    let e : h - k ≡ suc (h - (k + 1)) = omega arith in
    ap (λ (n : ℕ). climbed i n r value path) e

-- the path ends at the root
pub path_end : (s : LmsSecret) (n r : ℕ) (out : List ℕ) → n ≡ 0 → out ++ path_from s n r ≡ out
unfolding path_from
path_end s n r out e = ap (λ (k : ℕ). out ++ path_from s k r) e ∙ append-nil out

-- one sibling more
pub path_step : (s : LmsSecret) (h k r : ℕ) (out node : List ℕ) → k < h → node ≡ tree_node s (sibling r) → out ++ path_from s (h - k) r ≡ (out ++ node) ++ path_from s (h - (k + 1)) (r / 2)
unfolding path_from
path_step s h k r out node below is =
    let e : h - k ≡ suc (h - (k + 1)) = omega arith in
    ap (λ (n : ℕ). out ++ path_from s n r) e
    ∙ (ap (λ (x : List ℕ). out ++ (x ++ path_from s (h - (k + 1)) (r / 2))) (sym is)
    ∙ sym (append_assoc out node (path_from s (h - (k + 1)) (r / 2))))

-- below the root there are at least two nodes at a level, and half as many one level up
pub level_up : (h k r : ℕ) → k < h → 2 ^ (h - k) ≤ r → (2 ≤ r) × (2 ^ (h - (k + 1)) ≤ r / 2)
level_up h k r below at =
    let e : h - k ≡ suc (h - (k + 1)) = omega arith in
    let twice : 2 ^ (h - k) ≡ 2 * 2 ^ (h - (k + 1)) = ap (λ (n : ℕ). 2 ^ n) e ∙ pow-succ' 2 (h - (k + 1)) in
    let some : 1 ≤ 2 ^ (h - (k + 1)) = pow_pos (h - (k + 1)) in
    (omega arith, omega arith)
  where
    pow_pos : (n : ℕ) → 1 ≤ 2 ^ n
    pow_pos zero = omega arith
    pow_pos (suc n) = let before = pow_pos n in omega (arith, pow-succ' 2 n)

-- a sibling below the root is a node of the tree
pub sibling_within : (kind : LmsKind) (r : ℕ) → 2 ≤ r → r < 2 * leaves_of kind → (1 ≤ sibling r) × (sibling r < 2 * leaves_of kind)
sibling_within kind r low high =
    elim (cases_Bool (eqb (r % 2) 1)) [
      | inl odd ↦ rw odd (omega arith, omega arith)
      | inr even ↦ (let no : r % 2 ≢ 1 = eqb-false _ _ even in rw even (omega arith, omega arith))
    ]

-- five parts, put one behind another
pub five_parts : (out a b c d : List ℕ) → (((out ++ a) ++ b) ++ c) ++ d ≡ out ++ (((a ++ b) ++ c) ++ d)
five_parts out a b c d = simp append_assoc
