-- Elements put one behind another.
use Rattle.std.proofs.Common.{◌≡◌, ℕ, zero, suc, ◌+◌, ◌*◌, ◌<◌, ◌≤◌, List, ◌++◌, length, take, drop, refl, ap, ap₂, ◌∙◌, sym, arith, append_assoc, inl, inr}
use Rattle.std.proofs.lemmas.Bool.{cases_lt}
use Rattle.std.proofs.lemmas.List.{length-append, length-drop, drop_at, take_all, drop-append-le, take-append-le}
use Rattle.st_lmots.specs.Formulas.{gathered}

-- before the first element
pub gathered_none : (front : List ℕ) (f : ℕ → List ℕ) → gathered front f 0 ≡ front
unfolding gathered
gathered_none front f = refl

-- one element more
pub gathered_more : (front : List ℕ) (f : ℕ → List ℕ) (n : ℕ) → gathered front f (n + 1) ≡ gathered front f n ++ f n
unfolding gathered
gathered_more front f n =
    let e : n + 1 ≡ suc n = omega arith in
    ap (gathered front f) e

-- before the first element, where the front has two parts
pub gathered_begun : (before a b : List ℕ) (f : ℕ → List ℕ) → gathered (before ++ (a ++ b)) f 0 ≡ before ++ a ++ b
unfolding gathered
gathered_begun before a b f = sym (append_assoc before a b)

-- what stands before the front stays there
pub gathered_behind : (before front : List ℕ) (f : ℕ → List ℕ) (n : ℕ) → gathered (before ++ front) f n ≡ before ++ gathered front f n
unfolding gathered
gathered_behind before front f zero = refl
gathered_behind before front f (suc n) =
    ap (λ (x : List ℕ). x ++ f n) (gathered_behind before front f n) ∙ append_assoc before (gathered front f n) (f n)

-- elements that are the same one by one
pub gathered_same : (front : List ℕ) (f g : ℕ → List ℕ) (n : ℕ) → ((k : ℕ) → k < n → f k ≡ g k) → gathered front f n ≡ gathered front g n
unfolding gathered
gathered_same front f g zero same = refl
gathered_same front f g (suc n) same =
    ap₂ (λ (x y : List ℕ). x ++ y) (gathered_same front f g n (λ k below. same k (omega arith))) (same n (omega arith))

-- how long elements of 32 bytes are together
pub length-gathered : (front : List ℕ) (f : ℕ → List ℕ) (n : ℕ) → ((k : ℕ) → length (f k) ≡ 32) → length (gathered front f n) ≡ length front + 32 * n
unfolding gathered
length-gathered front f zero wide = omega arith
length-gathered front f (suc n) wide =
    omega (arith, length-append (gathered front f n) (f n), length-gathered front f n wide, wide n)

-- 32 bytes, at the end of what stands before them
at_seam : (a b : List ℕ) (at : ℕ) → length a ≡ at → length b ≡ 32 → take 32 (drop at (a ++ b)) ≡ b
at_seam a b at e wide = ap (take 32) (drop_at a b at e) ∙ take_all 32 b (omega arith)

-- 32 bytes that stand before the end
before_seam : (a b : List ℕ) (at : ℕ) → at + 32 ≤ length a → take 32 (drop at (a ++ b)) ≡ take 32 (drop at a)
before_seam a b at room =
    ap (take 32) (drop-append-le at a b (omega arith)) ∙ take-append-le 32 (drop at a) b (omega (arith, length-drop at a))

-- each element stands where those of 32 bytes before it end
pub element_at : (front : List ℕ) (f : ℕ → List ℕ) (n k : ℕ) → ((k : ℕ) → length (f k) ≡ 32) → k < n → take 32 (drop (length front + 32 * k) (gathered front f n)) ≡ f k
unfolding gathered
element_at front f zero k wide below = absurd (omega arith)
element_at front f (suc n) k wide below =
    let whole : length (gathered front f n) ≡ length front + 32 * n = length-gathered front f n wide in
    elim (cases_lt k n) [
      | inl lt ↦ before_seam (gathered front f n) (f n) (length front + 32 * k) (omega arith) ∙ element_at front f n k wide lt
      | inr le ↦ (let last : k ≡ n = omega arith in
          let at : length (gathered front f n) ≡ length front + 32 * k = omega arith in
          at_seam (gathered front f n) (f n) (length front + 32 * k) at (wide n) ∙ ap f (sym last))
    ]
