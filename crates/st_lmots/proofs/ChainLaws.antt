-- A chain, step by step.
use Rattle.std.proofs.Common.{◌≡◌, ℕ, zero, suc, ◌+◌, ◌-◌, ◌≤◌, List, ap, ap₂, ◌∙◌, arith}
use Rattle.std.proofs.Common.{length}
use Rattle.sha2.proofs.Facts256.{length-sha256}
use Rattle.st_lmots.specs.Formulas.{step, chain, secret}

-- before the first step
pub chain_none : (at : List ℕ) (from n : ℕ) (value : List ℕ) → n ≡ 0 → chain at from n value ≡ value
unfolding chain
chain_none at from n value e = ap (λ (k : ℕ). chain at from k value) e

-- one step more
pub chain_more : (at : List ℕ) (from j : ℕ) (value : List ℕ) → from ≤ j → chain at from (j + 1 - from) value ≡ step at j (chain at from (j - from) value)
unfolding chain
chain_more at from j value low =
    let e : j + 1 - from ≡ suc (j - from) = omega arith in
    let there : from + (j - from) ≡ j = omega arith in
    ap (λ (k : ℕ). chain at from k value) e ∙ ap (λ (k : ℕ). step at k (chain at from (j - from) value)) there

-- a step is a digest
pub length-step : (at : List ℕ) (j : ℕ) (value : List ℕ) → length (step at j value) ≡ 32
unfolding step
length-step at j value = length-sha256 _

-- where a chain begins has 32 bytes
pub length-secret : (at seed : List ℕ) → length (secret at seed) ≡ 32
unfolding secret
length-secret at seed = length-step at 0xff seed

-- each value of a chain of 32 bytes has as many
pub length-chain : (at : List ℕ) (from n : ℕ) (value : List ℕ) → length value ≡ 32 → length (chain at from n value) ≡ 32
unfolding chain
length-chain at from zero value wide = wide
length-chain at from (suc n) value wide = length-step at (from + n) (chain at from n value)

-- a chain, gone on with
pub chain_on : (at : List ℕ) (a n : ℕ) (value : List ℕ) → chain at a n (chain at 0 a value) ≡ chain at 0 (a + n) value
unfolding chain
chain_on at a zero value = ap (λ (k : ℕ). chain at 0 k value) (let e : a ≡ a + 0 = omega arith in e)
chain_on at a (suc n) value =
    let more : suc (a + n) ≡ a + suc n = omega arith in
    let there : a + n ≡ 0 + (a + n) = omega arith in
    ap₂ (λ (k : ℕ) (x : List ℕ). step at k x) there (chain_on at a n value) ∙ ap (λ (k : ℕ). chain at 0 k value) more

-- a chain gone on with to its end
pub chain_ends : (at : List ℕ) (a top : ℕ) (value : List ℕ) → a ≤ top → chain at a (top - a) (chain at 0 a value) ≡ chain at 0 top value
chain_ends at a top value below =
    let e : a + (top - a) ≡ top = omega arith in
    chain_on at a (top - a) value ∙ ap (λ (k : ℕ). chain at 0 k value) e
