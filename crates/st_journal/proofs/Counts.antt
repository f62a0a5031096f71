-- Countdowns over several device calls.
use Rattle.std.proofs.Common.{◌≡◌, ℕ, ◌+◌, ◌-◌, false, Option, Some, None, refl, arith, inl, inr}
use Rattle.std.specs.Prelude.{IsTrue}
use Rattle.std.proofs.lemmas.Bool.{cases_lt, lt-ltb, le-leb, lt-leb, leb-true, leb-false}
use Rattle.st_disk.specs.Countdowns.{counted, is_due}

-- a call that is among the next m is among the next m + n
pub due_within : (m n : ℕ) (b : Option ℕ) → IsTrue (is_due m b) → IsTrue (is_due (m + n) b)
due_within m n None due = absurd cc
due_within m n (Some k) due = let within = leb-true k m due in le-leb k (m + n) (omega arith)

-- a call that isn't among the first m is among the next n after them
pub due_after : (m n : ℕ) (b : Option ℕ) → is_due m b ≡ false → is_due (m + n) b ≡ is_due n (counted m b)
due_after m n None first = refl
due_after m n (Some k) first =
    let more = leb-false k m first in
    elim (cases_lt n (k - m)) [
      | inl further ↦ rw (lt-ltb m k more, lt-leb (k - m) n further, lt-leb k (m + n) (omega arith)) refl
      | inr over ↦ rw (lt-ltb m k more, le-leb (k - m) n over, le-leb k (m + n) (omega arith)) refl
    ]
