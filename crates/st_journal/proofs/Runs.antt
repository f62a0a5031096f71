-- Runs of device calls: what crashes leave at each moment, and the causes of faults.
use Rattle.std.proofs.Common.{◌≡◌, ℕ, ◌≤◌, List, sym, ◌∙◌, subst, arith, inl, inr, ⊎_elim}
use Rattle.st_io.specs.Causes.{Rose}
use Rattle.st_disk.specs.Crashes.{Only, Follows, Elapses, LeavesOnly}
use Rattle.st_disk.proofs.Moments.{started, goes_on}

module _ {D : Type 0} (moment : D → ℕ) (left_since : D → ℕ → List ℕ → Type 0) where
  -- crashes leave what has a weaker property too
  pub weaker : (old new : D) (P Q : List ℕ → Type 0) → LeavesOnly moment left_since old new P → ((c : List ℕ) → P c → Q c) → LeavesOnly moment left_since old new Q
  weaker old new P Q run weakens = record {
    later = run.later;
    each = λ c left. weakens c (run.each c left);
    before = λ t c le left. ⊎_elim (λ was. inl was) (λ p. inr (weakens c p)) (run.before t c le left);
  }

  -- one run, and then another
  pub and_then : (old mid new : D) (P : List ℕ → Type 0) → LeavesOnly moment left_since old mid P → LeavesOnly moment left_since mid new P → LeavesOnly moment left_since old new P
  and_then old mid new P first second = record {
    later = omega (arith, first.later, second.later);
    each = λ c left. ⊎_elim (first.each c) (λ p. p) (second.before (moment old) c first.later left);
    before = λ t c le left. ⊎_elim (first.before t c le) (λ p. inr p) (second.before t c (omega (arith, le, first.later)) left);
  }

module _ {D : Type 0} (seen : D → List ℕ) (moment : D → ℕ) (left_since : D → ℕ → List ℕ → Type 0) (may_leave : D → List ℕ → Type 0) where
  -- before the first call crashes leave the images of now
  pub at_first : (old : D) (P : List ℕ → Type 0) → ((c : List ℕ) → left_since old (moment old) c → may_leave old c) → ((c : List ℕ) → may_leave old c → P c) → LeavesOnly moment left_since old old P
  at_first old P only_now has = started moment left_since may_leave old P (λ c left. has c (only_now c left))

  -- a change that a crash may cut short
  pub changed : (old mid : D) (step : List ℕ → List ℕ → Type 0) → ((c : List ℕ) → left_since old (moment old) c → may_leave old c) → ((c : List ℕ) → step c c)
      → Follows step (may_leave old) (may_leave mid) → Elapses moment left_since may_leave old mid → LeavesOnly moment left_since old mid (λ c. (d : List ℕ) × may_leave old d × step d c)
  changed old mid step only_now none follows time =
      let P : List ℕ → Type 0 = λ c. (d : List ℕ) × may_leave old d × step d c in
      goes_on moment left_since may_leave old old mid P (at_first old P only_now (λ c image. (c, image, none c))) time follows

  -- a call more that adds no image
  pub brought : (old mid new : D) (P : List ℕ → Type 0) → LeavesOnly moment left_since old mid P → ((c : List ℕ) → may_leave mid c → P c) → ((c : List ℕ) → may_leave new c → may_leave mid c)
      → Elapses moment left_since may_leave mid new → LeavesOnly moment left_since old new P
  brought old mid new P run has fewer time = goes_on moment left_since may_leave old mid new P run time (λ c image. has c (fewer c image))

  -- a sync adds no image
  pub sync_images : (mid new : D) → ((d : D) → may_leave d (seen d)) → seen new ≡ seen mid → Only (seen new) (may_leave new) → (c : List ℕ) → may_leave new c → may_leave mid c
  sync_images mid new leaves_seen same only c image = subst (may_leave mid) (sym (only c image ∙ same)) (leaves_seen mid)

-- ---- causes

-- a count that rose later rose
pub rose_later : (before mid now : ℕ) → before ≤ mid → Rose mid now → Rose before now
rose_later before mid now le rose = omega arith

-- a count that rose before rose
pub rose_before : (before mid now : ℕ) → Rose before mid → mid ≤ now → Rose before now
rose_before before mid now rose le = omega arith
