-- A countdown of device calls to the one that is set to fail.
use Rattle.std.specs.Prelude.{◌≡◌, ◌↔◌, ℕ, ◌-◌, Bool, false, IsTrue, nat_lt, nat_le, if◌then◌else◌, Option, Some, None, Result, IsErrOf}
use Rattle.st_io.specs.Causes.{Rose}
use Rattle.st_io.specs.Plans.{one_more}
use Rattle.st_disk.specs.declared.error.DiskError.{DiskError}
use Rattle.st_disk.specs.declared.error.DiskError.TheVariants.{Failed}
use Rattle.st_disk.specs.declared.countdown.Countdown.{Countdown}

-- whether the set call is among the next n
abbrev pub is_due : ℕ → Option ℕ → Bool
is_due n None = false
is_due n (Some k) = nat_le k n

-- the countdown n device calls later
abbrev pub counted : ℕ → Option ℕ → Option ℕ
counted n None = None
counted n (Some k) = if nat_lt n k then Some (k - n) else None

-- One device call, where the countdown is told: it answers Failed exactly where it is the set call, and
-- the count of faults rises there and nowhere else.
pub record CountsCall {T : Type 0} (before now : Option ℕ) (faults faults' : ℕ) (result : Result T DiskError) : Type 0 where
  pub next : now ≡ counted 1 before
  pub failed : IsErrOf result Failed ↔ IsTrue (is_due 1 before)
  pub rises : IsTrue (is_due 1 before) → Rose faults faults'
  pub stays : is_due 1 before ≡ false → faults' ≡ faults

-- one device call later, with its fault counted
abbrev pub called : Countdown → Countdown
called c = record { left = counted 1 c.left; faults = if is_due 1 c.left then one_more c.faults else c.faults }
