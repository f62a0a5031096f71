-- Runs of device calls.
use Rattle.std.specs.Prelude.{◌≡◌, ℕ, List, false, IsTrue, Option, None, Result, Ok, Err}
use Rattle.st_disk.specs.declared.error.DiskError.{DiskError}
use Rattle.st_disk.specs.declared.error.DiskError.TheVariants.{Failed, OutOfMemory}
use Rattle.st_disk.specs.Files.{Torn, Resized}
use Rattle.st_disk.specs.Countdowns.{counted, is_due}

-- an image of before, after a write that was cut short
abbrev pub TornFrom : (List ℕ → Type 0) → ℕ → ℕ → List ℕ → Type 0
TornFrom images at n c = (d : List ℕ) × images d × Torn at n d c

-- an image of before, after a change of the size that was cut short
abbrev pub ResizedFrom : (List ℕ → Type 0) → ℕ → List ℕ → Type 0
ResizedFrom images size c = (d : List ℕ) × images d × Resized size d c

-- n device calls, where the countdown is told: all were made and none was the set call, or one of them
-- was it, and none is set any more; want of memory may end them early
abbrev pub CountsCalls : {T : Type 0} → ℕ → Option ℕ → Option ℕ → Result T DiskError → Type 0
CountsCalls n before now (Ok x) = (now ≡ counted n before) × (is_due n before ≡ false)
CountsCalls n before now (Err Failed) = (now ≡ None) × IsTrue (is_due n before)
CountsCalls n before now (Err OutOfMemory) = before ≡ None → now ≡ None

-- no call is set to fail, and none failed
pub record IsQuiet {T : Type 0} (now : Option ℕ) (result : Result T DiskError) : Type 0 where
  pub none : now ≡ None
  pub no_fault : result ≡ Err Failed → ⊥
