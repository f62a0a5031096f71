-- What crashes leave, now and at each moment of a run of calls.
use Rattle.std.specs.Prelude.{◌≡◌, ◌⊎◌, ℕ, ◌≤◌, List, Result, IsErrOf}
use Rattle.st_io.specs.Causes.{Rose}
use Rattle.st_disk.specs.declared.error.DiskError.{DiskError}
use Rattle.st_disk.specs.declared.error.DiskError.TheVariants.{Failed, OutOfMemory}

-- a crash leaves this file and no other
abbrev pub Only : List ℕ → (List ℕ → Type 0) → Type 0
Only file images = (c : List ℕ) → images c → c ≡ file

-- each image is one of before, after a step
abbrev pub Follows : (List ℕ → List ℕ → Type 0) → (List ℕ → Type 0) → (List ℕ → Type 0) → Type 0
Follows step old new = (c : List ℕ) → new c → (d : List ℕ) × old d × step d c

-- what a read gives, what the last sync left and the images of a crash stay
pub record Rests {D : Type 0} (seen synced : D → List ℕ) (may_leave : D → List ℕ → Type 0) (old new : D) : Type 0 where
  pub same : seen new ≡ seen old
  pub same_synced : synced new ≡ synced old
  pub images : (c : List ℕ) → may_leave new c → may_leave old c
  pub images_back : (c : List ℕ) → may_leave old c → may_leave new c

-- an error that is known to have changed nothing: want of memory, and a fault where the countdown is told
abbrev pub IsClean : Type 0 → DiskError → Type 0
IsClean counts Failed = counts
IsClean counts OutOfMemory = Unit {0}

-- Time goes on: a crash since t may have left what it may have left before, or what it may leave now.
pub record Elapses {D : Type 0} (moment : D → ℕ) (left_since : D → ℕ → List ℕ → Type 0) (may_leave : D → List ℕ → Type 0) (old new : D) : Type 0 where
  pub later : moment old ≤ moment new
  pub nothing_else : (t : ℕ) (c : List ℕ) → t ≤ moment old → left_since new t c → left_since old t c ⊎ may_leave new c
  pub keeps : (t : ℕ) (c : List ℕ) → t ≤ moment old → left_since old t c → left_since new t c

-- a crash at each moment since `old` leaves a file that has P
pub record LeavesOnly {D : Type 0} (moment : D → ℕ) (left_since : D → ℕ → List ℕ → Type 0) (old new : D) (P : List ℕ → Type 0) : Type 0 where
  pub later : moment old ≤ moment new
  pub each : (c : List ℕ) → left_since new (moment old) c → P c
  -- for a run that began earlier
  pub before : (t : ℕ) (c : List ℕ) → t ≤ moment old → left_since new t c → left_since old t c ⊎ P c

-- the count of faults never falls, and Failed is answered only where it rose
pub record HasCause {T : Type 0} (before now : ℕ) (result : Result T DiskError) : Type 0 where
  pub later : before ≤ now
  pub failed : IsErrOf result Failed → Rose before now
