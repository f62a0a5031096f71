-- The causes of a journal's errors, and what a crash during a start leaves.
use Rattle.std.specs.Prelude.{◌≡◌, ◌⊎◌, ℕ, List, Result, Ok, Err}
use Rattle.st_io.specs.Causes.{Rose}
use Rattle.st_journal.specs.declared.error.JournalError.{JournalError}
use Rattle.st_journal.specs.declared.error.JournalError.TheVariants.{DiskFault, Full, NotJournal, OutOfMemory}
use Rattle.st_disk.specs.Crashes.{Only, Elapses, LeavesOnly}
use Rattle.st_journal.specs.Blocks.{bodies_of}

-- DiskFault is answered only where the count of faults rose
abbrev pub Faults : JournalError → ℕ → ℕ → Type 0
Faults DiskFault before now = Rose before now
Faults (Full bytes) before now = Unit {0}
Faults (NotJournal place) before now = Unit {0}
Faults OutOfMemory before now = Unit {0}

-- what a start fails by: the file's fault, a fault of the disk or want of memory
abbrev pub IsStartFault : Result (List (List ℕ)) ℕ → JournalError → Type 0
IsStartFault read (NotJournal place) = read ≡ Err place
IsStartFault read DiskFault = Unit {0}
IsStartFault read (Full bytes) = ⊥
IsStartFault read OutOfMemory = Unit {0}

-- the image is one of those from before, or it has the bodies of this file
abbrev pub IsBeforeOrSame : (List ℕ → Type 0) → List ℕ → List ℕ → Type 0
IsBeforeOrSame images file c = images c ⊎ (bodies_of c ≡ bodies_of file)

-- No sync was made: the file is as it was, and a crash leaves what it might have left before.
pub record Unsynced {D : Type 0} (seen : D → List ℕ) (moment : D → ℕ) (left_since : D → ℕ → List ℕ → Type 0) (may_leave : D → List ℕ → Type 0) (old new : D) : Type 0 where
  pub same : seen new ≡ seen old
  pub images : LeavesOnly moment left_since old new (may_leave old)

-- The first call was a sync that was made: it left the file as it was, all of it on the disk. A crash from
-- then on leaves what has P.
pub record SyncedFirst {D : Type 0} (seen : D → List ℕ) (moment : D → ℕ) (left_since : D → ℕ → List ℕ → Type 0) (may_leave : D → List ℕ → Type 0) (old new : D) (P : List ℕ → Type 0) : Type 0 where
  -- the disk after that sync
  pub mid : D
  pub same : seen mid ≡ seen old
  pub durable : Only (seen old) (may_leave mid)
  pub time : Elapses moment left_since may_leave old mid
  pub later : LeavesOnly moment left_since mid new P

-- the file has the bodies of this one, or its fault
abbrev pub HasSameBodies : List ℕ → List ℕ → Type 0
HasSameBodies file c = bodies_of c ≡ bodies_of file

-- the bodies that were read, without where the closed gate stands
abbrev pub bodies_read : Result (List (List ℕ) × ℕ) JournalError → Result (List (List ℕ)) JournalError
bodies_read (Ok x) = Ok x.0
bodies_read (Err e) = Err e

-- what a crash at any moment of a start leaves, by what the start answers
abbrev pub LeavesInStart : {D : Type 0} → (D → List ℕ) → (D → ℕ) → (D → ℕ → List ℕ → Type 0) → (D → List ℕ → Type 0) → D → D → Result (List (List ℕ)) JournalError → Type 0
LeavesInStart seen moment left_since may_leave old new (Ok bodies) = SyncedFirst seen moment left_since may_leave old new (λ c. bodies_of c ≡ Ok bodies)
LeavesInStart seen moment left_since may_leave old new (Err (NotJournal place)) = SyncedFirst seen moment left_since may_leave old new (λ c. c ≡ seen old)
LeavesInStart seen moment left_since may_leave old new (Err DiskFault) = Unsynced seen moment left_since may_leave old new ⊎ SyncedFirst seen moment left_since may_leave old new (HasSameBodies (seen old))
LeavesInStart seen moment left_since may_leave old new (Err OutOfMemory) = Unsynced seen moment left_since may_leave old new ⊎ SyncedFirst seen moment left_since may_leave old new (HasSameBodies (seen old))
LeavesInStart seen moment left_since may_leave old new (Err (Full bytes)) = ⊥
