-- What a journal is, what its calls answer, and when.
use Rattle.std.specs.Prelude.{◌≡◌, ℕ, ◌+◌, ◌-◌, ◌^◌, min, List, length, false, IsTrue, Option, None, Result, Ok, Err}
use Rattle.st_disk.specs.Countdowns.{counted, is_due}
use Rattle.st_journal.specs.declared.error.JournalError.{JournalError}
use Rattle.st_journal.specs.declared.error.JournalError.TheVariants.{DiskFault, Full, NotJournal, OutOfMemory}
use Rattle.st_journal.specs.declared.error.NotStarted.{NotStarted}
use Rattle.st_journal.specs.declared.journal.Journal.{Journal}
use Rattle.st_journal.specs.Blocks.{bodies_of}
use Rattle.st_journal.specs.Ready.{IsReady}

-- the disk on which a journal stands
abbrev pub disk_of : {D : Type 0} → Journal D → D
disk_of j = j.disk

-- how long the file may get
abbrev pub limit_of : {D : Type 0} → Journal D → ℕ
limit_of j = j.limit

-- how long the file is, as the journal keeps it: up to and with the closed gate
abbrev pub length_of : {D : Type 0} → Journal D → ℕ
length_of j = j.end + 1

-- The journal stands for these bodies: its file has their blocks, then the closed gate and nothing more,
-- and all of it is on the disk.
pub record Stands {D : Type 0} (seen : D → List ℕ) (may_leave : D → List ℕ → Type 0) (journal : Journal D) (bodies : List (List ℕ)) : Type 0 where
  pub reads : bodies_of (seen journal.disk) ≡ Ok bodies
  pub ready : IsReady bodies journal.end (seen journal.disk) (may_leave journal.disk)

-- how long the file would be with one body more; lengths end at 2^64-1
abbrev pub length_with : {D : Type 0} → Journal D → List ℕ → ℕ
length_with journal body = min (length_of journal + (5 + length body)) (2 ^ 64 - 1)

-- what a start answers: the bodies or the error
abbrev pub answer_of : {D : Type 0} → Result (Journal D × List (List ℕ)) (NotStarted JournalError D) → Result (List (List ℕ)) JournalError
answer_of (Ok x) = Ok x.1
answer_of (Err e) = Err e.error

-- the disk that a start leaves: that of the journal, or that which is handed back
abbrev pub disk_after : {D : Type 0} → Result (Journal D × List (List ℕ)) (NotStarted JournalError D) → D
disk_after (Ok x) = x.0.disk
disk_after (Err e) = e.disk

-- what starting on a file answers, where its bytes stand for these bodies or have this fault
abbrev pub Starts : Result (List (List ℕ)) JournalError → Result (List (List ℕ)) ℕ → Type 0
Starts (Ok bodies) read = read ≡ Ok bodies
Starts (Err (NotJournal place)) read = read ≡ Err place
Starts (Err DiskFault) read = Unit {0}
Starts (Err (Full bytes)) read = ⊥
Starts (Err OutOfMemory) read = Unit {0}

-- The device calls of an append, where the countdown is told: four, of which none was the set call, or
-- up to the set call; none where the file would be too long.
abbrev pub CountsAppend : {T : Type 0} → Option ℕ → Option ℕ → Result T JournalError → Type 0
CountsAppend before now (Ok x) = (now ≡ counted 4 before) × (is_due 4 before ≡ false)
CountsAppend before now (Err DiskFault) = (now ≡ None) × IsTrue (is_due 4 before)
CountsAppend before now (Err (Full bytes)) = now ≡ before
CountsAppend before now (Err (NotJournal place)) = ⊥
CountsAppend before now (Err OutOfMemory) = before ≡ None → now ≡ None
