-- The calls that a disk in memory has had since it was empty, or since a crash: the newest first.
use Rattle.std.specs.Prelude.{◌≡◌, ◌⊎◌, ℕ, ◌+◌, ◌≤◌, List, [], ◌∷◌, length, take, drop, reverse, All}
use Rattle.st_disk.specs.declared.call.Call.{Call}
use Rattle.st_disk.specs.declared.call.Call.TheVariants.{Write, Cut, Sync}
use Rattle.st_disk.specs.Files.{padded, written, Torn, Resized}

-- the file after a call
abbrev pub after : Call → List ℕ → List ℕ
after (Write at piece) file = written at piece file
after (Cut size) file = padded size file
after Sync file = file

-- the file after these calls, where it began as `start`
abbrev pub content : List ℕ → List Call → List ℕ
content start [] = start
content start (call ∷ earlier) = after call (content start earlier)

-- the file as the last of their syncs left it
abbrev pub durable : List ℕ → List Call → List ℕ
durable start [] = start
durable start (Sync ∷ earlier) = content start earlier
durable start (call ∷ earlier) = durable start earlier

-- the files that a crash after these calls may leave: each call since the last sync torn or cut short
abbrev pub IsImage : List ℕ → List Call → List ℕ → Type 0
IsImage start [] c = c ≡ start
IsImage start (Write at piece ∷ earlier) c = (d : List ℕ) × IsImage start earlier d × Torn at (length piece) d c
IsImage start (Cut size ∷ earlier) c = (d : List ℕ) × IsImage start earlier d × Resized size d c
IsImage start (Sync ∷ earlier) c = c ≡ content start earlier

-- the files that a crash may have left now, or at an earlier moment from t on: moments count the calls
abbrev pub IsImageSince : List ℕ → ℕ → List Call → List ℕ → Type 0
IsImageSince start t [] c = c ≡ start
IsImageSince start t (call ∷ earlier) c = IsImage start (call ∷ earlier) c ⊎ ((t ≤ length earlier) × IsImageSince start t earlier c)

-- how long a file has to be for a call to be made in place
abbrev pub reach : Call → ℕ
reach (Write at piece) = at + length piece
reach (Cut size) = size
reach Sync = 0

-- the calls of a record, the newest first, from one of them on
abbrev pub calls_from : ℕ → List Call → List Call
calls_from n calls = reverse (drop n calls)

-- the file after the first n calls of a record, which began empty
abbrev pub content_at : ℕ → List Call → List ℕ
content_at n calls = content [] (reverse (take n calls))

-- What a disk in memory keeps of its record of calls: the bytes are the file after all of them, in a
-- vector that has room for each; the first `settled` were made before a crash, and the first `synced`
-- are on the disk.
pub record IsKept (calls : List Call) (settled synced : ℕ) (bytes : List ℕ) (room : ℕ) : Type 0 where
  pub settled_first : settled ≤ synced
  pub inside : synced ≤ length calls
  pub made : bytes ≡ content [] (reverse calls)
  pub stands : content_at synced calls ≡ durable (content_at settled calls) (calls_from settled calls)
  pub fits : All (λ call. reach call ≤ room) calls
