-- A journal's file: the mark STJRNL01, then for each body an opened gate (a byte that isn't 0), the
-- body's length in four bytes and the body; then a closed gate (0), and bytes that mean nothing.
use Rattle.std.specs.Prelude.{◌≡◌, ◌≢◌, ◌⊎◌, ℕ, zero, suc, List, [], ◌∷◌, ◌++◌, length, nat_le, ◌==◌, if◌then◌else◌, Result, Ok, Err}
use Rattle.std.specs.Int.{w32, from_be_bytes}
use Rattle.st_fields.specs.Spelling.{number}
use Rattle.st_journal.specs.declared.error.JournalError.{JournalError}
use Rattle.st_journal.specs.declared.error.JournalError.TheVariants.{DiskFault, Full, NotJournal, OutOfMemory}
use Rattle.st_fields.specs.Reading.{Read, ◌>>=◌, number_at, bytes_at, mark_at, placed}

-- STJRNL01
abbrev pub mark : List ℕ
mark = 83 ∷ 84 ∷ 74 ∷ 82 ∷ 78 ∷ 76 ∷ 48 ∷ 49 ∷ []

-- a new journal: a closed gate behind the mark
abbrev pub fresh : List ℕ
fresh = mark ++ 0 ∷ []

-- what stands for a body behind its gate: its length, the body, and a closed gate
unfoldable pub staged : List ℕ → List ℕ
staged body = (number w32 (length body) ++ body) ++ 0 ∷ []

-- ---- reading

-- the body behind an opened gate, where it is whole and a further gate follows, and the bytes from there on
unfoldable pub body_at : List ℕ → Read (List ℕ)
body_at bytes =
    number_at w32 bytes >>= λ n rest.
    bytes_at n rest >>= λ body next.
    if length next == 0 then Err 0 else Ok (body, next)

-- a body before others
abbrev pub with_body : List ℕ → Result (List (List ℕ)) ℕ → Result (List (List ℕ)) ℕ
with_body body (Ok bodies) = Ok (body ∷ bodies)
with_body body (Err left) = Err left

-- goes on behind a body, or refuses the gate before it, where so many bytes were left
abbrev pub behind : ℕ → Read (List ℕ) → (List ℕ → Result (List (List ℕ)) ℕ) → Result (List (List ℕ)) ℕ
behind left (Ok x) more = with_body x.0 (more x.1)
behind left (Err e) more = Err left

-- the bodies from a gate on, fewer than n; a fault says how many bytes were left at the refused gate
unfoldable pub bodies_at : ℕ → List ℕ → Result (List (List ℕ)) ℕ
bodies_at zero bytes = Err (length bytes)
bodies_at (suc n) [] = Err 0
bodies_at (suc n) (gate ∷ rest) = if gate == 0 then Ok [] else behind (length (gate ∷ rest)) (body_at rest) (bodies_at n)

-- The bodies that a file stands for, or the offset of the first fault: 0 where the mark isn't there, else
-- that of an opened gate that no whole body and further gate follow. A file of at most 9 bytes stands
-- for no body, whatever its bytes are.
unfoldable pub bodies_of : List ℕ → Result (List (List ℕ)) ℕ
bodies_of file = if nat_le (length file) 9 then Ok [] else placed (length file) (mark_at mark file >>= λ _ rest. bodies_at (length rest) rest)

-- ---- spelling

-- an opened gate and a body
pub record IsBlock (body block : List ℕ) : Type 0 where
  pub gate : ℕ
  pub size : List ℕ
  pub opened : gate ≢ 0
  pub four : length size ≡ 4
  pub says : from_be_bytes w32 size ≡ length body
  pub is : block ≡ gate ∷ size ++ body

-- opened gates and these bodies, one after another
abbrev pub AreBlocks : List (List ℕ) → List ℕ → Type 0
AreBlocks [] bytes = bytes ≡ []
AreBlocks (body ∷ bodies) bytes = (block : List ℕ) × (rest : List ℕ) × IsBlock body block × AreBlocks bodies rest × (bytes ≡ block ++ rest)

-- the file has the blocks of these bodies, then a closed gate at this offset, and then these bytes
pub record IsFile (bodies : List (List ℕ)) (end : ℕ) (junk file : List ℕ) : Type 0 where
  pub blocks : List ℕ
  pub are : AreBlocks bodies blocks
  pub offset : end ≡ length (mark ++ blocks)
  pub is : file ≡ (mark ++ blocks) ++ 0 ∷ junk

-- the file stands for the bodies, with one more or without it
abbrev pub IsBeforeOrAfter : List (List ℕ) → List ℕ → List ℕ → Type 0
IsBeforeOrAfter bodies body file = (bodies_of file ≡ Ok bodies) ⊎ (bodies_of file ≡ Ok (bodies ++ body ∷ []))

-- what reading a file fails by: its fault, or want of memory
abbrev pub IsFaultOf : Result (List (List ℕ)) ℕ → JournalError → Type 0
IsFaultOf read (NotJournal place) = read ≡ Err place
IsFaultOf read OutOfMemory = Unit {0}
IsFaultOf read DiskFault = ⊥
IsFaultOf read (Full bytes) = ⊥
