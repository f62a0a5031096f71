-- How a run ended.
use Rattle.std.specs.Prelude.{◌≡◌, ℕ, ◌⊎◌, false, List, Option, Some}
use Rattle.st_io.specs.Streams.{Adds, AddsFront}
use Rattle.st_run.specs.declared.status.Status.{Status}
use Rattle.st_run.specs.declared.status.Status.TheVariants as statuses
use Rattle.st_run.specs.declared.answer.Answer.{Answer}
use Rattle.st_run.specs.Answers.{answer_of, is_replay, usage}

-- the run came to its answer: no read and no write failed, and no memory was wanting
abbrev pub IsAnswered : Status → Type 0
IsAnswered statuses.ReadFault = ⊥
IsAnswered statuses.WriteFault = ⊥
IsAnswered statuses.OutOfMemory = ⊥
IsAnswered _ = Unit {0}

-- a replay may end so: it has no disk, no link and no journal that could fail it
abbrev pub EndsReplay : Status → Type 0
EndsReplay statuses.DiskFault = ⊥
EndsReplay statuses.LinkFault = ⊥
EndsReplay statuses.NotJournal = ⊥
EndsReplay statuses.JournalFull = ⊥
EndsReplay _ = Unit {0}

-- The words and what the source tells determine this answer: other words than `replay` alone, and `replay` with all the
-- bytes that are left in the source.
unfoldable pub IsAnswerTo : List (List ℕ) → Option (List ℕ) → Answer → Type 0
IsAnswerTo words left answer = ((is_replay words ≡ false) × (answer ≡ usage)) ⊎ ((bytes : List ℕ) × (left ≡ Some bytes) × (answer ≡ answer_of words bytes))

-- this is the answer's status, and the answer's text was written
pub record Gave (status : Status) (answer : Answer) (before now : Option (List ℕ)) : Type 0 where
  pub is : status ≡ answer.status
  pub written : Adds before now answer.text

-- nothing was written, or a front of the text
abbrev pub GaveFront : Answer → Option (List ℕ) → Option (List ℕ) → Type 0
GaveFront answer before now = (now ≡ before) ⊎ AddsFront before now answer.text
