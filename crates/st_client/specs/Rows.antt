-- Answers by site and index, in rows.
use Rattle.std.specs.Prelude.{ℕ, Bool, false, nat_eq, ◌&&◌, bytes_eq, Option, Some, None, List}
use Rattle.st_words.specs.declared.ids.Number.{Number}
use Rattle.st_tables.specs.Entries.{entry}
use Rattle.st_protocol.specs.Words.{Bytes}
use Rattle.st_protocol.specs.Keeping.{given}
use Rattle.st_client.specs.declared.replies.Answer.{Answer}

-- the entry of a key, where there is a table
abbrev pub entry_in : {A : Type 0} → Option (List (Option A)) → ℕ → Option A
entry_in None k = None
entry_in (Some xs) k = entry xs k

-- an answer of this number and result
abbrev pub answer_by : Number → Bytes → Answer
answer_by number replied = record { number = number; result = replied }

-- the same number and result
abbrev pub same_answer : Answer → Answer → Bool
same_answer a b = nat_eq a.number.0 b.number.0 && bytes_eq a.result b.result

-- a server of a row gave this answer
unfoldable pub says : Answer → List (Option Answer) → ℕ → Bool
says a row i = given (entry row i) false (same_answer a)
