-- What the program answers to its words and its input: a status, and a text.
use Rattle.std.specs.Prelude.{ℕ, Bool, false, if◌then◌else◌, nat_le, List, [], ◌∷◌, ◌++◌, length, Ok, Err, bytes_eq, codes}
use Rattle.std.specs.Fmt.{decimal}
use Rattle.st_protocol.specs.World.{Fault, BadReference, Forged, TooMany, TooMuch}
use Rattle.st_input.specs.declared.limits.TheConstants.{MOST_INPUT}
use Rattle.st_input.specs.declared.fault.InputFault.{InputFault}
use Rattle.st_input.specs.declared.fault.InputFault.TheVariants as faults
use Rattle.st_input.specs.declared.input.Input.{Input}
use Rattle.st_input.specs.Input.{Read, input_of}
use Rattle.st_run.specs.declared.answer.Answer.{Answer}
use Rattle.st_run.specs.declared.status.Status.{Status}
use Rattle.st_run.specs.declared.status.Status.TheVariants as statuses
use Rattle.st_replay.specs.Replay.{Replayed, Reported, Ended, replay_of}

-- a text and a newline
abbrev pub line : List ℕ → List ℕ
line text = text ++ 10 ∷ []

-- a status, and a line for it
abbrev pub answer_in : Status → List ℕ → Answer
answer_in status text = record { status = status; text = line text }

-- how the program is called
unfoldable pub usage : Answer
usage = answer_in statuses.Usage (codes "usage: steward replay | demo SEED COUNT | node WHO --turns T")

-- the input is none that is taken: what is wrong with it
unfoldable pub bad_input : List ℕ → Answer
bad_input what = answer_in statuses.BadInput (codes "bad input: " ++ what)

-- something is larger than it may be
unfoldable pub too_large : List ℕ → Answer
too_large what = answer_in statuses.TooLarge (codes "too large: " ++ what)

-- a seal that nobody made would be delivered
unfoldable pub forged : List ℕ → Answer
forged what = answer_in statuses.Forged (codes "forged: " ++ what)

-- a line by its number, from 1, and what of it
unfoldable pub at_line : ℕ → List ℕ → List ℕ
at_line n what = codes "line " ++ decimal n ++ what

-- The answer to an input with this fault.
unfoldable pub fault_answer : InputFault → Answer
fault_answer faults.Utf8 = bad_input (codes "utf-8")
fault_answer faults.NoSeparator = bad_input (codes "no separator")
fault_answer faults.Deployment = bad_input (codes "deployment: not-built")
fault_answer (faults.TooManyLines n) = too_large (at_line n [])
fault_answer (faults.LongLine n) = too_large (at_line n [])
fault_answer (faults.Grammar n) = bad_input (at_line n (codes ": grammar"))
fault_answer (faults.NotBuilt n) = bad_input (at_line n (codes ": not-built"))

-- The answer where line n ended the world.
unfoldable pub ended_answer : ℕ → Fault → Answer
ended_answer n BadReference = bad_input (at_line n (codes ": reference"))
ended_answer n (Forged place) = forged (at_line n (codes " place " ++ decimal place))
ended_answer n (TooMany count) = too_large (codes "messages")
ended_answer n (TooMuch bytes) = too_large (codes "messages")

-- the answer to a replayed input
abbrev pub replay_answer : Replayed → Answer
replay_answer (Reported text) = record { status = statuses.Ok; text = text }
replay_answer (Ended n fault) = ended_answer n fault

-- the answer to what was read of an input
abbrev pub input_answer : Read Input → Answer
input_answer (Ok input) = replay_answer (replay_of input)
input_answer (Err fault) = fault_answer fault

-- The answer to an input's bytes.
unfoldable pub bytes_answer : List ℕ → Answer
bytes_answer bytes = if nat_le (length bytes) MOST_INPUT then input_answer (input_of bytes) else too_large (codes "input")

-- the one word `replay`
unfoldable pub is_replay : List (List ℕ) → Bool
is_replay (word ∷ []) = bytes_eq word (codes "replay")
is_replay _ = false

-- The answer to these words and an input's bytes.
unfoldable pub answer_of : List (List ℕ) → List ℕ → Answer
answer_of words bytes = if is_replay words then bytes_answer bytes else usage
