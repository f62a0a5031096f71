-- A whole input: the deployment and the event lines with their numbers, or the first fault.
use Rattle.std.specs.Prelude.{◌≡◌, ℕ, ◌+◌, Bool, true, false, if◌then◌else◌, nat_le, nat_lt, List, [], ◌∷◌, ◌++◌, length, Option, Result, Ok, Err, ok_or, option_map, option_to_list}
use Rattle.std.specs.Str.{is_utf8}
use Rattle.st_config.specs.Built.{is_built}
use Rattle.st_config.specs.Header.{header_of}
use Rattle.st_config.specs.declared.header.ConfigError.{ConfigError}
use Rattle.st_config.specs.declared.header.ConfigError.TheVariants as configs
use Rattle.st_schedule.specs.Lines.{LineRead, Skipped, Event, Bad, line_of}
use Rattle.st_schedule.specs.declared.line.Line.{Line}
use Rattle.st_input.specs.declared.fault.InputFault.{InputFault}
use Rattle.st_input.specs.declared.fault.InputFault.TheVariants as faults
use Rattle.st_input.specs.declared.fault.InputError.{InputError}
use Rattle.st_input.specs.declared.fault.InputError.TheVariants as errors
use Rattle.st_input.specs.declared.input.Input.{Input}
use Rattle.st_input.specs.declared.input.InputLine.{InputLine}
use Rattle.st_input.specs.declared.limits.TheConstants.{MOST_LINES, LONGEST_LINE}
use Rattle.st_input.specs.Parted.{Parted, parted}

-- what a part of an input is read as, or the first fault in it
abbrev pub Read : Type 0 → Type 0
Read A = Result A InputFault

-- goes on with what was read, unless there was a fault
infixl 10 ◌>>=◌
abbrev pub ◌>>=◌ : {A X : Type 0} → Read A → (A → Read X) → Read X
(Ok x) >>= more = more x
(Err fault) >>= more = Err fault

-- these events, and those that are read after them
abbrev pub before : List InputLine → Read (List InputLine) → Read (List InputLine)
before events read = read >>= λ more. Ok (events ++ more)

-- an event with the number of its line
abbrev pub numbered : ℕ → Line → InputLine
numbered n line = record { number = n; line = line }

-- the event of line n, if it has one
abbrev pub events_in : ℕ → Option Line → List InputLine
events_in n event = option_to_list (option_map (numbered n) event)

-- all lines but those that are skipped are event lines
abbrev pub is_skipped : LineRead → Bool
is_skipped Skipped = true
is_skipped (Event line) = false
is_skipped Bad = false

-- what line n is taken as by the grammar, and by what is built
abbrev pub taken_at : ℕ → LineRead → Read (List InputLine)
taken_at n Skipped = Ok []
taken_at n (Event line) = if is_built line then Ok (numbered n line ∷ []) else Err (faults.NotBuilt n)
taken_at n Bad = Err (faults.Grammar n)

-- What line n says, with so many event lines above it. Limits are those of event lines: a skipped line has none. On one
-- line the count goes before the length, and both before the grammar.
unfoldable pub line_at : ℕ → ℕ → List ℕ → Read (List InputLine)
line_at n above text =
    if is_skipped (line_of text) then Ok []
    else if nat_le MOST_LINES above then Err (faults.TooManyLines n)
    else if nat_lt LONGEST_LINE (length text) then Err (faults.LongLine n)
    else taken_at n (line_of text)

-- The events of lines of which the first has number n, with so many event lines above it.
unfoldable pub events_from : ℕ → ℕ → List (List ℕ) → Read (List InputLine)
events_from n above [] = Ok []
events_from n above (text ∷ more) = line_at n above text >>= λ events. before events (events_from (n + 1) (above + length events) more)

-- The input of a parted text: its header, and then its event lines.
unfoldable pub input_of_parted : Parted → Read Input
input_of_parted p =
    ok_or (header_of p.header) faults.Deployment >>= λ deployment.
    events_from p.first 0 p.events >>= λ events.
    Ok (record { deployment = deployment; lines = events })

-- The input that these bytes spell, or their first fault. They are UTF-8, and a line `---` stands between the header and
-- the event lines.
unfoldable pub input_of : List ℕ → Read Input
input_of bytes = if is_utf8 bytes then ok_or (parted bytes) faults.NoSeparator >>= input_of_parted else Err faults.Utf8

-- what reading answers, unless memory is refused
abbrev pub Gives : {A X : Type 0} → (A → X) → Result A InputError → Read X → Type 0
Gives value (Ok x) read = read ≡ Ok (value x)
Gives value (Err (errors.Fault fault)) read = read ≡ Err fault
Gives value (Err errors.OutOfMemory) read = Unit {0}

-- the same, of what is read itself
abbrev pub Reads : {A : Type 0} → Result A InputError → Read A → Type 0
Reads result read = Gives (λ x. x) result read

-- a header that isn't taken is a fault of the deployment
abbrev pub from_config : ConfigError → InputError
from_config configs.NotTaken = errors.Fault faults.Deployment
from_config configs.OutOfMemory = errors.OutOfMemory
