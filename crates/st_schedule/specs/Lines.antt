-- The grammar of an event line: words, parted by one space.
use Rattle.std.specs.Prelude.{◌≡◌, ℕ, ◌-◌, ◌*◌, ◌^◌, ◌==◌, ◌&&◌, ◌||◌, Bool, true, false, nat_le, if◌then◌else◌, List, [], ◌∷◌, length, slice_index, Option, Some, None, Result, Ok, Err, bytes_eq, codes, option_and_then}
use Rattle.std.specs.List.{slice_split, before_first, after_first}
use Rattle.std.specs.Option.{option_map}
use Rattle.std.specs.Result.{result_ok}
use Rattle.st_fields.specs.Reading.{whole}
use Rattle.st_words.specs.declared.ids.ServerId.{ServerId}
use Rattle.st_words.specs.declared.statement.Statement.{Statement}
use Rattle.st_words.specs.declared.statement.Statement.TheVariants.{LocalReport, GlobalReport}
use Rattle.st_words.specs.declared.kind.StatementKind.{StatementKind}
use Rattle.st_words.specs.declared.kind.StatementKind.TheVariants as kinds
use Rattle.st_words.specs.Reading.{core_at}
use Rattle.st_texts.specs.Numbers.{number_in}
use Rattle.st_texts.specs.Hexadecimal.{hex_bytes}
use Rattle.st_texts.specs.Parts.{after_front}
use Rattle.st_schedule.specs.declared.line.Dest.{Dest}
use Rattle.st_schedule.specs.declared.line.Dest.TheVariants as dests
use Rattle.st_schedule.specs.declared.line.Line.{Line}
use Rattle.st_schedule.specs.declared.line.Line.TheVariants as lines
use Rattle.st_schedule.specs.declared.read.ScheduleError.{ScheduleError}
use Rattle.st_schedule.specs.declared.read.ScheduleError.TheVariants.{BadLine, OutOfMemory}
use Rattle.st_schedule.specs.declared.limits.TheConstants.{MOST_OPERATION, MOST_FLOW, MOST_CALL}

-- ---- words

-- the words of a text
abbrev pub words : List ℕ → List (List ℕ)
words text = slice_split (λ b. b == 32) text

-- a site, an index or a client
abbrev pub short_in : List ℕ → Option ℕ
short_in word = number_in 0 255 word

-- any other number
abbrev pub number_of : List ℕ → Option ℕ
number_of word = number_in 0 (2 ^ 32 - 1) word

-- a server: `s.i`
unfoldable pub server_of : List ℕ → Option ServerId
server_of word =
    option_and_then (λ s. option_map (λ i. record { site = s; index = i }) (short_in (after_first (λ b. b == 46) word))) (short_in (before_first (λ b. b == 46) word))

-- a client's destination, where a word says one after its `c`
abbrev pub client_dest : List ℕ → Option Dest
client_dest number = option_map (λ c. dests.Client (record { 0 = c })) (short_in number)

-- what stands after a `c` names a client, and every other word a server
abbrev pub dest_by : List ℕ → Option (List ℕ) → Option Dest
dest_by word (Some number) = client_dest number
dest_by word None = option_map dests.Server (server_of word)

-- a destination: `s.i`, or `cN`
unfoldable pub dest_of : List ℕ → Option Dest
dest_of word = dest_by word (after_front (codes "c") word)

-- which of two words it is: whether it is the first
unfoldable pub choice_of : List ℕ → List ℕ → List ℕ → Option Bool
choice_of first second word = if bytes_eq word first then Some true else if bytes_eq word second then Some false else None

-- a message's number and a destination
unfoldable pub pair_of : List ℕ → List ℕ → Option (ℕ × Dest)
pair_of m d = option_and_then (λ number. option_map (λ to. (number, to)) (dest_of d)) (number_of m)

-- ---- a faulty server's statement

-- the kinds of statements that a server seals
abbrev pub sealed_kinds : List StatementKind
sealed_kinds = kinds.Prepare ∷ kinds.Proposal ∷ kinds.Accept ∷ kinds.LocalVc ∷ kinds.GlobalVc ∷ kinds.LocalReport ∷ kinds.GlobalReport ∷ kinds.LocalUnion ∷ kinds.GlobalUnion ∷ kinds.Reply ∷ []

-- a report without items whose base is 0, or no report
abbrev pub is_bare : Statement → Bool
is_bare (LocalReport site local index view base items) = base == 0 && length items == 0
is_bare (GlobalReport site view index base items) = base == 0 && length items == 0
is_bare s = true

-- it, where it is bare
abbrev pub bare : Statement → Option Statement
bare s = if is_bare s then Some s else None

-- the statement whose core these bytes are
unfoldable pub statement_of : List ℕ → Option Statement
statement_of bytes = option_and_then bare (result_ok (whole (core_at sealed_kinds) bytes))

-- ---- events

-- `flow K`
unfoldable pub flow_event : List ℕ → Option Line
flow_event pairs = option_map lines.Flow (number_in 1 MOST_FLOW pairs)

-- `client C HEX`, with two digits a byte of the operation
unfoldable pub client_event : List ℕ → List ℕ → Option Line
client_event client op =
    if nat_le (length op) (2 * MOST_OPERATION) then option_and_then (λ c. option_map (lines.Client (record { 0 = c })) (hex_bytes op)) (short_in client)
    else None

-- `timeout s.i local`, or `timeout s.i global`
unfoldable pub timeout_event : List ℕ → List ℕ → Option Line
timeout_event server which = option_and_then (λ s. option_map (lines.Timeout s) (choice_of (codes "global") (codes "local") which)) (server_of server)

-- `stop s.i K`
unfoldable pub stop_event : List ℕ → List ℕ → Option Line
stop_event server call = option_and_then (λ s. option_map (lines.Stop s) (number_in 1 MOST_CALL call)) (server_of server)

-- `restart s.i kept`, or `restart s.i lost`
unfoldable pub restart_event : List ℕ → List ℕ → Option Line
restart_event server which = option_and_then (λ s. option_map (lines.Restart s) (choice_of (codes "kept") (codes "lost") which)) (server_of server)

-- `seal s.i HEX`
unfoldable pub seal_event : List ℕ → List ℕ → Option Line
seal_event server core = option_and_then (λ s. option_map (lines.Seal s) (option_and_then statement_of (hex_bytes core))) (server_of server)

-- `raw D HEX`
unfoldable pub raw_event : List ℕ → List ℕ → Option Line
raw_event to bytes = option_and_then (λ d. option_map (lines.Raw d) (hex_bytes bytes)) (dest_of to)

-- the event of two words
unfoldable pub event_of_two : List ℕ → List ℕ → Option Line
event_of_two word a =
    if bytes_eq word (codes "flow") then flow_event a
    else if bytes_eq word (codes "lose") then option_map lines.Lose (dest_of a)
    else if bytes_eq word (codes "tick") then option_map lines.Tick (server_of a)
    else if bytes_eq word (codes "show") then option_map lines.Show (number_of a)
    else None

-- the event of three words
unfoldable pub event_of_three : List ℕ → List ℕ → List ℕ → Option Line
event_of_three word a b =
    if bytes_eq word (codes "client") then client_event a b
    else if bytes_eq word (codes "deliver") then option_map (λ p. lines.Deliver p.0 p.1) (pair_of a b)
    else if bytes_eq word (codes "drop") then option_map (λ p. lines.Drop p.0 p.1) (pair_of a b)
    else if bytes_eq word (codes "timeout") then timeout_event a b
    else if bytes_eq word (codes "stop") then stop_event a b
    else if bytes_eq word (codes "restart") then restart_event a b
    else if bytes_eq word (codes "seal") then seal_event a b
    else if bytes_eq word (codes "raw") then raw_event a b
    else None

-- the event that these words say
abbrev pub event_of : List (List ℕ) → Option Line
event_of (word ∷ a ∷ []) = event_of_two word a
event_of (word ∷ a ∷ b ∷ []) = event_of_three word a b
event_of _ = None

-- What a line of a text is.
pub data LineRead : Type 0 where
  Skipped : LineRead
  Event : (line : Line) → LineRead
  Bad : LineRead

abbrev pub event_or_bad : Option Line → LineRead
event_or_bad (Some line) = Event line
event_or_bad None = Bad

-- An empty line is skipped, and one that begins with `#`.
unfoldable pub line_of : List ℕ → LineRead
line_of text = if length text == 0 || slice_index text 0 == 35 then Skipped else event_or_bad (event_of (words text))

-- what reading a line answers, unless memory is refused
abbrev pub Reads : Result (Option Line) ScheduleError → LineRead → Type 0
Reads (Ok None) line = line ≡ Skipped
Reads (Ok (Some event)) line = line ≡ Event event
Reads (Err BadLine) line = line ≡ Bad
Reads (Err OutOfMemory) line = Unit {0}
