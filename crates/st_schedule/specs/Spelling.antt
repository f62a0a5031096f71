-- How an event line is written.
use Rattle.std.specs.Prelude.{ℕ, Bool, true, false, List, [], ◌∷◌, ◌++◌, codes}
use Rattle.std.specs.Fmt.{decimal}
use Rattle.std.specs.List.{join_with_byte}
use Rattle.st_words.specs.declared.ids.ServerId.{ServerId}
use Rattle.st_words.specs.Spelling.{core_spelling}
use Rattle.st_texts.specs.Hexadecimal.{hex_text}
use Rattle.st_schedule.specs.declared.line.Dest.{Dest}
use Rattle.st_schedule.specs.declared.line.Dest.TheVariants as dests
use Rattle.st_schedule.specs.declared.line.Line.{Line}
use Rattle.st_schedule.specs.declared.line.Line.TheVariants as lines

-- `s.i`
unfoldable pub server_text : ServerId → List ℕ
server_text s = decimal s.site ++ (codes "." ++ decimal s.index)

-- `s.i`, or `cN`
unfoldable pub dest_text : Dest → List ℕ
dest_text (dests.Server s) = server_text s
dest_text (dests.Client c) = codes "c" ++ decimal c.0

-- which timeout
abbrev pub view_word : Bool → List ℕ
view_word true = codes "global"
view_word false = codes "local"

-- what a crash leaves of unsynced writes
abbrev pub crash_word : Bool → List ℕ
crash_word true = codes "kept"
crash_word false = codes "lost"

-- the words of a line
abbrev pub line_words : Line → List (List ℕ)
line_words (lines.Client client op) = codes "client" ∷ decimal client.0 ∷ hex_text op ∷ []
line_words (lines.Deliver m to) = codes "deliver" ∷ decimal m ∷ dest_text to ∷ []
line_words (lines.Drop m to) = codes "drop" ∷ decimal m ∷ dest_text to ∷ []
line_words (lines.Lose to) = codes "lose" ∷ dest_text to ∷ []
line_words (lines.Flow pairs) = codes "flow" ∷ decimal pairs ∷ []
line_words (lines.Timeout server global) = codes "timeout" ∷ server_text server ∷ view_word global ∷ []
line_words (lines.Tick server) = codes "tick" ∷ server_text server ∷ []
line_words (lines.Stop server call) = codes "stop" ∷ server_text server ∷ decimal call ∷ []
line_words (lines.Restart server kept) = codes "restart" ∷ server_text server ∷ crash_word kept ∷ []
line_words (lines.Seal server s) = codes "seal" ∷ server_text server ∷ hex_text (core_spelling s) ∷ []
line_words (lines.Raw to bytes) = codes "raw" ∷ dest_text to ∷ hex_text bytes ∷ []
line_words (lines.Show m) = codes "show" ∷ decimal m ∷ []

-- A line's text: its words, with a space between each two.
unfoldable pub line_spelling : Line → List ℕ
line_spelling line = join_with_byte 32 (line_words line)
