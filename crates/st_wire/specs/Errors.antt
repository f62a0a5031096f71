-- What bytes are for a deployment: a message, or why they are none.
use Rattle.std.specs.Prelude.{◌≡◌, ℕ, List, length, Result, Ok, Err, ◌==◌, nat_lt, if◌then◌else◌}
use Rattle.st_fields.specs.declared.error.WordsError.{WordsError}
use Rattle.st_fields.specs.declared.error.WordsError.TheVariants as words
use Rattle.st_fields.specs.Reading.{whole}
use Rattle.st_message.specs.declared.message.Message.{Message}
use Rattle.st_wire.specs.declared.error.MessageError.{MessageError}
use Rattle.st_wire.specs.declared.error.MessageError.TheVariants as errors
use Rattle.st_wire.specs.Ranges.{most_bytes}
use Rattle.st_wire.specs.Reading.{message_at}

abbrev pub from_words : WordsError → MessageError
from_words (words.Malformed place) = errors.Malformed place
from_words words.OutOfMemory = errors.OutOfMemory

-- the message that was read, where it names this deployment
abbrev pub for_deployment : ℕ → Result (ℕ × Message) ℕ → Result Message MessageError
for_deployment id (Ok x) = if x.0 == id then Ok x.1 else Err (errors.WrongDeployment x.0)
for_deployment id (Err place) = Err (errors.Malformed place)

-- bytes that are delivered in the deployment with this id: too long, of no message, another's message, or this message
unfoldable pub reading_of : ℕ → List ℕ → Result Message MessageError
reading_of id bytes = if nat_lt most_bytes (length bytes) then Err (errors.TooLong (length bytes)) else for_deployment id (whole message_at bytes)

-- what the code answered is this, unless memory was refused
abbrev pub IsReading : Result Message MessageError → Result Message MessageError → Type 0
IsReading (Err errors.OutOfMemory) reading = Unit {0}
IsReading answer reading = answer ≡ reading
