-- What bytes are read as, and what is sent.
use Rattle.std.proofs.Common.{◌≡◌, ℕ, ◌^◌, ◌<◌, ◌≤◌, List, length, Result, Ok, Err, ap}
use Rattle.st_fields.proofs.Fields.{IsBytes}
use Rattle.st_words.specs.declared.deployment.Deployment.{Deployment}
use Rattle.st_message.specs.declared.message.Message.{Message}
use Rattle.st_wire.specs.declared.error.MessageError.{MessageError}
use Rattle.st_wire.specs.Ranges.{most_bytes, KeepsMessage, FitsMessage}
use Rattle.st_wire.specs.Spelling.{message_spelling}
use Rattle.st_wire.specs.Errors.{reading_of}
use Rattle.st_wire.proofs.WholeMessages.{reading-again, reading_takes}
use Rattle.st_protocol.specs.Duty.{Clean}
use Rattle.st_reading.specs.Deployed.{as_reading, wire_formats}
use Rattle.st_reading.specs.Answered.{IsSpelled}

-- its parts, by their names
pub spelled_message : (id : ℕ) (bytes : List ℕ) (m : Message) → (bytes ≡ message_spelling id m) × KeepsMessage m × FitsMessage m × (length (message_spelling id m) ≤ most_bytes) → IsSpelled id bytes m
spelled_message id bytes m found = record { spelled = found.0; keeps = found.1; fits = found.2; short = found.3 }

-- a message with which nothing is wrong was read
read_clean : (read : Result Message MessageError) (m : Message) → as_reading read ≡ Clean m → read ≡ Ok m
read_clean (Ok n) m e = let same : n ≡ m = cc in ap Ok same
read_clean (Err fault) m e = absurd cc

-- bytes that are read as a message spell it
pub clean_is_spelled : (d : Deployment) (bytes : List ℕ) (m : Message) → IsBytes bytes → (wire_formats d).read bytes ≡ Clean m → IsSpelled d.id bytes m
clean_is_spelled d bytes m fits e =
    let read : reading_of d.id bytes ≡ Ok m = read_clean (reading_of d.id bytes) m e in
    spelled_message d.id bytes m (reading_takes d.id bytes m fits read)

-- what is sent is read
pub sent_is_clean : (d : Deployment) (m : Message) → d.id < 2 ^ 64 → KeepsMessage m → FitsMessage m → length (message_spelling d.id m) ≤ most_bytes → (wire_formats d).read ((wire_formats d).encode m) ≡ Clean m
sent_is_clean d m lt keeps fits short = ap as_reading (reading-again d.id m lt keeps fits short)
