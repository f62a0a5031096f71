-- What the code answers against what the definitions read.
use Rattle.std.specs.Prelude.{◌≡◌, ℕ, ◌≤◌, Option, Some, None, List, map, Result, Ok, Err, length}
use Rattle.std.specs.Option.{option_map}
use Rattle.st_words.specs.Spelling.{statement_spelling}
use Rattle.st_seal.specs.Pen.{Checks}
use Rattle.st_message.specs.declared.message.Message.{Message}
use Rattle.st_message.specs.declared.reason.Reason.TheVariants.{BadSeal}
use Rattle.st_message.specs.declared.step.Refused.{Refused}
use Rattle.st_message.specs.declared.step.Refused.TheVariants as refused
use Rattle.st_wire.specs.declared.error.MessageError.{MessageError}
use Rattle.st_wire.specs.declared.error.MessageError.TheVariants as errors
use Rattle.st_wire.specs.declared.seal.SealIn as wire
use Rattle.st_wire.specs.Ranges.{most_bytes, KeepsMessage, FitsMessage}
use Rattle.st_wire.specs.Spelling.{message_spelling}
use Rattle.st_protocol.specs.Duty.{Reading, Faulty, Clean}
use Rattle.st_protocol.specs.World.{SealIn, first_bad}
use Rattle.st_reading.specs.Deployed.{reason_of, seal_in}

-- the message is the one that the bytes spell, and keeps the format's ranges
pub record IsSpelled (id : ℕ) (bytes : List ℕ) (m : Message) : Type 0 where
  pub spelled : bytes ≡ message_spelling id m
  pub keeps : KeepsMessage m
  pub fits : FitsMessage m
  pub short : length (message_spelling id m) ≤ most_bytes

-- what is answered where decoding fails so
abbrev pub refusal_of : MessageError → Refused
refusal_of errors.OutOfMemory = refused.OutOfMemory
refusal_of e = refused.Ignored (reason_of e)

-- the answer is what is read, unless memory was refused
abbrev pub IsRead : Result Message Refused → Reading → Type 0
IsRead (Ok m) reading = reading ≡ Clean m
IsRead (Err (refused.Ignored reason)) reading = reading ≡ Faulty reason
IsRead (Err refused.OutOfMemory) reading = Unit {0}

-- the answer is that this is the place of the first seal that doesn't check, unless memory was refused
abbrev pub IsLookedAt : Result (Unit {0}) Refused → Option ℕ → Type 0
IsLookedAt (Ok u) bad = bad ≡ None
IsLookedAt (Err (refused.Ignored reason)) bad = option_map BadSeal bad ≡ Some reason
IsLookedAt (Err refused.OutOfMemory) bad = Unit {0}

-- the place of the first of these seals that doesn't check over its statement's bytes
abbrev pub first_unchecked : Checks → ℕ → List wire.SealIn → Option ℕ
first_unchecked checks id seals = first_bad (λ x. checks x.who (statement_spelling id x.statement) x.seal) (map seal_in seals)
