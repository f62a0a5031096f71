-- The formats of a deployment whose messages are bytes: what bytes are read as, which bytes a message has, which
-- seals stand in it, and which of them check.
use Rattle.std.specs.Prelude.{ℕ, Bool, List, map, Result, Ok, Err}
use Rattle.st_words.specs.declared.deployment as words
use Rattle.st_words.specs.declared.ids.Who.{Who}
use Rattle.st_words.specs.declared.statement.Statement.{Statement}
use Rattle.st_words.specs.Spelling.{statement_spelling}
use Rattle.st_message.specs.declared.message.Message.{Message}
use Rattle.st_message.specs.declared.reason.Reason.{Reason}
use Rattle.st_message.specs.declared.reason.Reason.TheVariants as reasons
use Rattle.st_wire.specs.declared.error.MessageError.{MessageError}
use Rattle.st_wire.specs.declared.error.MessageError.TheVariants as errors
use Rattle.st_wire.specs.declared.seal.SealIn as wire
use Rattle.st_wire.specs.Errors.{reading_of}
use Rattle.st_wire.specs.Spelling.{message_spelling}
use Rattle.st_wire.specs.Seals.{seals_of}
use Rattle.st_hss_seal.specs.Sealing.{holds, seal_of}
use Rattle.st_protocol.specs.Words.{Bytes}
use Rattle.st_protocol.specs.Duty.{Reading, Faulty, Clean}
use Rattle.st_protocol.specs.Known.{knows}
use Rattle.st_protocol.specs.World.{SealIn, Formats, Deployment, deployment_of}

-- why bytes are ignored that are no message of the deployment; no definition refuses memory
abbrev pub reason_of : MessageError → Reason
reason_of (errors.TooLong bytes) = reasons.TooLong bytes
reason_of (errors.Malformed place) = reasons.Malformed place
reason_of (errors.WrongDeployment id) = reasons.WrongDeployment id
reason_of errors.OutOfMemory = reasons.Malformed 0

-- a message, or why there is none
abbrev pub as_reading : Result Message MessageError → Reading
as_reading (Ok m) = Clean m
as_reading (Err e) = Faulty (reason_of e)

-- a seal that stands in a message's bytes
abbrev pub seal_in : wire.SealIn → SealIn
seal_in x = record { who = x.who; statement = x.statement; seal = x.seal; place = x.place }

-- Messages are bytes, and seals are over the bytes of statements. No server writes a journal yet: no body is counted.
abbrev pub wire_formats : words.Deployment.Deployment → Formats (List ℕ)
wire_formats d =
    record {
      read = λ bytes. as_reading (reading_of d.id bytes);
      encode = message_spelling d.id;
      raw = λ bytes. bytes;
      bytes = λ bytes. bytes;
      knows = knows d.sites d.f d.clients;
      seals_in = λ m. map seal_in (seals_of d.id d.sites m);
      holds = λ who s seal. holds d who (statement_spelling d.id s) seal;
      seal = λ who leaf s. seal_of d who leaf (statement_spelling d.id s);
      body_size = λ changes. 0;
    }

-- The deployment as a world sees it, with this service, and with these servers that run no code.
unfoldable pub wire_deployment : words.Deployment.Deployment → (List Bytes → Bytes → Bytes) → (ℕ → ℕ → Bool) → Deployment (List ℕ)
wire_deployment d serve runs_no_code = record (deployment_of d serve (wire_formats d)) { faulty = runs_no_code }
