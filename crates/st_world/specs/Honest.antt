-- Seals that stand in bytes from outside.
use Rattle.std.specs.Prelude.{ℕ, List, Option, None, map, Result, Ok, Err}
use Rattle.st_words.specs.declared.deployment.Deployment.{Deployment}
use Rattle.st_wire.specs.declared.error.MessageError.{MessageError}
use Rattle.st_wire.specs.declared.error.MessageError.TheVariants as messages
use Rattle.st_wire.specs.declared.seal.SealIn.{SealIn}
use Rattle.st_protocol.specs.Words.{Bytes}
use Rattle.st_protocol.specs.World as model
use Rattle.st_protocol.specs.World.{first_bad}
use Rattle.st_protocol.specs.Schedule.{is_honest}
use Rattle.st_reading.specs.Deployed.{seal_in}
use Rattle.st_deployment.specs.Deployed.{world_deployment}
use Rattle.st_world.specs.declared.error.StepError.{StepError}
use Rattle.st_world.specs.declared.error.StepError.TheVariants as steps

-- the place of the first of these seals that is forged
abbrev pub first_forged : Deployment → model.World Bytes → List SealIn → Option ℕ
first_forged d m seals = first_bad (is_honest (world_deployment d) m) (map seal_in seals)

-- nothing is forged in bytes that are no message, unless memory was refused
abbrev pub unread : MessageError → Result (Option ℕ) StepError
unread messages.OutOfMemory = Err steps.OutOfMemory
unread _ = Ok None
