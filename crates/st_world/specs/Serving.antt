-- What a delivery to the server comes to, step by step, and how bytes are read for whom.
use Rattle.std.specs.Prelude.{◌≤◌, ℕ, length, Result, Ok, Err}
use Rattle.st_words.specs.declared.deployment.Deployment.{Deployment}
use Rattle.st_message.specs.declared.event.Plan.{Plan}
use Rattle.st_message.specs.declared.message.Message.{Message}
use Rattle.st_message.specs.declared.event.Outcome.TheVariants.{Ignored}
use Rattle.st_message.specs.declared.step.Refused.{Refused}
use Rattle.st_message.specs.declared.step.Refused.TheVariants as refused
use Rattle.st_schedule.specs.declared.done.Done.{Done}
use Rattle.st_schedule.specs.declared.done.Done.TheVariants as dones
use Rattle.st_schedule.specs.declared.line.Dest.{Dest}
use Rattle.st_schedule.specs.declared.line.Dest.TheVariants as dests
use Rattle.st_wire.specs.Ranges.{most_bytes, KeepsMessage, FitsMessage}
use Rattle.st_wire.specs.Spelling.{message_spelling}
use Rattle.st_protocol.specs.Words.{Bytes}
use Rattle.st_protocol.specs.Duty.{Reading}
use Rattle.st_protocol.specs.World as model
use Rattle.st_protocol.specs.World.{with_node, settled, read_known, reads}
use Rattle.st_deployment.specs.Deployed.{world_deployment}
use Rattle.st_world.specs.declared.world.World.{World}
use Rattle.st_world.specs.declared.error.StepError.{StepError}
use Rattle.st_world.specs.declared.error.StepError.TheVariants as steps
use Rattle.st_world.specs.Standing.{IsWorld}

-- the world in which the server settled a plan, of which nothing is handed out yet
abbrev pub after_plan : Deployment → model.World Bytes → Plan → model.World Bytes
after_plan d m plan = with_node m 0 0 (settled (world_deployment d) (m.nodes 0 0) plan)

-- the world in memory is that
abbrev pub IsSettled : World → Deployment → model.World Bytes → Plan → Type 0
IsSettled w d m plan = IsWorld w d (after_plan d m plan)

-- bytes as this destination reads them: a client looks at seals later
abbrev pub read_for : model.Deployment Bytes → Dest → Bytes → Reading
read_for d (dests.Server server) wire = reads d wire
read_for d (dests.Client client) wire = read_known d wire

-- a message that was read in a deployment with this id: it keeps the format's ranges and isn't too long
pub record IsFound (id : ℕ) (m : Message) : Type 0 where
  pub keeps : KeepsMessage m
  pub fits : FitsMessage m
  pub short : length (message_spelling id m) ≤ most_bytes

-- what bytes that are refused come to
abbrev pub refusal : Refused → Result Done StepError
refusal (refused.Ignored reason) = Ok (dones.Outcome (Ignored reason))
refusal refused.OutOfMemory = Err steps.OutOfMemory
