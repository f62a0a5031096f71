-- How far a server's messages are handed out.
use Rattle.std.specs.Prelude.{List}
use Rattle.st_words.specs.declared.deployment.Deployment.{Deployment}
use Rattle.st_message.specs.declared.event.Output.{Output}
use Rattle.st_protocol.specs.Words.{Bytes}
use Rattle.st_protocol.specs.World as model
use Rattle.st_protocol.specs.World.{hands_out}
use Rattle.st_deployment.specs.Deployed.{world_deployment}
use Rattle.st_world.specs.declared.world.World.{World}
use Rattle.st_world.specs.Standing.{IsWorld}

-- these messages are handed out
abbrev pub IsHanded : World → World → List Output → Type 0
IsHanded start w done = (d : Deployment) (m : model.World Bytes) → IsWorld start d m → IsWorld w d (hands_out (world_deployment d) 0 0 m done)
