-- A flow on its way.
use Rattle.std.specs.Prelude.{◌≡◌, ℕ, Result, Ok, Err}
use Rattle.st_words.specs.declared.deployment.Deployment.{Deployment}
use Rattle.st_protocol.specs.Words.{Bytes}
use Rattle.st_protocol.specs.World as model
use Rattle.st_protocol.specs.Schedule.{Flowing, flows}
use Rattle.st_deployment.specs.Deployed.{world_deployment}
use Rattle.st_world.specs.declared.world.World.{World}
use Rattle.st_world.specs.declared.flow.Flow.{Flow}
use Rattle.st_world.specs.declared.error.StepError.{StepError}
use Rattle.st_world.specs.Standing.{IsWorld, EndsBy}

-- The world in memory and what was counted are those of the flow.
pub record IsFlowing (w : World) (flow : Flow) (d : Deployment) (x : Flowing Bytes) : Type 0 where
  pub world : IsWorld w d x.world
  pub pairs : flow.pairs ≡ x.pairs
  pub did : flow.did ≡ x.did
  pub ignored : flow.ignored ≡ x.ignored

-- a flow in which nothing was delivered yet
abbrev pub begun : model.World Bytes → Flowing Bytes
begun m = record { world = m; pairs = 0; did = 0; ignored = 0 }

-- so many turns are done
abbrev pub AreFlowed : World → World → Flow → ℕ → Type 0
AreFlowed start w flow k = (d : Deployment) (m : model.World Bytes) → IsWorld start d m → IsFlowing w flow d (flows (world_deployment d) k (begun m))

-- a turn led to this flow, or says why its world has ended
abbrev pub FlowedTo : Result Flow StepError → World → Deployment → Flowing Bytes → Type 0
FlowedTo (Ok more) w d x = IsFlowing w more d x
FlowedTo (Err e) w d x = EndsBy e x.world.ended
