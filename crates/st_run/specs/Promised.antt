-- What is promised of an input's bytes where the program answers with a report.
use Rattle.std.specs.Prelude.{◌≡◌, ℕ, List, Ok}
use Rattle.st_input.specs.declared.input.Input.{Input}
use Rattle.st_input.specs.Input.{input_of}
use Rattle.st_replay.specs.Lines.{events_in}
use Rattle.st_deployment.specs.Deployed.{world_deployment}
use Rattle.st_promises.specs.Promises.{AlwaysKeepsPromises}

-- The bytes are an input's, and its world keeps all promises, before the first event line, after each, and after each
-- delivery of a flow: agreement, each update sealed by its client and run at most once, and what is in hand executed.
pub record IsPromised (bytes : List ℕ) : Type 0 where
  pub input : Input
  pub spells : input_of bytes ≡ Ok input
  pub keeps : AlwaysKeepsPromises (world_deployment input.deployment) (events_in input.lines)
