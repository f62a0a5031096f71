-- The line at which event lines end a world, and why.
use Rattle.std.specs.Prelude.{◌≡◌, ℕ, List, [], ◌∷◌, Option, Some, None}
use Rattle.st_words.specs.declared.deployment.Deployment.{Deployment}
use Rattle.st_protocol.specs.Words.{Bytes}
use Rattle.st_protocol.specs.Keeping.{given}
use Rattle.st_protocol.specs.World as model
use Rattle.st_protocol.specs.World.{Fault, BadReference, Forged, TooMany, TooMuch, empty}
use Rattle.st_protocol.specs.Schedule.{goes_on}
use Rattle.st_input.specs.declared.input.InputLine.{InputLine}
use Rattle.st_deployment.specs.Deployed.{world_deployment}
use Rattle.st_world.specs.declared.error.WorldError.{WorldError}
use Rattle.st_world.specs.declared.error.WorldError.TheVariants as worlds
use Rattle.st_replay.specs.declared.error.ReplayError.{ReplayError}
use Rattle.st_replay.specs.declared.error.ReplayError.TheVariants as errors

-- The first of these lines after which the world has ended: the line's number, and what ended it.
unfoldable pub end_from : Deployment → model.World Bytes → List InputLine → Option (ℕ × Fault)
end_from d world [] = None
end_from d world (x ∷ more) =
    given (goes_on (world_deployment d) world x.line).ended (end_from d (goes_on (world_deployment d) world x.line) more) (λ fault. Some (x.number, fault))

-- the same of a whole input's lines
abbrev pub end_in : Deployment → List InputLine → Option (ℕ × Fault)
end_in d lines = end_from d empty lines

-- an error says at which line lines end a world, and why, unless memory is refused
abbrev pub IsEnd : ReplayError → Option (ℕ × Fault) → Type 0
IsEnd (errors.BadReference line) end = end ≡ Some (line, BadReference)
IsEnd (errors.Forged line place) end = end ≡ Some (line, Forged place)
IsEnd (errors.TooMany line count) end = end ≡ Some (line, TooMany count)
IsEnd (errors.TooMuch line bytes) end = end ≡ Some (line, TooMuch bytes)
IsEnd errors.OutOfMemory end = Unit {0}

-- the error of a line, as a replay says it
abbrev pub ended_at : ℕ → WorldError → ReplayError
ended_at line (worlds.BadReference same) = errors.BadReference same
ended_at line (worlds.Forged same place) = errors.Forged same place
ended_at line (worlds.TooMany count) = errors.TooMany line count
ended_at line (worlds.TooMuch bytes) = errors.TooMuch line bytes
ended_at line worlds.OutOfMemory = errors.OutOfMemory
