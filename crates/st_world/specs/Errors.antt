-- The error of an event, with its line.
use Rattle.std.specs.Prelude.{ℕ}
use Rattle.st_world.specs.declared.error.WorldError.{WorldError}
use Rattle.st_world.specs.declared.error.WorldError.TheVariants as errors
use Rattle.st_world.specs.declared.error.StepError.{StepError}
use Rattle.st_world.specs.declared.error.StepError.TheVariants as steps

-- the error of an event at this line
abbrev pub at_line : ℕ → StepError → WorldError
at_line line steps.BadReference = errors.BadReference line
at_line line (steps.Forged place) = errors.Forged line place
at_line line (steps.TooMany count) = errors.TooMany count
at_line line (steps.TooMuch bytes) = errors.TooMuch bytes
at_line line steps.OutOfMemory = errors.OutOfMemory
