-- What replaying an input comes to: its report, or what ended its world, and at which line.
use Rattle.std.specs.Prelude.{◌≡◌, ℕ, List, Result, Ok, Err}
use Rattle.st_protocol.specs.Keeping.{given}
use Rattle.st_report.specs.Text.{report}
use Rattle.st_protocol.specs.World.{Fault, BadReference, Forged, TooMany, TooMuch}
use Rattle.st_input.specs.declared.input.Input.{Input}
use Rattle.st_replay.specs.declared.error.ReplayError.{ReplayError}
use Rattle.st_replay.specs.declared.error.ReplayError.TheVariants as errors
use Rattle.st_replay.specs.Ends.{end_in}
use Rattle.st_replay.specs.Lines.{rows_in}

-- What a replay comes to.
pub data Replayed : Type 0 where
  Reported : (text : List ℕ) → Replayed
  -- by the line of this number
  Ended : (line : ℕ) (fault : Fault) → Replayed

-- The report of an input's world, unless a line ends it.
unfoldable pub replay_of : Input → Replayed
replay_of input =
    given (end_in input.deployment input.lines) (Reported (report (rows_in input.deployment input.lines))) (λ end. Ended end.0 end.1)

-- what replaying answers, unless memory is refused
abbrev pub IsReplay : Result (List ℕ) ReplayError → Replayed → Type 0
IsReplay (Ok text) replayed = replayed ≡ Reported text
IsReplay (Err (errors.BadReference line)) replayed = replayed ≡ Ended line BadReference
IsReplay (Err (errors.Forged line place)) replayed = replayed ≡ Ended line (Forged place)
IsReplay (Err (errors.TooMany line count)) replayed = replayed ≡ Ended line (TooMany count)
IsReplay (Err (errors.TooMuch line bytes)) replayed = replayed ≡ Ended line (TooMuch bytes)
IsReplay (Err errors.OutOfMemory) replayed = Unit {0}
