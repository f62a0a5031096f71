-- Which event lines are taken today: those that tell a client, move messages, bring bytes in from outside, or show a
-- message.
use Rattle.std.specs.Prelude.{◌≡◌, Bool, true, false}
use Rattle.st_schedule.specs.declared.line.Line.{Line}
use Rattle.st_schedule.specs.declared.line.Line.TheVariants as lines
use Rattle.st_schedule.specs.Ranges.{KeepsLine, FitsLine}

-- a line that is taken
abbrev pub is_built : Line → Bool
is_built (lines.Client client op) = true
is_built (lines.Deliver message to) = true
is_built (lines.Drop message to) = true
is_built (lines.Lose to) = true
is_built (lines.Flow pairs) = true
is_built (lines.Raw to bytes) = true
is_built (lines.Show message) = true
is_built _ = false

-- a line that is taken, within its ranges and with numbers and bytes of their widths
pub record IsBuilt (line : Line) : Type 0 where
  pub keeps : KeepsLine line
  pub fits : FitsLine line
  pub built : is_built line ≡ true
