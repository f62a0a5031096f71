-- A world that event lines led to, and what they came to.
use Rattle.std.specs.Prelude.{◌≡◌, ℕ, List, [], ◌∷◌, map}
use Rattle.std.specs.List.{flat_map}
use Rattle.st_words.specs.declared.deployment.Deployment.{Deployment}
use Rattle.st_protocol.specs.Words.{Bytes}
use Rattle.st_schedule.specs.declared.line.Line.{Line}
use Rattle.st_schedule.specs.declared.done.Done.{Done}
use Rattle.st_report.specs.declared.rows.DoneRow.{DoneRow}
use Rattle.st_report.specs.declared.rows.Rows.{Rows}
use Rattle.st_protocol.specs.World as model
use Rattle.st_protocol.specs.World.{empty}
use Rattle.st_protocol.specs.Schedule.{steps}
use Rattle.st_protocol.specs.Report.{came_from, done_row, rows_of}
use Rattle.st_input.specs.declared.input.InputLine.{InputLine}
use Rattle.st_deployment.specs.Deployed.{world_deployment}
use Rattle.st_world.specs.Standing.{IsWorld}
use Rattle.st_replay.specs.declared.lines.Replay.{Replay}

-- the events of lines
abbrev pub events_in : List InputLine → List Line
events_in lines = map (λ x. x.line) lines

-- the events of lines, each with its line's number
abbrev pub numbered_in : List InputLine → List (ℕ × Line)
numbered_in lines = map (λ x. (x.number, x.line)) lines

-- the world that these lines lead to
abbrev pub world_after : Deployment → List InputLine → model.World Bytes
world_after d lines = steps (world_deployment d) empty (events_in lines)

-- what these lines come to
abbrev pub came_after : Deployment → List InputLine → List (ℕ × Done)
came_after d lines = came_from (world_deployment d) empty (numbered_in lines)

-- the rows of what lines come to
abbrev pub done_rows : List (ℕ × Done) → List DoneRow
done_rows came = flat_map (λ row. done_row row ∷ []) came

-- all rows of the world that these lines lead to
abbrev pub rows_in : Deployment → List InputLine → Rows
rows_in d lines = rows_of (world_deployment d) (came_after d lines) (world_after d lines)

-- The world in memory is the one that these lines lead to, and the rows are what they come to.
pub record IsReplayed (replay : Replay) (d : Deployment) (lines : List InputLine) : Type 0 where
  pub world : IsWorld replay.world d (world_after d lines)
  pub done : replay.done ≡ done_rows (came_after d lines)
