-- One event line more.
use Rattle.std.proofs.Common.{◌≡◌, ◌∙◌, ap, subst, sym, ℕ, List, [], ◌∷◌, ◌++◌, refl}
use Rattle.std.specs.Prelude.{map}
use Rattle.std.proofs.lemmas.List.{map-append}
use Rattle.std.proofs.lemmas.Grind.{flat_map-append}
use Rattle.st_words.specs.declared.deployment.Deployment.{Deployment}
use Rattle.st_schedule.specs.declared.line.Line.{Line}
use Rattle.st_schedule.specs.declared.done.Done.{Done}
use Rattle.st_protocol.specs.World.{empty}
use Rattle.st_protocol.specs.Schedule.{step, steps}
use Rattle.st_protocol.specs.Report.{came_from, done_row, done_words}
use Rattle.st_flows.proofs.LineLaws.{steps_more, came_from_more}
use Rattle.st_input.specs.declared.input.InputLine.{InputLine}
use Rattle.st_deployment.specs.Deployed.{world_deployment}
use Rattle.st_world.specs.Standing.{IsWorld}
use Rattle.st_replay.specs.declared.lines.Replay.{Replay}
use Rattle.st_replay.specs.Lines.{events_in, numbered_in, world_after, came_after, done_rows, IsReplayed}

-- the world after one line more
world_more : (d : Deployment) (before : List InputLine) (x : InputLine) → world_after d (before ++ x ∷ []) ≡ (step (world_deployment d) (world_after d before) x.line).world
world_more d before x =
    ap (steps (world_deployment d) empty) (map-append (λ (y : InputLine). y.line) before (x ∷ [])) ∙ steps_more (world_deployment d) empty (events_in before) x.line

-- the events of numbered lines
events_kept : (before : List InputLine) → map (λ (y : ℕ × Line). y.1) (numbered_in before) ≡ events_in before
events_kept [] = refl
events_kept (x ∷ xs) = ap (λ (es : List Line). x.line ∷ es) (events_kept xs)

-- what one line more comes to
came_more : (d : Deployment) (before : List InputLine) (x : InputLine)
    → came_after d (before ++ x ∷ []) ≡ came_after d before ++ (x.number, (step (world_deployment d) (world_after d before) x.line).done) ∷ []
came_more d before x =
    ap (came_from (world_deployment d) empty) (map-append (λ (y : InputLine). (y.number, y.line)) before (x ∷ []))
    ∙ (came_from_more (world_deployment d) empty (numbered_in before) x.number x.line
    ∙ ap (λ (es : List Line). came_after d before ++ (x.number, (step (world_deployment d) (steps (world_deployment d) empty es) x.line).done) ∷ []) (events_kept before))

-- a row for one line more
rows_more : (d : Deployment) (before : List InputLine) (x : InputLine)
    → done_rows (came_after d (before ++ x ∷ []))
    ≡ done_rows (came_after d before) ++ record { line = x.number; words = done_words (step (world_deployment d) (world_after d before) x.line).done } ∷ []
rows_more d before x =
    ap done_rows (came_more d before x)
    ∙ flat_map-append (λ (row : ℕ × Done). done_row row ∷ []) (came_after d before) ((x.number, (step (world_deployment d) (world_after d before) x.line).done) ∷ [])

-- no line yet
pub replayed_none : (replay : Replay) (d : Deployment) → IsWorld replay.world d empty → replay.done ≡ [] → IsReplayed replay d []
unfolding came_from
replayed_none replay d world done = record { world = world; done = done }

-- a line is taken
pub replayed_more : (old new : Replay) (d : Deployment) (before : List InputLine) (x : InputLine) (done : Done)
    → IsWorld new.world d (step (world_deployment d) (world_after d before) x.line).world → done ≡ (step (world_deployment d) (world_after d before) x.line).done
    → new.done ≡ old.done ++ record { line = x.number; words = done_words done } ∷ [] → IsReplayed old d before → IsReplayed new d (before ++ x ∷ [])
replayed_more old new d before x done goes comes rows so =
    record {
      world = subst (IsWorld new.world d) (sym (world_more d before x)) goes;
      done =
          rows
          ∙ ((λ i. so.done i ++ record { line = x.number; words = done_words (comes i) } ∷ [])
          ∙ sym (rows_more d before x));
    }
