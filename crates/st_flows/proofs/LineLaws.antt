-- One event line more at the end.
use Rattle.std.proofs.Common.{◌≡◌, ℕ, List, [], ◌∷◌, ◌++◌, refl, ap}
use Rattle.std.specs.Prelude.{map}
use Rattle.std.proofs.lemmas.List.Sums.{fold_push}
use Rattle.st_schedule.specs.declared.line.Line.{Line}
use Rattle.st_schedule.specs.declared.done.Done.{Done}
use Rattle.st_protocol.specs.World.{Deployment, World}
use Rattle.st_protocol.specs.Schedule.{step, goes_on, steps}
use Rattle.st_protocol.specs.Report.{came_from}

module _ {Wire : Type 0} (d : Deployment Wire) where
  -- the world
  pub steps_more : (world : World Wire) (before : List Line) (line : Line) → steps d world (before ++ line ∷ []) ≡ (step d (steps d world before) line).world
  steps_more world before line = fold_push (goes_on d) world before line

  -- what the lines came to, each with its number
  pub came_from_more : (world : World Wire) (before : List (ℕ × Line)) (number : ℕ) (line : Line) →
      came_from d world (before ++ (number, line) ∷ []) ≡ came_from d world before ++ (number, (step d (steps d world (map (λ x. x.1) before)) line).done) ∷ []
  unfolding came_from
  came_from_more world [] number line = refl
  came_from_more world (first ∷ more) number line =
      ap (λ (rest : List (ℕ × Done)). (first.0, (step d world first.1).done) ∷ rest) (came_from_more (goes_on d world first.1) more number line)
