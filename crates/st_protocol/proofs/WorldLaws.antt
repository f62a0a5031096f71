-- The world of one line more, and what that line came to.
use Rattle.std.proofs.Common.{◌≡◌, List, [], ◌∷◌, ◌++◌, refl, ap}
use Rattle.std.proofs.lemmas.List.Sums.{fold_push}
use Rattle.st_schedule.specs.declared.line.Line.{Line}
use Rattle.st_protocol.specs.World.{Deployment, World, empty}
use Rattle.st_protocol.specs.Schedule.{step, goes_on, steps, world_of, dones}

module _ {Wire : Type 0} (d : Deployment Wire) where
  -- the world
  pub world_of_more : (before : List Line) (line : Line) → world_of d (before ++ line ∷ []) ≡ (step d (world_of d before) line).world
  world_of_more before line = fold_push (goes_on d) empty before line

  -- what the lines came to, from any world on
  pub dones_more : (world : World Wire) (before : List Line) (line : Line) →
      dones d world (before ++ line ∷ []) ≡ dones d world before ++ (step d (steps d world before) line).done ∷ []
  unfolding dones
  dones_more world [] line = refl
  dones_more world (first ∷ more) line = ap (λ rest. (step d world first).done ∷ rest) (dones_more (goes_on d world first) more line)
