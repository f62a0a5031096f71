-- A flow is as many flows of one delivery.
use Rattle.std.proofs.Common.{◌≡◌, ◌∙◌, ap, sym, refl, ℕ, zero, suc, arith, List, [], ◌∷◌}
use Rattle.std.specs.Prelude.{Option, Some, None, slice_get}
use Rattle.std.specs.List.{AllByRecursion as Each}
use Rattle.st_schedule.specs.declared.line.Line.{Line}
use Rattle.st_schedule.specs.declared.line.Line.TheVariants as lines
use Rattle.st_protocol.specs.Keeping.{given}
use Rattle.st_protocol.specs.World.{Deployment, Pair, World, with_waiting, delivers}
use Rattle.st_protocol.specs.Schedule.{Flowing, counts, flows, flows_first, step, goes_on, steps}
use Rattle.st_ranges.specs.Deployments.{LineInRange}

-- so many flows of one delivery
abbrev pub ones : ℕ → List Line
ones zero = []
ones (suc n) = lines.Flow 1 ∷ ones n

module _ {Wire : Type 0} (d : Deployment Wire) where
  -- a world whence a flow begins
  abbrev from_here : World Wire → Flowing Wire
  from_here world = record { world = world; pairs = 0; did = 0; ignored = 0 }

  -- the world after a delivery is that of the world before it, whatever was counted
  first_world : (x : Flowing Wire) (ps : List Pair) → (flows_first d x ps).world ≡ (flows_first d (from_here x.world) ps).world
  unfolding flows_first
  first_world x [] = refl
  first_world x (p ∷ ps) = by (slice_get x.world.sent p.message)
    where
      by : (wire : Option Wire) → (given wire x (λ sent. counts d x (delivers d (with_waiting x.world ps) p.to sent))).world
          ≡ (given wire (from_here x.world) (λ sent. counts d (from_here x.world) (delivers d (with_waiting x.world ps) p.to sent))).world
      by None = refl
      by (Some sent) = refl

  -- a line of one delivery
  one_is : (world : World Wire) → goes_on d world (lines.Flow 1) ≡ (flows_first d (from_here world) world.waiting).world
  unfolding step flows
  one_is world = refl

  -- The world after a flow is that of so many lines.
  pub flows_are_lines : (n : ℕ) (x : Flowing Wire) → (flows d n x).world ≡ steps d x.world (ones n)
  unfolding flows
  flows_are_lines zero x = refl
  flows_are_lines (suc n) x =
      flows_are_lines n (flows_first d x x.world.waiting) ∙ ap (λ (w : World Wire). steps d w (ones n)) (first_world x x.world.waiting ∙ sym (one_is x.world))

  -- They are lines in range.
  pub ones_in_range : (n : ℕ) → Each (LineInRange d) (ones n)
  ones_in_range zero = tt
  ones_in_range (suc n) = (((omega arith, omega arith), tt, tt), ones_in_range n)
