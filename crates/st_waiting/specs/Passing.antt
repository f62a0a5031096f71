-- How many pairs pass a test.
use Rattle.std.specs.Prelude.{ℕ, suc, Bool, cond, nat_eq, List, [], ◌∷◌}
use Rattle.st_schedule.specs.declared.line.Dest.{Dest}
use Rattle.st_protocol.specs.World as model
use Rattle.st_protocol.specs.World.{same_dest}
use Rattle.st_waiting.specs.Destinations.{key_of}

-- how many pass
unfoldable pub passing : (model.Pair → Bool) → List model.Pair → ℕ
passing test [] = 0
passing test (p ∷ ps) = cond (test p) (suc (passing test ps)) (passing test ps)

-- a pair to this destination
abbrev pub goes_to : Dest → model.Pair → Bool
goes_to to p = same_dest p.to to

-- a pair to the destination of a number
abbrev pub has_key : ℕ → model.Pair → Bool
has_key key p = nat_eq (key_of p.to) key
