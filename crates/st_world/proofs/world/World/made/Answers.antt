-- The list that is kept.
use Rattle.std.proofs.Common.{◌∙◌}
use Rattle.st_world.proofs.world.World.made.Goals as goal

pub returns : goal.returns
returns c = λ d m stands. c.as_slice.ensures ∙ stands.sending.made
