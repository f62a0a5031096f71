-- As many as the lists have.
use Rattle.std.proofs.Common.{◌∙◌, ap, List, length}
use Rattle.st_protocol.specs.Words.{Bytes}
use Rattle.st_protocol.specs.World as model
use Rattle.st_world.proofs.world.World.counts.Goals as goal

pub returns : goal.returns
returns c =
    λ d m stands. (
      c.len.ensures ∙ ap (λ (xs : List Bytes). length xs) stands.sending.sent,
      c.len-2.ensures ∙ ap (λ (ps : List model.Pair). length ps) stands.sending.waiting,
    )
