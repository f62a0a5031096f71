-- What was sent is read, and taken.
use Rattle.std.proofs.Common.{◌∙◌, ap, sym, Some}
use Rattle.st_world.proofs.DeliverLaws.{delivered_sent}
use Rattle.st_world.proofs.world.World.deliver.Goals as goal

pub returns : goal.returns
returns c =
    λ d m wire stands found.
    c.take.ensures d m wire stands (delivered_sent c.args.self.now d m c.args.to c.args.message wire c.read_for-read.result _ stands found (sym c.in-Some.ensures.value ∙ ap Some (sym c.as_slice.ensures)) (c.read_for-read.ensures.exact d stands.set))
