-- A message that is there is shown.
use Rattle.std.proofs.Common.{◌∙◌, ap, sym, Some}
use Rattle.st_world.proofs.StepLaws.{show_step, show_missing}
use Rattle.st_world.proofs.world.World.step_show.Goals as goal

pub returns-in_default : goal.returns-in_default
returns-in_default c = λ d m stands. show_missing c.args.self.now c.args.self.now d m c.args.message stands (sym c.in_default.ensures.value)

pub returns : goal.returns
returns c = λ d m stands. show_step c.args.self.now d m c.args.message _ stands (sym c.in-Some.ensures.value ∙ ap Some (sym c.in_ok-bytes.ensures.equal))
