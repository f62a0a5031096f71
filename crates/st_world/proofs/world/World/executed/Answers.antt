-- The one server's.
use Rattle.std.proofs.Common.{◌∙◌, sym}
use Rattle.st_world.proofs.AnswerLaws.{executed_here, executed_nowhere}
use Rattle.st_world.proofs.world.World.executed.Goals as goal

pub returns-then-not-is_served : goal.returns-then-not-is_served
returns-then-not-is_served c = λ d m stands. executed_nowhere d m c.args.who stands.set.taken (sym c.is_served.ensures ∙ c.if-not-is_served.true)

pub returns : goal.returns
returns c = λ d m stands. executed_here c.args.self.now d m c.args.who _ stands (sym c.is_served.ensures ∙ c.if-not-is_served.false) c.log.ensures
