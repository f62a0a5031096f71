-- The one that there is.
use Rattle.std.proofs.Common.{◌∙◌, sym}
use Rattle.st_world.proofs.AnswerLaws.{server_here, server_nowhere}
use Rattle.st_world.proofs.world.World.server.Goals as goal

pub returns-then-not-is_served : goal.returns-then-not-is_served
returns-then-not-is_served c = λ d m stands. server_nowhere d m c.args.who stands.set.taken (sym c.is_served.ensures ∙ c.if-not-is_served.true)

pub returns : goal.returns
returns c = λ d m stands. server_here c.args.self.now d m c.args.who stands (sym c.is_served.ensures ∙ c.if-not-is_served.false)
