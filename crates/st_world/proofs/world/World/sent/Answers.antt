-- A message that was sent.
use Rattle.std.proofs.Common.{◌∙◌, ap, Some}
use Rattle.st_world.proofs.AnswerLaws.{sent_here}
use Rattle.st_world.proofs.world.World.sent.Goals as goal

pub returns-in-Some : goal.returns-in-Some
returns-in-Some c = λ d m stands. sent_here c.args.self.now d m c.args.message _ stands (ap Some c.as_slice.ensures ∙ c.in-Some.ensures.value)

pub returns-in-None : goal.returns-in-None
returns-in-None c = λ d m stands. sent_here c.args.self.now d m c.args.message _ stands c.in-None.ensures.value
