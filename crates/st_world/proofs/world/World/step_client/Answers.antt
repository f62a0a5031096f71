-- A client that is there asks.
use Rattle.std.proofs.Common.{arith}
use Rattle.st_world.proofs.StepLaws.{client_asks, client_missing}
use Rattle.st_world.proofs.world.World.step_client.Goals as goal

pub returns-then-client-self : goal.returns-then-client-self
returns-then-client-self c = λ d m stands. client_missing c.args.self.now c.args.self.now d m c.args.client c.args.op.now stands (omega (arith, c.if-client-self.true))

pub returns : goal.returns
returns c = λ d m stands. client_asks c.submit.result c.args.self.now c.submit.new.self d m c.args.client c.args.op.now stands (omega (arith, c.if-client-self.false)) (c.submit.ensures d m stands)
