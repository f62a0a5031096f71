-- One message more is handed out.
use Rattle.std.proofs.Common.{◌∙◌, subst, List, take, arith}
use Rattle.st_message.specs.declared.event.Output.{Output}
use Rattle.st_protocol.specs.World.{hands_out}
use Rattle.st_deployment.specs.Deployed.{world_deployment}
use Rattle.st_server.proofs.LoopLaws.{taken_all}
use Rattle.st_world.specs.Handing.{IsHanded}
use Rattle.st_world.specs.Standing.{EndsBy}
use Rattle.st_world.proofs.HandLaws.{handed_more, handed_over, handed_stands}
use Rattle.st_world.proofs.world.World.hand_out.Goals as goal

pub hand_one-requires-clause-stands : goal.hand_one-requires-clause-stands
hand_one-requires-clause-stands c = handed_stands c.args.self.now c.loop-output.self (take c.loop-output.output-index c.as_slice-output-items.result.now) c.requires.stands c.loop-output.invariant

pub loop-output-preserved : goal.loop-output-preserved
loop-output-preserved c =
    handed_more c.args.self.now c.loop-output.self c.hand_one.new.self c.as_slice-output-items.result.now c.loop-output.output-index c.output-item.result c.loop-output.invariant c.loop-output-test.true c.output-item.is c.in-Ok.ensures

pub returns : goal.returns
returns c =
    subst (λ (outs : List Output). IsHanded c.args.self.now c.loop-output.self outs)
    (taken_all c.as_slice-output-items.result.now c.loop-output.output-index (omega (arith, c.loop-output-test.false)) ∙ c.as_slice-output-items.ensures) c.loop-output.invariant

pub returns-in-Err : goal.returns-in-Err
returns-in-Err c =
    λ d m stands.
    subst (λ (outs : List Output). EndsBy c.in-Err.error (hands_out (world_deployment d) 0 0 m outs).ended) c.as_slice-output-items.ensures
    (handed_over c.in-Err.error c.args.self.now c.loop-output.self c.as_slice-output-items.result.now c.loop-output.output-index c.output-item.result c.loop-output.invariant c.loop-output-test.true c.output-item.is c.in-Err.ensures d m stands)
