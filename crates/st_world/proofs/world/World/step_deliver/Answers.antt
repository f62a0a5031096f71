-- A message that is there is delivered.
use Rattle.std.proofs.Common.{◌∙◌, sym, arith}
use Rattle.st_protocol.specs.Schedule.{is_pair}
use Rattle.st_world.proofs.StepLaws.{deliver_step, deliver_no_message, deliver_no_dest, rest_stands}
use Rattle.st_world.proofs.world.World.step_deliver.Goals as goal

pub returns-then-message-sent : goal.returns-then-message-sent
returns-then-message-sent c =
    λ d m stands. let count = c.len-sent.ensures in deliver_no_message c.args.self.now c.args.self.now d m c.args.message c.args.to stands (omega (arith, count, c.if-message-sent.true))

pub returns-then-not-is_dest : goal.returns-then-not-is_dest
returns-then-not-is_dest c = λ d m stands. deliver_no_dest c.args.self.now c.args.self.now d m c.args.message c.args.to stands (sym (c.is_dest.ensures d stands.set) ∙ c.if-not-is_dest.true)

pub deliver-requires-clause-stands : goal.deliver-requires-clause-stands
deliver-requires-clause-stands c = rest_stands c.args.self.now c.remove.new.self (is_pair c.args.message c.args.to) c.requires.stands c.remove.ensures.pairs c.remove.ensures.newest

pub returns : goal.returns
returns c =
    λ d m stands.
    let count = c.len-sent.ensures in
    deliver_step c.deliver.result c.args.self.now c.deliver.new.self c.remove.new.self d m c.args.message c.args.to stands (omega (arith, count, c.if-message-sent.false)) (sym (c.is_dest.ensures d stands.set) ∙ c.if-not-is_dest.false)
    c.remove.ensures.pairs c.remove.ensures.newest (λ n wire on found. c.deliver.ensures d n wire on found)
