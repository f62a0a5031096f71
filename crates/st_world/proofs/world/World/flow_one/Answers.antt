-- The oldest pair.
use Rattle.std.proofs.Common.{refl}
use Rattle.st_waiting.specs.Places.{pair_of}
use Rattle.st_waiting.specs.Undelivered.{pairs_in}
use Rattle.st_world.proofs.FlowLaws.{turn_nothing, nothing_stands, standing_on, first_sent, turned, turn_ended, standing_after}
use Rattle.st_world.proofs.world.World.flow_one.Goals as goal

pub returns-in_default-clause-flowed : goal.returns-in_default-clause-flowed
returns-in_default-clause-flowed c = λ d x so. turn_nothing c.args.self.now c.pop.new.self c.args.flow d x so c.in_default.ensures.taken.0 c.in_default.ensures.taken.1 c.pop.ensures.newest

pub returns-in_default-clause-stands : goal.returns-in_default-clause-stands
returns-in_default-clause-stands c = nothing_stands c.args.self.now c.pop.new.self c.requires.stands c.in_default.ensures.taken.0 c.in_default.ensures.taken.1 c.pop.ensures.newest

pub deliver-requires-clause-stands : goal.deliver-requires-clause-stands
deliver-requires-clause-stands c = standing_on c.args.self.now c.pop.new.self (pair_of c.in-Some.pair) (pairs_in c.pop.new.self) c.requires.stands c.in-Some.ensures.taken refl c.pop.ensures.newest

pub deliver-requires-clause-sent : goal.deliver-requires-clause-sent
deliver-requires-clause-sent c = first_sent c.args.self.now (pair_of c.in-Some.pair) (pairs_in c.pop.new.self) c.requires.stands c.in-Some.ensures.taken

pub returns-in-Ok-clause-flowed : goal.returns-in-Ok-clause-flowed
returns-in-Ok-clause-flowed c =
    λ d x so.
    turned c.args.self.now c.pop.new.self c.deliver.new.self c.args.flow (pair_of c.in-Some.pair) (pairs_in c.pop.new.self) c.in-Some.ensures.taken refl c.pop.ensures.newest c.counted.result c.in-Ok.done d x so c.in-Ok.ensures
    c.counted.ensures.pairs c.counted.ensures.did c.counted.ensures.ignored

pub returns-in-Ok-clause-stands : goal.returns-in-Ok-clause-stands
returns-in-Ok-clause-stands c =
    standing_after _ c.deliver.new.self c.in-Ok.done (pair_of c.in-Some.pair) (first_sent c.args.self.now (pair_of c.in-Some.pair) (pairs_in c.pop.new.self) c.requires.stands c.in-Some.ensures.taken)
    (standing_on c.args.self.now c.pop.new.self (pair_of c.in-Some.pair) (pairs_in c.pop.new.self) c.requires.stands c.in-Some.ensures.taken refl c.pop.ensures.newest) c.in-Ok.ensures

pub returns-in-Err-clause-flowed : goal.returns-in-Err-clause-flowed
returns-in-Err-clause-flowed c =
    λ d x so.
    turn_ended c.args.self.now c.pop.new.self c.deliver.new.self c.args.flow (pair_of c.in-Some.pair) (pairs_in c.pop.new.self) c.in-Some.ensures.taken refl c.pop.ensures.newest c.in-Err.error d x so c.in-Err.ensures
