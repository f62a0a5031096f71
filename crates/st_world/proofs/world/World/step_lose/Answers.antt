-- All pairs to a destination that is there are lost.
use Rattle.std.proofs.Common.{◌∙◌, sym}
use Rattle.st_world.proofs.StepLaws.{lose_step, lose_missing, gone_is}
use Rattle.st_world.proofs.world.World.step_lose.Goals as goal

pub returns-then-not-is_dest : goal.returns-then-not-is_dest
returns-then-not-is_dest c = λ d m stands. lose_missing c.args.self.now c.args.self.now d m c.args.to stands (sym (c.is_dest.ensures d stands.set) ∙ c.if-not-is_dest.true)

pub returns : goal.returns
returns c =
    λ d m stands.
    lose_step c.args.self.now c.lose-gone.new.self d m c.args.to c.lose-gone.result stands (sym (c.is_dest.ensures d stands.set) ∙ c.if-not-is_dest.false) c.lose-gone.ensures.pairs c.lose-gone.ensures.newest
    (gone_is _ _ c.lose-gone.result _ c.lose-gone.ensures.pairs c.lose-gone.ensures.count)
