-- A pair that waits is lost.
use Rattle.std.proofs.Common.{arith}
use Rattle.st_world.proofs.StepLaws.{drop_step, drop_missing, gone_is}
use Rattle.st_world.proofs.world.World.step_drop.Goals as goal

pub returns-then-gone-eq0 : goal.returns-then-gone-eq0
returns-then-gone-eq0 c =
    λ d m stands.
    let none = c.if-gone-eq0.true in
    drop_missing c.args.self.now c.args.self.now d m c.args.message c.args.to c.remove-gone.result stands (gone_is _ _ c.remove-gone.result _ c.remove-gone.ensures.pairs c.remove-gone.ensures.count) (omega (arith, none))

pub returns : goal.returns
returns c =
    λ d m stands.
    let some = c.if-gone-eq0.false in
    drop_step c.args.self.now c.remove-gone.new.self d m c.args.message c.args.to c.remove-gone.result stands c.remove-gone.ensures.pairs c.remove-gone.ensures.newest
    (gone_is _ _ c.remove-gone.result _ c.remove-gone.ensures.pairs c.remove-gone.ensures.count) (omega (arith, some))
