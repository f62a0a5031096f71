-- Seal by seal.
use Rattle.std.proofs.Common.{◌∙◌, ap, sym, not, refl, arith}
use Rattle.st_world.proofs.ForgedLaws.{goes_past, is_found, none_is_left}
use Rattle.st_world.proofs.world.World.first_forged.Goals as goal

pub loop-sealed-init : goal.loop-sealed-init
loop-sealed-init c = λ d m stands. refl

pub returns-then-forged-clause-place : goal.returns-then-forged-clause-place
returns-then-forged-clause-place c =
    λ d m stands.
    is_found d m c.args.seals.now c.loop-sealed.sealed-index c.sealed-item.result c.loop-sealed-test.true c.sealed-item.is (sym (c.in_ok-forged.ensures.forged d m stands) ∙ ap not c.if-forged.true)
    ∙ c.loop-sealed.invariant d m stands

pub loop-sealed-preserved : goal.loop-sealed-preserved
loop-sealed-preserved c =
    λ d m stands.
    goes_past d m c.args.seals.now c.loop-sealed.sealed-index c.sealed-item.result c.loop-sealed-test.true c.sealed-item.is (sym (c.in_ok-forged.ensures.forged d m stands) ∙ ap not c.if-forged.false)
    ∙ c.loop-sealed.invariant d m stands

pub returns-clause-place : goal.returns-clause-place
returns-clause-place c =
    λ d m stands.
    none_is_left d m c.args.seals.now c.loop-sealed.sealed-index (omega (arith, c.loop-sealed-test.false)) ∙ c.loop-sealed.invariant d m stands
