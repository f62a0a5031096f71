-- Seal by seal.
use Rattle.std.proofs.Common.{◌∙◌, ap, sym, arith, List}
use Rattle.st_message.specs.declared.made.MadeSeal.{MadeSeal}
use Rattle.st_protocol.specs.World.{has_handed}
use Rattle.st_made.proofs.ScanLaws.{is_found, goes_past, none_is_left}
use Rattle.st_made.proofs.made.Made.is_handed.Goals as goal

pub returns-then-is_seal : goal.returns-then-is_seal
returns-then-is_seal c =
    sym
    (ap (λ (xs : List MadeSeal). has_handed xs c.args.who c.args.leaf c.args.statement.now) (sym c.self.view_is ∙ sym c.as_slice-seal-items.ensures)
    ∙ (sym c.loop-seal.invariant
    ∙ is_found c.as_slice-seal-items.result.now c.loop-seal.seal-index c.seal-item.result c.args.who c.args.leaf c.args.statement.now c.is_seal.result c.loop-seal-test.true c.seal-item.is c.is_seal.ensures c.if-is_seal.true))

pub loop-seal-preserved : goal.loop-seal-preserved
loop-seal-preserved c =
    goes_past c.as_slice-seal-items.result.now c.loop-seal.seal-index c.seal-item.result c.args.who c.args.leaf c.args.statement.now c.is_seal.result c.loop-seal-test.true c.seal-item.is c.is_seal.ensures c.if-is_seal.false
    ∙ c.loop-seal.invariant

pub returns : goal.returns
returns c =
    sym
    (ap (λ (xs : List MadeSeal). has_handed xs c.args.who c.args.leaf c.args.statement.now) (sym c.self.view_is ∙ sym c.as_slice-seal-items.ensures)
    ∙ (sym c.loop-seal.invariant ∙ none_is_left c.as_slice-seal-items.result.now c.loop-seal.seal-index c.args.who c.args.leaf c.args.statement.now (omega (arith, c.loop-seal-test.false))))
