-- Each step of the loop is a step of the reading.
use Rattle.std.proofs.Common.{Ok, sym, ap, ◌∙◌}
use Rattle.std.proofs.lemmas.Result.{err_from_is_err_and}
use Rattle.st_fields.proofs.Loop.{goes_on, ends, is_done}
use Rattle.st_fields.proofs.each.read_list.Goals as goal

pub returns-in_err-element : goal.returns-in_err-element
returns-in_err-element g c =
    let p = err_from_is_err_and c.from_residual.result c.from_residual.ensures.1 in
    rw (p.1, p.2) (ends g.R.ReadsEach.reads g.R.ReadsEach.after c.in_err-element.field-0.0 c.loop.elements.items c.args.count c.loop.counter c.loop.reader c.loop.rest.now _ c.loop-test.true c.in_err-element.ensures c.loop.invariant)

pub loop-preserved : goal.loop-preserved
loop-preserved g c =
    rw (c.in_ok-push.ensures.items, c.go_past-reader.ensures) (goes_on g.R.ReadsEach.reads g.R.ReadsEach.after c.loop.elements.items c.args.count c.loop.counter c.loop.reader c.loop.rest.now c.in_ok-element.element c.in_ok-element.after.now _ c.loop-test.true c.in_ok-element.ensures c.loop.invariant)

pub returns : goal.returns
returns g c =
    is_done g.R.ReadsEach.reads g.R.ReadsEach.after c.loop.elements.items c.args.count c.loop.counter c.loop.reader c.loop.rest.now _ c.loop-test.false c.loop.invariant
    ∙ ap (λ xs. Ok (xs, c.loop.rest.now)) (sym c.from_vec.ensures)
