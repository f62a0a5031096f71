-- Each step of the loop is a step of the reading.
use Rattle.std.proofs.Common.{◌≡◌, ◌+◌, ◌∷◌, ◌++◌, [], sym, ◌∙◌, arith}
use Rattle.std.proofs.lemmas.Result.{err_from_is_err_and}
use Rattle.st_fields.proofs.Loop.{goes_on, ends, is_done}
use Rattle.st_wire.specs.Ranges.{after_signed}
use Rattle.st_wire.specs.Reading.{signed_at}
use Rattle.st_wire.proofs.Shares.{if_ok, all_below}
use Rattle.st_wire.proofs.parts.read_shares.Goals as goal

pub returns-in_err-signed : goal.returns-in_err-signed
returns-in_err-signed c =
    let p = err_from_is_err_and c.from_residual.result c.from_residual.ensures.1 in
    rw (p.1, p.2) (ends signed_at after_signed c.in_err-signed.field-0.0 c.loop.quorum c.args.count c.loop.counter c.loop.least c.loop.rest.now _ c.loop-test.true c.in_err-signed.ensures.gives c.loop.invariant.0)

pub loop-preserved : goal.loop-preserved
loop-preserved c =
    let pushed : c.push.new.self ≡ c.loop.quorum ++ c.in_ok-signed.signed ∷ [] = if_ok c.push.result _ (sym c.is_err.ensures.value ∙ c.if-is_err.false) c.push.ensures.ok in
    rw (pushed, c.above-least.ensures) (
      goes_on signed_at after_signed c.loop.quorum c.args.count c.loop.counter c.loop.least c.loop.rest.now c.in_ok-signed.signed c.in_ok-signed.after.now _ c.loop-test.true c.in_ok-signed.ensures.gives c.loop.invariant.0,
      all_below c.loop.least.least (c.in_ok-signed.signed.index + 1) c.loop.quorum c.in_ok-signed.signed (omega (arith, c.in_ok-signed.ensures.within)) (omega arith) c.loop.invariant.1,
    )

pub returns : goal.returns
returns c = is_done signed_at after_signed c.loop.quorum c.args.count c.loop.counter c.loop.least c.loop.rest.now _ c.loop-test.false c.loop.invariant.0
