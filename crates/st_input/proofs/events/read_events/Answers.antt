-- Line by line.
use Rattle.std.proofs.Common.{◌∙◌, length, arith, rules, sym, ap, Err}
use Rattle.std.specs.Str.Lines.{lines}
use Rattle.std.proofs.lemmas.Bool.{eqb-true}
use Rattle.std.proofs.lemmas.List.{nil_from_length}
use Rattle.std.proofs.lemmas.Result.{err_from_is_err_and}
use Rattle.st_input.specs.Input.{events_from}
use Rattle.st_input.proofs.EventLaws.{goes_on, stops, at_end, refused}
use Rattle.st_input.proofs.events.read_events.Goals as goal

pub returns-in_err-read_event-clause-read : goal.returns-in_err-read_event-clause-read
returns-in_err-read_event-clause-read c =
    let p = err_from_is_err_and c.from_residual.result c.from_residual.ensures.1 in
    refused c.from_residual.result c.in_err-read_event.field-0.0 (events_from c.args.first 0 (lines c.args.text.now)) (p.1 ∙ ap Err p.2)
    (λ fault is. stops c.args.text.now c.args.first c.loop-rest.events c.loop-rest.number c.loop-rest.rest.now c.first_line.result.0.now (lines c.first_line.result.1.now) fault
    c.loop-rest.invariant.reading c.first_line.ensures.lines
    (rw (c.in_err-read_event.was ∙ ap Err is) at c.read_event.ensures.read))

pub loop-rest-preserved : goal.loop-rest-preserved
loop-rest-preserved c =
    record {
      reading =
          goes_on c.args.text.now c.args.first c.loop-rest.events c.loop-rest.number c.loop-rest.rest.now c.first_line.result.0.now c.first_line.result.1.now c.read_event.new.events
          c.loop-rest.invariant.reading c.first_line.ensures.lines (omega (arith, c.first_line.ensures.less)) c.in_ok-read_event.ensures.read;
      built = c.in_ok-read_event.ensures.built c.loop-rest.invariant.built;
      utf8 = search rules;
    }

pub returns-clause-read : goal.returns-clause-read
returns-clause-read c = at_end c.args.text.now c.args.first c.loop-rest.events c.loop-rest.number c.loop-rest.rest.now c.loop-rest.invariant.reading
    (nil_from_length c.loop-rest.rest.now (eqb-true (length c.loop-rest.rest.now) 0 (sym c.is_empty.ensures ∙ c.loop-rest-test.false)))
