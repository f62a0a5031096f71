-- By what `parse` says of a text with a plain start.
use Rattle.std.proofs.Common.{◌≡◌, true, sym, ◌∙◌, arith}
use Rattle.st_texts.specs.Numbers.{has_plain_start}
use Rattle.st_texts.proofs.NumberLaws.{unread_start, unread_text, unread_number, read_text, number_in-some}
use Rattle.st_texts.proofs.number.read_number.Goals as goal
use Rattle.st_texts.proofs.number.read_number.Goals.{else-least-number-via-then-least-number+else-number-most, else-least-number-via-else-least-number}

pub returns-then-not-has_plain_start-clause-value : goal.returns-then-not-has_plain_start-clause-value
returns-then-not-has_plain_start-clause-value c =
    sym (unread_start c.args.least c.args.most c.args.text.now (omega arith) (sym c.has_plain_start.ensures ∙ c.if-not-has_plain_start.true))

pub returns-in_err-number-clause-value : goal.returns-in_err-number-clause-value
returns-in_err-number-clause-value c =
    let plain : has_plain_start c.args.text.now ≡ true = sym c.has_plain_start.ensures ∙ c.if-not-has_plain_start.false in
    c.from_residual.ensures
    ∙ sym (unread_text c.args.least c.args.most c.args.text.now c.parse.result (omega arith) plain c.parse.ensures.value.0 (sym c.ok.ensures.value ∙ c.in_err-number.was))

pub returns-then-number-most-clause-value : goal.returns-then-number-most-clause-value
returns-then-number-most-clause-value c =
    let plain : has_plain_start c.args.text.now ≡ true = sym c.has_plain_start.ensures ∙ c.if-not-has_plain_start.false in
    let is = read_text c.args.text.now c.parse.result c.in_ok-number.number plain c.parse.ensures.value.0 (sym c.ok.ensures.value ∙ c.in_ok-number.was) in
    sym (number_in-some c.args.least c.args.most c.in_ok-number.number c.args.text.now is.1 is.0 c.if-least-number.true c.if-number-most.true)

pub returns-else-least-number-clause-value : goal.returns-else-least-number-clause-value
returns-else-least-number-clause-value c =
    let plain : has_plain_start c.args.text.now ≡ true = sym c.has_plain_start.ensures ∙ c.if-not-has_plain_start.false in
    let is = read_text c.args.text.now c.parse.result c.in_ok-number.number plain c.parse.ensures.value.0 (sym c.ok.ensures.value ∙ c.in_ok-number.was) in
    sym (unread_number c.args.least c.args.most c.in_ok-number.number c.args.text.now (omega arith) is
    (λ low high. elim c.else-least-number.branch [ else-least-number-via-then-least-number+else-number-most w ↦ omega arith | else-least-number-via-else-least-number w ↦ omega arith ]))
