-- From the parts of the text.
use Rattle.std.proofs.Common.{◌∙◌, sym, ap, Ok, Err}
use Rattle.std.proofs.lemmas.Result.{err_from_is_err_and}
use Rattle.st_input.specs.Parted.{parted, parted_as}
use Rattle.st_input.proofs.InputLaws.{no_text, no_parts, header_refused, events_refused, events_input}
use Rattle.st_input.proofs.input.read_input.Goals as goal

pub returns-in_default-clause-read : goal.returns-in_default-clause-read
returns-in_default-clause-read c = no_text c.args.bytes.now c.in_default.ensures.cases.0

pub returns-in_default-part-clause-read : goal.returns-in_default-part-clause-read
returns-in_default-part-clause-read c =
    no_parts c.args.bytes.now c.in-Ok.ensures.cases.1 (sym (c.in_default-part.ensures.value ∙ ap parted c.in-Ok.ensures.cases.0))

pub returns-in_err-deployment-clause-read : goal.returns-in_err-deployment-clause-read
returns-in_err-deployment-clause-read c =
    let p = err_from_is_err_and c.from_residual.result c.from_residual.ensures.1 in
    header_refused c.from_residual.result c.args.bytes.now (parted_as c.in-Some.parts) c.in_err-deployment.field-0.0 c.in-Ok.ensures.cases.1
    (sym (c.in-Some.ensures.value ∙ ap parted c.in-Ok.ensures.cases.0)) (p.1 ∙ ap Err p.2) c.in_err-deployment.ensures.read

pub returns-in_err-lines-clause-read : goal.returns-in_err-lines-clause-read
returns-in_err-lines-clause-read c =
    let p = err_from_is_err_and c.from_residual-in_err-lines.result c.from_residual-in_err-lines.ensures.1 in
    events_refused c.from_residual-in_err-lines.result c.args.bytes.now (parted_as c.in-Some.parts) c.in_ok-deployment.deployment c.in_err-lines.field-0.0
    c.in-Ok.ensures.cases.1 (sym (c.in-Some.ensures.value ∙ ap parted c.in-Ok.ensures.cases.0)) c.in_ok-deployment.ensures.read (p.1 ∙ ap Err p.2)
    c.in_err-lines.ensures.read

pub returns-clause-read : goal.returns-clause-read
returns-clause-read c =
    events_input c.args.bytes.now (parted_as c.in-Some.parts) c.in_ok-deployment.deployment (Ok c.in_ok-lines.lines) c.in-Ok.ensures.cases.1
    (sym (c.in-Some.ensures.value ∙ ap parted c.in-Ok.ensures.cases.0)) c.in_ok-deployment.ensures.read c.in_ok-lines.ensures.read
