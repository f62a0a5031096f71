-- A number that is found stays found.
use Rattle.std.proofs.Common.{sym, ◌∙◌, arith}
use Rattle.st_words.specs.declared.deployment.TheConstants.{WINDOW}
use Rattle.st_state.specs.HereView.{here_of}
use Rattle.st_state.specs.ForcedView.{forced_by}
use Rattle.st_assign.specs.Above.{is_forced_over}
use Rattle.st_protocol.proofs.BelowLaws.{some_below_found}
use Rattle.st_assign.proofs.ReasonLaws.{forced_above_by}
use Rattle.st_assign.proofs.above.is_forced_above.Goals as goal

pub returns-then-is_forced_over : goal.returns-then-is_forced_over
returns-then-is_forced_over c =
    λ clients serve.
    let h = here_of clients serve c.args.here.now in
    let forced = forced_by h c.args.forced.now in
    sym (forced_above_by h forced c.args.number
    ∙ some_below_found (is_forced_over h forced c.args.number) c.loop-k.k WINDOW (omega arith) (sym (c.is_forced_over.ensures clients serve) ∙ grind (arith, c)))
