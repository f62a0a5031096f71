-- An executed value runs.
use Rattle.std.proofs.Common.{sym, subst}
use Rattle.st_words.specs.declared.value.Value.{Value}
use Rattle.st_message.specs.declared.change.Change.{Change}
use Rattle.st_protocol.specs.Questions.{values_by, runs, run_on}
use Rattle.st_live.specs.Service.{list_serve}
use Rattle.st_server.specs.Execution.{Executes}
use Rattle.st_server.proofs.ExecutionLaws.{executes_more}
use Rattle.st_server.proofs.execution.note_entry.Goals as goal

pub returns-in_ok-push-clause-executes : goal.returns-in_ok-push-clause-executes
returns-in_ok-push-clause-executes c =
    λ run so.
    let live = c.run_value.new.live in
    let entries = c.push.new.self in
    let value = c.in_ok-value.value in
    let one = executes_more c.args.live.now live c.args.entries.now entries run value c.in_ok-ran.ran c.in_ok-ran.ensures.last c.in_ok-ran.ensures.kept (c.in_ok-ran.ensures.ran run) c.in_ok-push.ensures.ok so in
    subst (λ (x : Change). Executes live entries (run_on list_serve run (values_by x))) (sym c.in-Executed.is)
    (subst (λ (v : Value). Executes live entries (runs list_serve run v)) c.in_ok-value.ensures.equal one)
