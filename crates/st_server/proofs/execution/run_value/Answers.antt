-- The update ran.
use Rattle.std.proofs.Common.{◌∙◌, ap, ℕ, arith}
use Rattle.st_server.proofs.ExecutionLaws.{update_ran}
use Rattle.st_server.proofs.execution.run_value.Goals as goal

pub returns-clause-ran : goal.returns-clause-ran
returns-clause-ran c =
    λ run last kept.
    let update = c.in-Update.update in
    let before = c.last-last.ensures in
    let test = c.if-last-update.false in
    update_ran run c.args.value.now update _ c.saturating_add-live.result c.args.live.now.ran c.in-Update.is kept c.saturating_add-live.ensures (c.in_ok-result.ensures.equal ∙ c.to_be_bytes.ensures)
    (omega (arith, before, test, ap (λ (f : ℕ → ℕ). f update.client.0) last))
