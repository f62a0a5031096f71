-- Line by line.
use Rattle.std.proofs.Common.{◌∙◌, sym, subst, suc, List, drop}
use Rattle.st_input.specs.declared.input.InputLine.{InputLine}
use Rattle.st_server.proofs.LoopLaws.{taken_next}
use Rattle.st_replay.specs.Ends.{IsEnd, end_in}
use Rattle.st_replay.specs.Lines.{IsReplayed}
use Rattle.st_replay.proofs.EndLaws.{line_and_rest}
use Rattle.st_replay.proofs.lines.replay_lines.Goals as goal

pub loop-line-preserved : goal.loop-line-preserved
loop-line-preserved c = (
  subst (λ (xs : List InputLine). IsReplayed c.take.new.self c.args.d.now xs)
      (sym (taken_next c.as_slice-line-items.result.now c.loop-line.line-index c.line-item.result c.loop-line-test.true c.line-item.is))
      (c.in-Ok.ensures.replayed c.args.d.now _ c.loop-line.invariant.0),
  c.in-Ok.ensures.stands,
)

pub returns-in-Err-clause-ended : goal.returns-in-Err-clause-ended
returns-in-Err-clause-ended c =
    subst (λ (xs : List InputLine). IsEnd c.in-Err.error (end_in c.args.d.now xs))
    (line_and_rest c.as_slice-line-items.result.now c.loop-line.line-index c.line-item.result c.loop-line-test.true c.line-item.is ∙ c.as_slice-line-items.ensures)
    (c.in-Err.ensures.ended c.args.d.now _ (drop (suc c.loop-line.line-index) c.as_slice-line-items.result.now) c.loop-line.invariant.0)
