-- One line more.
use Rattle.std.proofs.Common.{◌∙◌, ap, subst, sym, ◌++◌, [], ◌∷◌}
use Rattle.st_report.specs.declared.rows.DoneWords.{DoneWords}
use Rattle.st_replay.specs.declared.error.ReplayError.{ReplayError}
use Rattle.st_replay.specs.Ends.{IsEnd, end_in}
use Rattle.st_replay.specs.Lines.{world_after}
use Rattle.st_replay.proofs.EndLaws.{ends_as}
use Rattle.st_replay.proofs.LineLaws.{replayed_more}
use Rattle.st_replay.proofs.lines.Replay.take.Goals as goal

pub returns-in_ok-push-in-Ok-clause-replayed : goal.returns-in_ok-push-in-Ok-clause-replayed
returns-in_ok-push-in-Ok-clause-replayed c =
    λ d before so.
    let came = c.in-Ok.ensures.stepped d (world_after d before) so.world in
    replayed_more c.args.self.now _ d before c.args.line.now c.in-Ok.done came.0 came.1
    (c.in_ok-push-in-Ok.ensures.ok ∙ ap (λ (words : DoneWords). c.args.self.now.done ++ record { line = c.args.line.now.number; words = words } ∷ []) c.words_of-words.ensures) so

pub returns-in-Err-clause-ended : goal.returns-in-Err-clause-ended
returns-in-Err-clause-ended c =
    λ d before more so.
    subst (λ (e : ReplayError). IsEnd e (end_in d (before ++ c.args.line.now ∷ more))) (sym c.ended_at.ensures)
    (ends_as c.args.self.now d before c.args.line.now more c.in-Err.error so (c.in-Err.ensures.stepped d (world_after d before) so.world))
