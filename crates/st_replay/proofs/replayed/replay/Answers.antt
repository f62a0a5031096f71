-- By how the lines ended.
use Rattle.std.proofs.Common.{◌∙◌, ap, Err}
use Rattle.std.proofs.lemmas.Result.{err_from_is_err_and}
use Rattle.st_replay.proofs.RowLaws.{replay_stands}
use Rattle.st_replay.proofs.ReplayLaws.{ended_so, reported}
use Rattle.st_replay.proofs.replayed.replay.Goals as goal

pub report-requires : goal.report-requires
report-requires c =
    record { stands = replay_stands c.in_ok-replay.replay c.args.input.now.deployment c.args.input.now.lines c.in_ok-replay.ensures.replayed }

pub returns : goal.returns
returns c = record { replayed = reported c.report.result c.in_ok-replay.replay c.args.input.now c.in_ok-replay.ensures.replayed c.report.ensures.text c.report.ensures.memory }

pub returns-in_err-replay : goal.returns-in_err-replay
returns-in_err-replay c =
    let p = err_from_is_err_and c.from_residual.result c.from_residual.ensures.1 in
    record { replayed = ended_so c.from_residual.result c.in_err-replay.field-0.0 c.args.input.now (p.1 ∙ ap Err p.2) c.in_err-replay.ensures.ended }
