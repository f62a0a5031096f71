-- The row is that of the server's answers.
use Rattle.st_replay.proofs.RowLaws.{row_is}
use Rattle.st_replay.proofs.server.server_row.Goals as goal

pub returns-clause-row : goal.returns-clause-row
returns-clause-row c = λ records heard stands. row_is c.args.server c.in_ok-log.log records heard c.in_ok-log.ensures.rows stands
