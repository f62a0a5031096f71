-- Its time and its result are those of the world's client.
use Rattle.st_replay.proofs.RowLaws.{client_is, client_is_there}
use Rattle.st_replay.proofs.clients.client_row.Goals as goal

pub returns-in_default-clause-row : goal.returns-in_default-clause-row
returns-in_default-clause-row c = λ d m stands below. absurd (client_is_there d m c.args.client.0 below (c.in_default.ensures d m stands))

pub returns-clause-row : goal.returns-clause-row
returns-clause-row c = λ d m stands below. client_is d m c.args.client.0 _ _ _ below (c.in-Some.ensures d m stands) c.in_ok-result.ensures.own
