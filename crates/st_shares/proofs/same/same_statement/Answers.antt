use Rattle.std.proofs.Common.{◌≡◌}
use Rattle.st_protocol.proofs.SameLaws.{same_statement_by}
use Rattle.st_shares.proofs.same.same_statement.Goals as goal

pub returns : goal.returns
returns c = same_statement_by c.args.a.now c.args.b.now c.same.result c.same.ensures
