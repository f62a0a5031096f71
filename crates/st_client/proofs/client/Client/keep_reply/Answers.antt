-- Where f+1 of the site's answers are equal, and where fewer are.
use Rattle.std.proofs.Common.{arith}
use Rattle.st_client.proofs.KeepLaws.{has_result, keeps_on}
use Rattle.st_client.proofs.client.Client.keep_reply.Goals as goal

pub returns-in_ok-result-clause-ok : goal.returns-in_ok-result-clause-ok
returns-in_ok-result-clause-ok c =
    let client = c.args.self.now in
    let keeps = rw (c.row.ensures, c.in_ok-kept.ensures.equal) at c.in_ok-row.ensures.kept in
    let count = c.agreeing.ensures.count in
    has_result c.args.f client c.args.server.site c.args.server.index c.args.number c.args.replied.now c.in_ok-result.result c.in_ok-row.row keeps
    (grind (arith, count, c.if-agreeing-f.true)) c.in_ok-result.ensures.equal

pub returns-in_ok-rows-clause-ok : goal.returns-in_ok-rows-clause-ok
returns-in_ok-rows-clause-ok c =
    let client = c.args.self.now in
    let keeps = rw (c.row.ensures, c.in_ok-kept.ensures.equal) at c.in_ok-row.ensures.kept in
    let count = c.agreeing.ensures.count in
    keeps_on c.args.f client c.args.server.site c.args.server.index c.args.number c.args.replied.now c.in_ok-row.row c.in_ok-rows.rows keeps
    (grind (arith, count, c.if-agreeing-f.false)) (rw c.as_ref.ensures.value at c.in_ok-rows.ensures.kept)
