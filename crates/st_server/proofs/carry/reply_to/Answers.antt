-- The Reply is the one that the definitions name.
use Rattle.std.proofs.Common.{◌∙◌, sym}
use Rattle.st_server.proofs.CarryLaws.{replied_is, reply_none, reply_some}
use Rattle.st_server.proofs.carry.reply_to.Goals as goal

pub returns-then-not-is_replied-clause-reply : goal.returns-then-not-is_replied-clause-reply
returns-then-not-is_replied-clause-reply c =
    λ q stands.
    let u = c.in-Update.update in
    reply_none q c.args.value.now u c.in-Update.is (sym (replied_is c.args.live.now q u stands) ∙ (sym c.is_replied.ensures ∙ c.if-not-is_replied.true))

pub returns-clause-reply : goal.returns-clause-reply
returns-clause-reply c =
    λ q stands.
    let u = c.in-Update.update in
    reply_some q c.args.value.now u c.in_ok-reply.reply c.in-Update.is (sym (replied_is c.args.live.now q u stands) ∙ (sym c.is_replied.ensures ∙ c.if-not-is_replied.false))
    (c.in_ok-reply.ensures.equal q stands)
