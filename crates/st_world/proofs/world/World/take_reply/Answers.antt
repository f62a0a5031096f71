-- The client takes the Reply.
use Rattle.std.proofs.Common.{◌∙◌, ap, subst}
use Rattle.st_protocol.specs.World.{Customer, Answered, with_customer}
use Rattle.st_client.specs.Replying.{reply_customer}
use Rattle.st_world.specs.Standing.{IsWorld}
use Rattle.st_world.proofs.world.World.take_reply.Goals as goal

pub returns-clause-taken : goal.returns-clause-taken
returns-clause-taken c =
    λ d m stands.
    let client = c.args.client.0 in
    let was = c.in_ok-customer.ensures.equal ∙ stands.customers client in
    let a : Answered = record { number = c.args.number.0; result = c.args.replied.now } in
    subst (λ (k : Customer). IsWorld c.put_customer.new.self d (with_customer m client k))
    (c.in_ok-outcome.ensures.customer ∙ ap (λ (k : Customer). reply_customer 0 k c.args.server.site c.args.server.index c.args.time a) was)
    (c.in_ok-put_customer.ensures.put d m stands)
