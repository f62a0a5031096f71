-- A client that is there, or one that has asked for nothing.
use Rattle.std.proofs.Common.{◌∙◌, ap, sym, refl, None}
use Rattle.st_protocol.specs.World.{fresh_customer}
use Rattle.st_world.specs.Customers.{customer_by, customer_in}
use Rattle.st_world.proofs.AnswerLaws.{client_here, client_nowhere}
use Rattle.st_world.proofs.world.World.client.Goals as goal

pub returns-then-not-has_client : goal.returns-then-not-has_client
returns-then-not-has_client c = λ d m stands. client_nowhere c.args.self.now d m c.args.client.0 stands (sym c.has_client.ensures ∙ c.if-not-has_client.true)

pub returns-in-Some : goal.returns-in-Some
unfolding customer_in
returns-in-Some c =
    λ d m stands.
    client_here c.args.self.now d m c.args.client.0 _ _ _ stands (sym c.has_client.ensures ∙ c.if-not-has_client.false) (ap customer_by c.in-Some.ensures) c.time.ensures c.last_result.ensures

pub returns-in-None : goal.returns-in-None
unfolding customer_in fresh_customer
returns-in-None c =
    λ d m stands.
    client_here c.args.self.now d m c.args.client.0 0 None fresh_customer stands (sym c.has_client.ensures ∙ c.if-not-has_client.false) (ap customer_by c.in-None.ensures) refl refl
