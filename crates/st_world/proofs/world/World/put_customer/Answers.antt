-- The client is in its place.
use Rattle.std.proofs.Common.{subst}
use Rattle.st_client.specs.declared.client.Client.{Client}
use Rattle.st_client.specs.Customers.{customer_of}
use Rattle.st_protocol.specs.World.{with_customer}
use Rattle.st_world.specs.Standing.{IsWorld}
use Rattle.st_world.proofs.CustomerLaws.{put_stands}
use Rattle.st_world.proofs.world.World.put_customer.Goals as goal

pub returns-clause-put : goal.returns-clause-put
returns-clause-put c =
    λ d m stands.
    subst (λ (k : Client). IsWorld (record c.args.self.now { customers = c.put.new.self }) d (with_customer m c.args.client.0 (customer_of k))) c.in_ok-customer.ensures.equal
    (put_stands c.args.self.now c.put.new.self d m c.args.client.0 c.in_ok-customer.customer stands c.in_ok-put.ensures.sets)
