-- The client that is there, or a new one.
use Rattle.std.proofs.Common.{◌∙◌, ap}
use Rattle.st_client.specs.Customers.{customer_of}
use Rattle.st_world.specs.Customers.{customer_by, customer_in}
use Rattle.st_world.proofs.world.World.customer.Goals as goal

pub returns-in_ok-copy-in-Some-clause-equal : goal.returns-in_ok-copy-in-Some-clause-equal
unfolding customer_in
returns-in_ok-copy-in-Some-clause-equal c = ap customer_of c.in_ok-copy-in-Some.ensures.equal ∙ ap customer_by c.in-Some.ensures

pub returns-in-None-clause-equal : goal.returns-in-None-clause-equal
unfolding customer_in
returns-in-None-clause-equal c = c.new.ensures ∙ ap customer_by c.in-None.ensures
