-- What is read is spelled so.
use Rattle.std.proofs.Common.{arith}
use Rattle.st_wire.proofs.WholeMessages.{reading-found}
use Rattle.st_wire.proofs.message.decode.Goals as goal

pub returns-clause-found : goal.returns-clause-found
returns-clause-found c = reading-found c.args.id c.args.bytes.now c.read_named.result (λ i. omega (arith, c.type_inv.bytes i)) c.read_named.ensures
