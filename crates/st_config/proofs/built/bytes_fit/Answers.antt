-- Elements of a slice of bytes are bytes.
use Rattle.std.proofs.Common.{arith}
use Rattle.st_config.proofs.built.bytes_fit.Goals as goal

pub returns : goal.returns
returns c = λ i. omega (arith, c.type_inv.bytes i)
