-- Reading a whole field, at statements.
use Rattle.std.proofs.Common.{arith}
use Rattle.std.proofs.lemmas.Result.{IfOk-weaker}
use Rattle.st_fields.proofs.Wholes.{found, only}
use Rattle.st_words.proofs.Cores.{statement_field}
use Rattle.st_words.proofs.codec.statement.read_statement.Goals as goal

pub returns-clause-found : goal.returns-clause-found
returns-clause-found c = IfOk-weaker c.read_all.result _ _ (λ x h. (h.0, h.1.1.0, h.1.1.1)) (found statement_field c.args.bytes.now c.read_all.result (λ i. omega (arith, c.type_inv.bytes i)) c.read_all.ensures)

pub returns-clause-only : goal.returns-clause-only
returns-clause-only c = λ id s lt keeps fits same. only statement_field c.args.bytes.now c.read_all.result c.read_all.ensures (id, s) (lt, (keeps, fits)) same
