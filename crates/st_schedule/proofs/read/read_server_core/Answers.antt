-- What is read as a core of these kinds is a server's statement that keeps its ranges.
use Rattle.std.proofs.Common.{arith}
use Rattle.std.proofs.lemmas.Result.{IfOk-weaker}
use Rattle.st_fields.specs.Reading.{whole}
use Rattle.st_fields.proofs.Wholes.{found}
use Rattle.st_words.proofs.Cores.{core_field}
use Rattle.st_schedule.specs.Lines.{sealed_kinds}
use Rattle.st_schedule.proofs.KindLaws.{servers_kind}
use Rattle.st_schedule.proofs.read.read_server_core.Goals as goal

pub returns-clause-kept : goal.returns-clause-kept
unfolding whole
returns-clause-kept c =
    IfOk-weaker c.read_whole.result _ _ (λ s h. (h.1.1.0, servers_kind s h.1.0))
    (found (core_field sealed_kinds) c.args.bytes.now c.read_whole.result (λ i. omega (arith, c.type_inv.bytes i)) (c.read_whole.ensures.answers _ c.read_core.ensures))
