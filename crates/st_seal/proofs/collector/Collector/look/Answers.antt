-- The seals of a completed slot are a certificate, if they check.
use Rattle.std.proofs.Common.{subst, sym}
use Rattle.st_seal.specs.declared.collector.Added.{Added}
use Rattle.st_seal.specs.Collecting.{slot_of, shares_of, IsCertifying}
use Rattle.st_seal.proofs.CompleteLaws.{certifying}
use Rattle.st_seal.proofs.collector.Collector.look.Goals as goal

pub returns-clause-certificate : goal.returns-clause-certificate
returns-clause-certificate c =
    let slot = slot_of c.args.self.now in
    subst (λ (a : Added). IsCertifying slot c.args.bytes.now a) (sym c.in_ok-added.ensures.answer) (certifying slot.1 slot.0 c.args.bytes.now (shares_of c.args.self.now) c.args.signed.now)
