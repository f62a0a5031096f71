-- The law of the flat world of the sites.
use Rattle.std.proofs.Common.{inr}
use Rattle.st_agreement.specs.MiniSteps.{first}
use Rattle.st_agreement.proofs.RunLaws.{first-invariant, reached-invariant, run-executed, executed-chosen, chosen-logged, chosen-own}
use Rattle.st_agreement.proofs.agreement.Goals as goal

pub returns-clause-same : goal.returns-clause-same
returns-clause-same c = λ d worlds sites run a b in_a in_b n u v.
    run-executed d first worlds sites (first-invariant d) run a b (inr in_a) (inr in_b) n u v

pub returns-clause-logged : goal.returns-clause-logged
returns-clause-logged c = λ d w n v sites reached executed.
    chosen-logged d w n v sites (executed-chosen d w n v (reached-invariant d w sites reached) executed)

pub returns-clause-own : goal.returns-clause-own
returns-clause-own c = λ d w n v sites reached executed.
    chosen-own d w n v sites (reached-invariant d w sites reached) (executed-chosen d w n v (reached-invariant d w sites reached) executed)
