-- Line by line.
use Rattle.st_agreement.specs.MiniSteps.{first}
use Rattle.st_protocol.specs.World.{empty}
use Rattle.st_protocol.specs.Schedule.{world_of}
use Rattle.st_answer_laws.specs.Plain.{plain_of}
use Rattle.st_refinement_laws.proofs.RunLaws.{leads-refl}
use Rattle.st_refinement_laws.proofs.WorldLaws.{are-sites, refines-empty, leads-reached, executed-agree}
use Rattle.st_refinement_laws.proofs.LogLaws.{logs-agree}
use Rattle.st_refinement_laws.proofs.LineLaws.{refines-steps}
use Rattle.st_refinement_laws.proofs.worlds_agree.Goals as goal

pub returns-clause-reached : goal.returns-clause-reached
returns-clause-reached g c = λ d all few ranges honest.
    leads-reached d few ranges (are-sites d few) (plain_of d (world_of d all)) (refines-steps d few ranges (are-sites d few) first (leads-refl d first) empty all honest (refines-empty d few ranges (are-sites d few))).leads

pub returns-clause-refines : goal.returns-clause-refines
returns-clause-refines g c = λ d all few ranges honest. refines-steps d few ranges (are-sites d few) first (leads-refl d first) empty all honest (refines-empty d few ranges (are-sites d few))

pub returns-clause-same : goal.returns-clause-same
returns-clause-same g c = λ d all n u v few ranges honest one other.
    executed-agree d few ranges (are-sites d few) (world_of d all) (world_of d all) (refines-steps d few ranges (are-sites d few) first (leads-refl d first) empty all honest (refines-empty d few ranges (are-sites d few)))
    (leads-refl d (plain_of d (world_of d all))) n u v one other

pub returns-clause-logs : goal.returns-clause-logs
returns-clause-logs g c = λ d all s k s2 k2 i u v few ranges honest runs other one two.
    logs-agree d few ranges (are-sites d few) (world_of d all) s k s2 k2 i u v runs other
    (refines-steps d few ranges (are-sites d few) first (leads-refl d first) empty all honest (refines-empty d few ranges (are-sites d few))) one two
