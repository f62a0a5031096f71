-- One value.
use Rattle.st_refinement_laws.proofs.WorldLaws.{are-sites, executed-agree}
use Rattle.st_refinement_laws.proofs.executed_values_agree.Goals as goal

pub returns : goal.returns
returns g c = λ d early late n u v few ranges goes leads one other. executed-agree d few ranges (are-sites d few) early late goes leads n u v one other
