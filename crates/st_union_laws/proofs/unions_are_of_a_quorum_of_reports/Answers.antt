-- By the bundle from which it was made.
use Rattle.st_union_laws.proofs.UnionLaws.{made_of_reports, standing_of_reports, held_of_reports}
use Rattle.st_union_laws.proofs.unions_are_of_a_quorum_of_reports.Goals as goal

pub returns-clause-made : goal.returns-clause-made
returns-clause-made g c = λ d all s i term t h formats l recorded of. made_of_reports d h formats all l s i term t recorded of

pub returns-clause-stands : goal.returns-clause-stands
returns-clause-stands g c = λ d all s term t few h formats l exists standing of. standing_of_reports d h formats all l few s term t exists standing of

pub returns-clause-held : goal.returns-clause-held
returns-clause-held g c = λ d all s i term t q few h formats l runs holds of. held_of_reports d h formats all l few s i term t q runs holds of
