-- By what is read.
use Rattle.st_deployment.specs.Deployed.{world_deployment}
use Rattle.st_deployment.proofs.PlanLaws.{planned_message, planned_nothing}
use Rattle.st_deployment.proofs.bytes_are_planned_as_read.Goals as goal

pub returns-clause-message : goal.returns-clause-message
returns-clause-message c = planned_message

pub returns-clause-none : goal.returns-clause-none
returns-clause-none c = λ d world wire reason read. planned_nothing (world_deployment d) world 0 0 wire reason read
