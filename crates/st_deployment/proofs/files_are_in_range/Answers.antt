-- By the formats of bytes.
use Rattle.st_server.specs.Deployed.{runs_no_code}
use Rattle.st_deployment.proofs.FormatLaws.{line_in_range}
use Rattle.st_deployment.proofs.RangeLaws.{file_in_range, few_faulty}
use Rattle.st_deployment.proofs.files_are_in_range.Goals as goal

pub returns-clause-deployment : goal.returns-clause-deployment
returns-clause-deployment c = λ d serve seal deployable serves seals. file_in_range d deployable serve seal serves seals

pub returns-clause-line : goal.returns-clause-line
returns-clause-line c = λ d serve faulty seal line is. line_in_range d serve faulty seal line is

pub returns-clause-few : goal.returns-clause-few
returns-clause-few c = λ d deployable s exists. few_faulty d deployable s exists
