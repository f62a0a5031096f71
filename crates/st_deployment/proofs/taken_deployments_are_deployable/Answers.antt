-- Number by number.
use Rattle.st_deployment.proofs.RangeLaws.{taken_deployable, three_deployable}
use Rattle.st_deployment.proofs.taken_deployments_are_deployable.Goals as goal

pub returns-clause-taken : goal.returns-clause-taken
returns-clause-taken c = λ d taken. taken_deployable d taken

pub returns-clause-line : goal.returns-clause-line
returns-clause-line c = λ line built. (built.keeps, built.fits)

pub returns-clause-one : goal.returns-clause-one
returns-clause-one c = three_deployable
