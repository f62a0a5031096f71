-- What the unions don't cover is closed.
use Rattle.st_agreement.specs.Sites.{leader}
use Rattle.st_agreement.proofs.GrowLaws.{leader-lt}
use Rattle.st_agreement.proofs.PrepareLaws.{may_stand-inside, may_stand-outside}
use Rattle.st_agreement.proofs.prepared_values_are_safe.Goals as goal

pub returns : goal.returns
returns c = λ d w k g l n v sites inv correct may. (
  may_stand-inside d w k g l n v sites inv correct may,
  may_stand-outside d w (leader d g) k g l n v sites inv (leader-lt d g sites) correct may,
)
