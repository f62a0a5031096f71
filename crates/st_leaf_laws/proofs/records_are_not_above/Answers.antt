use Rattle.st_leaf_laws.proofs.RecordLaws.{not_above}
use Rattle.st_leaf_laws.proofs.records_are_not_above.Goals as goal

pub returns : goal.returns
returns g c = not_above
