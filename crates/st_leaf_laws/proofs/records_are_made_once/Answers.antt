use Rattle.st_leaf_laws.proofs.RecordLaws.{made_once}
use Rattle.st_leaf_laws.proofs.records_are_made_once.Goals as goal

pub returns : goal.returns
returns g c = made_once
