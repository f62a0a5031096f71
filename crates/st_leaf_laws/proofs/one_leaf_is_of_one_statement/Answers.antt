use Rattle.st_leaf_laws.proofs.RecordLaws.{same_entry}
use Rattle.st_leaf_laws.proofs.one_leaf_is_of_one_statement.Goals as goal

pub returns : goal.returns
returns g c = same_entry
