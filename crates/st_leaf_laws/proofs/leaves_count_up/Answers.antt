use Rattle.st_leaf_laws.proofs.RecordLaws.{counts_up}
use Rattle.st_leaf_laws.proofs.leaves_count_up.Goals as goal

pub returns : goal.returns
returns g c = counts_up
