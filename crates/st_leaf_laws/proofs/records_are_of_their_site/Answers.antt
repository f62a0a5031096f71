use Rattle.st_leaf_laws.proofs.RecordLaws.{of_site}
use Rattle.st_leaf_laws.proofs.records_are_of_their_site.Goals as goal

pub returns : goal.returns
returns g c = of_site
