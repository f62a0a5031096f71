-- Together they count more than there are members.
use Rattle.st_counts.proofs.QuorumLaws.{shared}
use Rattle.st_counts.proofs.tests_share.Goals as goal

pub returns : goal.returns
returns g c = λ f members p q. shared f members p q
