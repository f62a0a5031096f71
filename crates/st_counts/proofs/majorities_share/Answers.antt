-- Together they count more than there are members.
use Rattle.st_counts.proofs.QuorumLaws.{majorities-share}
use Rattle.st_counts.proofs.majorities_share.Goals as goal

pub returns : goal.returns
returns g c = λ members p q. majorities-share members p q
