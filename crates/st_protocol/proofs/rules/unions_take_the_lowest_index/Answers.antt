-- By what nothing precedes.
use Rattle.st_protocol.proofs.UnionLaws.{lowest_index}
use Rattle.st_protocol.proofs.rules.unions_take_the_lowest_index.Goals as goal

pub returns : goal.returns
returns c = λ before after r n i found e best view local. lowest_index before after r n i found e best view local
