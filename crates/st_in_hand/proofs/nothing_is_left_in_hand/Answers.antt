use Rattle.st_in_hand.proofs.ServerLaws.{servers_up_to_date}
use Rattle.st_in_hand.proofs.nothing_is_left_in_hand.Goals as goal

pub returns-clause-next : goal.returns-clause-next
returns-clause-next g c = λ d all site index. (servers_up_to_date d all site index).next

pub returns-clause-beyond : goal.returns-clause-beyond
returns-clause-beyond g c = λ d all site index n above. (servers_up_to_date d all site index).beyond n above
