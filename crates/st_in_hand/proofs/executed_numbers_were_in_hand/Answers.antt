use Rattle.st_in_hand.proofs.ServerLaws.{next_event_executes}
use Rattle.st_in_hand.proofs.executed_numbers_were_in_hand.Goals as goal

pub returns : goal.returns
returns g c = next_event_executes
