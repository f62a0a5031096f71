use Rattle.st_in_hand.proofs.HeardLaws.{up_to_date_at_first}
use Rattle.st_in_hand.proofs.EventLaws.{event_executes, event_leaves}
use Rattle.st_in_hand.proofs.servers_stay_up_to_date.Goals as goal

pub returns-clause-first : goal.returns-clause-first
returns-clause-first g c = up_to_date_at_first

pub returns-clause-executes : goal.returns-clause-executes
returns-clause-executes g c = λ read pen seat records heard event up. event_executes seat records heard read pen event up

pub returns-clause-again : goal.returns-clause-again
returns-clause-again g c = λ read pen seat records heard event up. event_leaves seat records heard read pen event up
