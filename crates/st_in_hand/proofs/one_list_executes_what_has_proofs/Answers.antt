use Rattle.st_in_hand.proofs.ExecutionLaws.{executes_one, executes_two}
use Rattle.st_in_hand.proofs.one_list_executes_what_has_proofs.Goals as goal

pub returns-clause-one : goal.returns-clause-one
returns-clause-one c = executes_one

pub returns-clause-two : goal.returns-clause-two
returns-clause-two c = executes_two
