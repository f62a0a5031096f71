-- By what clients were given.
use Rattle.st_result_laws.proofs.ResultLaws.{result_stands, result_is_one}
use Rattle.st_result_laws.proofs.results_stand_in_logs.Goals as goal

pub returns-clause-stands : goal.returns-clause-stands
returns-clause-stands g c = λ d all client a few h formats l e. result_stands d few h formats all l client a e

pub returns-clause-one : goal.returns-clause-one
returns-clause-one g c = λ d all client a s i entry few h formats l by runs e. result_is_one d few h formats all l client a by s i entry runs e
