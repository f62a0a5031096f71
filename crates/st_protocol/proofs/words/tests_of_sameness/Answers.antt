use Rattle.st_protocol.proofs.SameLaws.{same_value-Decides, same_who-Decides, same_statement-Decides}
use Rattle.st_protocol.proofs.words.tests_of_sameness.Goals as goal

pub returns-clause-value : goal.returns-clause-value
returns-clause-value c = same_value-Decides

pub returns-clause-who : goal.returns-clause-who
returns-clause-who c = same_who-Decides

pub returns-clause-statement : goal.returns-clause-statement
returns-clause-statement c = same_statement-Decides
