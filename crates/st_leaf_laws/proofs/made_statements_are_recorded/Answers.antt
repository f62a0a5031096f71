use Rattle.st_leaf_laws.proofs.RecordLaws.{made_recorded, handed_recorded}
use Rattle.st_leaf_laws.proofs.made_statements_are_recorded.Goals as goal

pub returns-clause-entries : goal.returns-clause-entries
returns-clause-entries g c = made_recorded

pub returns-clause-statements : goal.returns-clause-statements
returns-clause-statements g c = handed_recorded
