use Rattle.st_protocol.proofs.DropLaws.{questions_cut, made_drops_nothing, prepared_drops_nothing, accepted_drops_nothing, union_drops_nothing}
use Rattle.st_protocol.proofs.answers.answers_that_drop_nothing.Goals as goal

pub returns-clause-again : goal.returns-clause-again
returns-clause-again c = questions_cut

pub returns-clause-made : goal.returns-clause-made
returns-clause-made c = made_drops_nothing

pub returns-clause-prepared : goal.returns-clause-prepared
returns-clause-prepared c = prepared_drops_nothing

pub returns-clause-accepted : goal.returns-clause-accepted
returns-clause-accepted c = accepted_drops_nothing

pub returns-clause-union : goal.returns-clause-union
returns-clause-union c = union_drops_nothing
