use Rattle.st_protocol.proofs.QuestionLaws.{questions_grow}
use Rattle.st_protocol.proofs.answers.answers_that_grow.Goals as goal

pub returns : goal.returns
returns c = questions_grow
