-- Question by question.
use Rattle.st_answer_laws.proofs.RecordLaws.{tells}
use Rattle.st_answer_laws.proofs.answers_tell_of_records.Goals as goal

pub returns : goal.returns
returns c = λ d s seat bodies heard history. tells d s seat bodies heard history
