-- A report is that of a world that keeps its promises.
use Rattle.st_run.proofs.AnswerLaws.{fault_promises, input_promises}
use Rattle.st_run.proofs.answer.bytes_answer.Goals as goal

pub returns-in-Ok-clause-promised : goal.returns-in-Ok-clause-promised
returns-in-Ok-clause-promised c =
    input_promises c.replay_answer.result c.args.bytes.now c.in-Ok.input c.in-Ok.ensures.read c.in-Ok.ensures.taken c.in-Ok.ensures.built

pub returns-in-Err-Fault-clause-promised : goal.returns-in-Err-Fault-clause-promised
returns-in-Err-Fault-clause-promised c = fault_promises c.fault_answer.result c.args.bytes.now c.in-Err-Fault.fault c.fault_answer.ensures
