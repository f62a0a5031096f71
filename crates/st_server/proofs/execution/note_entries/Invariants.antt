-- The values of the changes so far are run.
use Rattle.std.proofs.Common.{take}
use Rattle.st_protocol.specs.State.{Run}
use Rattle.st_protocol.specs.Questions.{executed_in, run_on}
use Rattle.st_live.specs.Service.{list_serve}
use Rattle.st_server.specs.Execution.{Executes}
use Rattle.st_server.proofs.execution.note_entries.Given as goal

abbrev pub invariant-loop-change : goal.invariant-loop-change
invariant-loop-change l = (run : Run) → Executes l.fn.live l.fn.entries run → Executes l.live l.entries (run_on list_serve run (executed_in (take l.change-index l.change-items)))
