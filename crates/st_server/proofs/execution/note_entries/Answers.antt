-- One change more.
use Rattle.std.proofs.Common.{take}
use Rattle.st_protocol.specs.Questions.{executed_in, run_on}
use Rattle.st_live.specs.Service.{list_serve}
use Rattle.st_server.proofs.ExecutionLaws.{executes_none, executes_next}
use Rattle.st_server.proofs.execution.note_entries.Goals as goal

pub loop-change-init : goal.loop-change-init
loop-change-init c = λ run so. executes_none c.args.live.now c.args.entries.now run so

pub loop-change-preserved : goal.loop-change-preserved
loop-change-preserved c =
    λ run so.
    let xs = c.as_slice-change-items.result.now in
    let i = c.loop-change.change-index in
    executes_next c.note_entry.new.live c.note_entry.new.entries run xs i c.change-item.result c.loop-change-test.true c.change-item.is
    (c.in_ok-note_entry.ensures.executes (run_on list_serve run (executed_in (take i xs))) (c.loop-change.invariant run so))
