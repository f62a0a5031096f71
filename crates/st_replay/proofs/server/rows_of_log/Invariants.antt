-- A row for each entry so far.
use Rattle.std.proofs.Common.{◌≡◌, [], ◌∷◌}
use Rattle.std.specs.List.{flat_map}
use Rattle.st_message.specs.declared.log.Entry.{Entry}
use Rattle.st_protocol.specs.Report.{log_row}
use Rattle.st_replay.proofs.server.rows_of_log.Given as goal

abbrev pub invariant-loop-entry : goal.invariant-loop-entry
invariant-loop-entry l = l.rows ≡ flat_map (λ (entry : Entry). log_row entry ∷ []) l.yielded
