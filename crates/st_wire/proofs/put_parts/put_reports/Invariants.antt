-- What was put so far stands last.
use Rattle.std.proofs.Common.{◌≡◌, ◌++◌, take}
use Rattle.std.specs.List.{flat_map}
use Rattle.st_wire.specs.Spelling.{report_spelling}
use Rattle.st_wire.proofs.put_parts.put_reports.Given as goal

abbrev pub invariant-loop-report : goal.invariant-loop-report
invariant-loop-report l = l.out.items ≡ l.fn.out.items ++ flat_map report_spelling (take l.report-index l.reports)
