-- The lines of the rows so far stand after what was there.
use Rattle.std.proofs.Common.{◌≡◌, ◌++◌, drop, string_bytes, ◌+◌}
use Rattle.st_report.specs.Text.{number_lines}
use Rattle.st_report.proofs.text.put_log.Given as goal

abbrev pub invariant-loop-index : goal.invariant-loop-index
invariant-loop-index l = string_bytes l.out ++ number_lines (l.index + 1) (drop l.index l.log) ≡ string_bytes l.fn.out ++ number_lines 1 l.log
