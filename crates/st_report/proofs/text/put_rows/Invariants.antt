-- The lines of the rows so far stand after what was there.
use Rattle.std.proofs.Common.{◌≡◌, ◌++◌, take, string_bytes}
use Rattle.std.specs.List.{flat_map}
use Rattle.st_report.proofs.text.put_rows.Given as goal

abbrev pub invariant-loop-row : goal.invariant-loop-row
invariant-loop-row g l = string_bytes l.out ≡ string_bytes l.fn.out ++ flat_map g.T.Printed.text (take l.row-index l.rows)
