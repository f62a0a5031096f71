-- The reports so far are laid out.
use Rattle.std.proofs.Common.{◌≡◌, take}
use Rattle.std.specs.List.{flat_map}
use Rattle.st_wire.specs.Seals.{report_pieces}
use Rattle.st_wire.specs.Layout.{laid}
use Rattle.st_wire.proofs.layout.Layout.reports.Given as goal

abbrev pub invariant-loop-report : goal.invariant-loop-report
invariant-loop-report l = l.self ≡ laid l.fn.self (flat_map (report_pieces l.sites) (take l.report-index l.reports))
