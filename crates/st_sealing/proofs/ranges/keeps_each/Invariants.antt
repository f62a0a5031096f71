-- The items that are left, within the limits that those before them left, say whether all are within theirs.
use Rattle.std.proofs.Common.{◌≡◌, drop}
use Rattle.st_sealing.specs.Sealing.{keeps_each}
use Rattle.st_sealing.proofs.ranges.keeps_each.Given as goal

abbrev pub invariant-loop-item : goal.invariant-loop-item
invariant-loop-item l = keeps_each l.limits (drop l.item-index l.items) ≡ keeps_each l.fn.first l.items
