use Rattle.std.proofs.Common.{All}
use Rattle.std.specs.Prelude.{take}
use Rattle.st_words.specs.Ranges.{FitsItem}
use Rattle.st_made.proofs.widths.items_fit.Given as goal

abbrev pub invariant-loop-item : goal.invariant-loop-item
invariant-loop-item l = All FitsItem (take l.item-index l.item-items)
