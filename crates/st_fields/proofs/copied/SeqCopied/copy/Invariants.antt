-- The elements so far stand in the copy.
use Rattle.std.proofs.Common.{◌≡◌, take}
use Rattle.st_fields.proofs.copied.SeqCopied.copy.Given as goal

abbrev pub invariant-loop-element : goal.invariant-loop-element
invariant-loop-element g l = l.copy ≡ take l.element-index l.element-items
