-- So many destinations have nothing noted.
use Rattle.std.proofs.Common.{◌≡◌, replicate}
use Rattle.st_waiting.specs.Destinations.{no_mark}
use Rattle.st_waiting.proofs.marks.new_marks.Given as goal

abbrev pub invariant-loop-key : goal.invariant-loop-key
invariant-loop-key l = l.marks ≡ replicate l._key no_mark
