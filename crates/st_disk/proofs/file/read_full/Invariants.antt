use Rattle.std.proofs.Common.{◌≤◌, ◌-◌, length}
use Rattle.st_disk.proofs.file.read_full.Given as goal

abbrev pub invariant-loop-got : goal.invariant-loop-got
invariant-loop-got l = l.got ≤ length l.piece

abbrev pub decreases-loop-got : goal.decreases-loop-got
decreases-loop-got l = length l.piece - l.got
