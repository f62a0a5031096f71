-- The count so far.
use Rattle.std.proofs.Common.{◌≡◌, ◌≤◌}
use Rattle.std.specs.Option.{option_copied}
use Rattle.st_protocol.specs.Step.{count_below}
use Rattle.st_state.specs.Writes.{among}
use Rattle.st_shares.specs.Counts.{is_counted}
use Rattle.st_shares.proofs.counting.count_saying.Given as goal

abbrev pub invariant-loop-i : goal.invariant-loop-i
invariant-loop-i l = (l.count ≡ count_below (is_counted l.sure (among (option_copied l.row)) l.statement) l.i) × (l.count ≤ l.i)
