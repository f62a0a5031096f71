-- No share yet with whose statement so many agree.
use Rattle.std.proofs.Common.{◌≡◌, false}
use Rattle.std.specs.Option.{option_copied}
use Rattle.st_protocol.specs.Step.{some_below}
use Rattle.st_state.specs.Writes.{among}
use Rattle.st_shares.specs.Counts.{is_agreed_at}
use Rattle.st_shares.proofs.counting.some_agreed.Given as goal

abbrev pub invariant-loop-key : goal.invariant-loop-key
invariant-loop-key l = some_below (is_agreed_at l.servers l.quorum (among (option_copied l.row))) l.key ≡ false
