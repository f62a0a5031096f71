-- The seals of the keys so far.
use Rattle.std.proofs.Common.{◌≡◌}
use Rattle.std.specs.Option.{option_copied}
use Rattle.st_protocol.specs.Step.{with_share, signed_at, all_below}
use Rattle.st_state.specs.Writes.{among}
use Rattle.st_shares.proofs.quorums.signed_below.Given as goal

abbrev pub invariant-loop-key : goal.invariant-loop-key
invariant-loop-key l = l.quorum ≡ all_below (signed_at l.statement (with_share (among (option_copied l.row)) l.statement l.signed)) l.key
