-- No greater number yet that is forced.
use Rattle.std.proofs.Common.{◌≡◌, ℕ, false}
use Rattle.st_protocol.specs.Step.{some_below}
use Rattle.st_state.specs.HereView.{Serve, here_of}
use Rattle.st_state.specs.ForcedView.{forced_by}
use Rattle.st_assign.specs.Above.{is_forced_over}
use Rattle.st_assign.proofs.above.is_forced_above.Given as goal

abbrev pub invariant-loop-k : goal.invariant-loop-k
invariant-loop-k l = (clients : ℕ) (serve : Serve) → some_below (is_forced_over (here_of clients serve l.here) (forced_by (here_of clients serve l.here) l.forced) l.number) l.k ≡ false
