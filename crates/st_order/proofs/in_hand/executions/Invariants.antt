-- What is executed so far, and what is to be executed from here on, is all.
use Rattle.std.proofs.Common.{◌≡◌, ℕ, ◌+◌, ◌-◌, ◌++◌}
use Rattle.st_protocol.specs.Ordering.{executions}
use Rattle.st_state.specs.HereView.{Serve, here_of}
use Rattle.st_state.specs.HandView.{hand_of}
use Rattle.st_order.proofs.in_hand.executions.Given as goal

abbrev pub invariant-loop-k : goal.invariant-loop-k
invariant-loop-k l =
    (clients : ℕ) (serve : Serve)
    → executions (here_of clients serve l.here) (hand_of (here_of clients serve l.here) l.hand) 16 (l.here.executed + 1)
    ≡ l.changes ++ executions (here_of clients serve l.here) (hand_of (here_of clients serve l.here) l.hand) (16 - l.k) (l.here.executed + 1 + l.k)
