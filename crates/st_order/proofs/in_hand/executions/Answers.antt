-- The next number is executed, or none is any more.
use Rattle.std.proofs.Common.{◌≡◌, ◌+◌, ◌-◌, Some, None, arith}
use Rattle.st_protocol.specs.Ordering.{in_hand}
use Rattle.st_state.specs.HereView.{here_of}
use Rattle.st_state.specs.HandView.{hand_of}
use Rattle.st_order.proofs.InHandLaws.{executes_next, executes_no_more, executes_all}
use Rattle.st_order.proofs.in_hand.executions.Goals as goal

pub returns-in_default-clause-equal : goal.returns-in_default-clause-equal
returns-in_default-clause-equal c =
    λ clients serve.
    let h = here_of clients serve c.args.here.now in
    let hand = hand_of h c.args.hand.now in
    let none : None ≡ in_hand h hand (h.executed + 1 + c.loop-k.k) = rw c.in_default.is at (c.in_ok-proof.ensures.equal clients serve) in
    executes_no_more h hand _ c.loop-k.changes (16 - c.loop-k.k) (15 - c.loop-k.k) (h.executed + 1 + c.loop-k.k) (c.loop-k.invariant clients serve) (omega arith) none

pub loop-k-preserved : goal.loop-k-preserved
loop-k-preserved c =
    λ clients serve.
    let h = here_of clients serve c.args.here.now in
    let hand = hand_of h c.args.hand.now in
    let n = h.executed + 1 + c.loop-k.k in
    let here : Some c.in-Some.proof ≡ in_hand h hand n = rw c.in-Some.is at (c.in_ok-proof.ensures.equal clients serve) in
    rw c.in_ok-push.ensures.ok
    (executes_next h hand _ c.loop-k.changes (16 - c.loop-k.k) (16 - (c.loop-k.k + 1)) n (h.executed + 1 + (c.loop-k.k + 1)) c.in-Some.proof (c.loop-k.invariant clients serve) (omega arith) (omega arith) here)

pub returns-clause-equal : goal.returns-clause-equal
returns-clause-equal c =
    λ clients serve.
    let h = here_of clients serve c.args.here.now in
    executes_all h (hand_of h c.args.hand.now) _ c.loop-k.changes (16 - c.loop-k.k) (h.executed + 1 + c.loop-k.k) (c.loop-k.invariant clients serve) (omega arith)
