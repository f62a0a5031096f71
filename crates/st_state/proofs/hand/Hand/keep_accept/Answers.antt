-- The word is put among its number's, or dropped.
use Rattle.std.proofs.Common.{◌≡◌, ◌<◌, subst, sym, arith, Some, None}
use Rattle.st_state.specs.HereView.{here_of}
use Rattle.st_tables.specs.Window.{kept}
use Rattle.st_state.specs.HandView.{Keeps}
use Rattle.st_state.proofs.HandLaws.{accept_kept, accept_dropped, puts_same}
use Rattle.st_state.proofs.hand.Hand.keep_accept.Goals as goal

pub returns-then-number-here-clause-ok : goal.returns-then-number-here-clause-ok
returns-then-number-here-clause-ok c =
    λ clients serve.
    accept_dropped (here_of clients serve c.args.here.now) c.args.self.now c.args.site c.args.view c.args.number c.args.value.now c.args.quorum.now (omega (arith, c.if-number-here.true))

pub returns-in-Some-clause-ok : goal.returns-in-Some-clause-ok
returns-in-Some-clause-ok c =
    λ clients serve.
    let here = c.args.here.now in
    let above : here.executed < c.args.number.0 = omega (arith, c.if-number-here.false) in
    let keeps = rw c.get-words.ensures at c.in_ok-words.ensures.ok in
    accept_kept (here_of clients serve here) c.args.self.now c.args.site c.args.view c.args.number c.args.value.now c.args.quorum.now c.set.new.self (Some c.in-Some.words) above
    (λ k. c.set.ensures here.executed k above c.requires.below)
    (rw c.in-Some.is at keeps)

pub returns-in_default-clause-ok : goal.returns-in_default-clause-ok
returns-in_default-clause-ok c =
    λ clients serve.
    let here = c.args.here.now in
    let above : here.executed < c.args.number.0 = omega (arith, c.if-number-here.false) in
    let keeps = rw c.get-words.ensures at c.in_ok-words.ensures.ok in
    accept_kept (here_of clients serve here) c.args.self.now c.args.site c.args.view c.args.number c.args.value.now c.args.quorum.now c.args.self.now.numbers None above
    (puts_same here.executed c.args.number.0 c.args.self.now.numbers)
    (rw c.in_default.is at keeps)
