-- The certificate is put last, or dropped.
use Rattle.std.proofs.Common.{◌≡◌, ◌∙◌, ◌<◌, ap, subst, arith, Some}
use Rattle.st_words.specs.declared.statement.Statement.{Statement}
use Rattle.st_words.specs.declared.statement.Statement.TheVariants.{Accept}
use Rattle.st_protocol.specs.State.{Completed}
use Rattle.st_state.specs.HereView.{here_of}
use Rattle.st_state.specs.Writes.{Puts}
use Rattle.st_state.proofs.OwnLaws.{accept_completed, accept_dropped}
use Rattle.st_state.proofs.own.Own.keep_accept.Goals as goal

pub returns-then-number-here-clause-ok : goal.returns-then-number-here-clause-ok
returns-then-number-here-clause-ok c =
    λ clients serve site value is.
    rw is (accept_dropped (here_of clients serve c.args.here.now) c.args.self.now site c.args.number value c.args.quorum.now (omega (arith, c.if-number-here.true)))

pub returns-clause-ok : goal.returns-clause-ok
returns-clause-ok c =
    λ clients serve site value is.
    let here = c.args.here.now in
    let completed : Statement → Completed = λ s. record { statement = s; quorum = c.args.quorum.now } in
    let said : Statement = Accept site here.view c.args.number value in
    let made : c.in_ok-completed.completed ≡ completed said = c.in_ok-completed.ensures.equal ∙ ap completed is in
    let above : here.executed < c.args.number.0 = omega (arith, c.if-number-here.false) in
    let put = subst (λ item. Puts here.executed c.args.self.now.accepts c.set.new.self c.args.number.0 (Some item)) made (λ k. c.set.ensures here.executed k above c.requires.below) in
    rw is (accept_completed (here_of clients serve here) c.args.self.now site c.args.number value c.args.quorum.now c.set.new.self above put)
