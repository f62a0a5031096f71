-- The certificate of the higher local view stays.
use Rattle.std.proofs.Common.{◌≡◌, ◌∙◌, ◌<◌, ap, subst, arith, Some}
use Rattle.st_words.specs.declared.statement.Statement.{Statement}
use Rattle.st_words.specs.declared.statement.Statement.TheVariants.{Proposal}
use Rattle.st_protocol.specs.State.{Completed}
use Rattle.st_state.specs.HereView.{here_of}
use Rattle.st_state.proofs.OwnLaws.{HigherStays, higher_put, higher_low, proposal_completed}
use Rattle.st_state.proofs.own.Own.keep_proposal.Goals as goal

pub returns-then-number-here-clause-ok : goal.returns-then-number-here-clause-ok
returns-then-number-here-clause-ok c =
    λ clients serve site local value is.
    let here = c.args.here.now in
    rw is (proposal_completed (here_of clients serve here) c.args.self.now site local c.args.number value c.args.quorum.now c.args.self.now.proposals
    (higher_low here.executed c.args.self.now.proposals c.args.number.0 _ (omega (arith, c.if-number-here.true))))

pub returns-clause-ok : goal.returns-clause-ok
returns-clause-ok c =
    λ clients serve site local value is.
    let here = c.args.here.now in
    let completed : Statement → Completed = λ s. record { statement = s; quorum = c.args.quorum.now } in
    let said : Statement = Proposal site here.view local c.args.number value in
    let made : c.in_ok-completed.completed ≡ completed said = c.in_ok-completed.ensures.equal ∙ ap completed is in
    let above : here.executed < c.args.number.0 = omega (arith, c.if-number-here.false) in
    let put = subst (λ item. HigherStays here.executed c.args.self.now.proposals c.keep_higher_local.new.ring c.args.number.0 item) made c.keep_higher_local.ensures in
    rw is (proposal_completed (here_of clients serve here) c.args.self.now site local c.args.number value c.args.quorum.now c.keep_higher_local.new.ring
    (higher_put here.executed c.keep_higher_local.new.ring c.args.self.now.proposals c.args.number.0 (completed said) above put))
