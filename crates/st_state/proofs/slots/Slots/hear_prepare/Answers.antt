-- The share is put among its slot's, or dropped.
use Rattle.std.proofs.Common.{◌≡◌, ◌∙◌, ◌<◌, ap, subst, arith}
use Rattle.st_words.specs.declared.statement.Statement.{Statement}
use Rattle.st_words.specs.declared.statement.Statement.TheVariants.{Prepare}
use Rattle.st_message.specs.declared.kept.Share.{Share}
use Rattle.st_state.specs.HereView.{here_of}
use Rattle.st_state.specs.Writes.{PutsAmong}
use Rattle.st_state.proofs.SharesLaws.{whole_put, whole_low, prepare_heard}
use Rattle.st_state.proofs.slots.Slots.hear_prepare.Goals as goal

pub returns-then-number-here-clause-ok : goal.returns-then-number-here-clause-ok
returns-then-number-here-clause-ok c =
    λ clients serve site value is.
    let here = c.args.here.now in
    rw is (prepare_heard (here_of clients serve here) c.args.self.now site c.args.number value c.args.signed.now c.args.self.now.prepare_shares
    (whole_low here.executed c.args.self.now.prepare_shares c.args.number.0 c.args.signed.now.index _ (omega (arith, c.if-number-here.true))))

pub returns-clause-ok : goal.returns-clause-ok
returns-clause-ok c =
    λ clients serve site value is.
    let here = c.args.here.now in
    let share : Statement → Share = λ s. record { statement = s; seal = c.args.signed.now.seal } in
    let said : Statement = Prepare site here.view here.local c.args.number value in
    let copied : c.in_ok-share.share ≡ share said = c.in_ok-share.ensures.equal ∙ ap share is in
    let above : here.executed < c.args.number.0 = omega (arith, c.if-number-here.false) in
    let put = subst (λ item. PutsAmong here.executed c.args.self.now.prepare_shares c.keep_among.new.ring c.args.number.0 c.args.signed.now.index item) copied c.in_ok-keep_among.ensures.ok in
    rw is (prepare_heard (here_of clients serve here) c.args.self.now site c.args.number value c.args.signed.now c.keep_among.new.ring
    (whole_put here.executed c.keep_among.new.ring c.args.self.now.prepare_shares c.args.number.0 c.args.signed.now.index (share said) above put))
