-- The statement is put first at its number.
use Rattle.std.proofs.Common.{◌≡◌, ◌∙◌, ap, subst}
use Rattle.st_words.specs.declared.statement.Statement.{Statement}
use Rattle.st_words.specs.declared.statement.Statement.TheVariants.{Prepare}
use Rattle.st_protocol.specs.State.{Sealing}
use Rattle.st_state.specs.HereView.{here_of}
use Rattle.st_state.specs.Writes.{PutsFirst}
use Rattle.st_state.proofs.SlotsLaws.{prepare_made}
use Rattle.st_state.proofs.slots.Slots.note_prepare.Goals as goal

pub returns-clause-ok : goal.returns-clause-ok
returns-clause-ok c =
    λ clients serve site value is.
    let here = c.args.here.now in
    let sealing : Statement → Sealing = λ s. record { leaf = c.args.leaf; statement = s } in
    let made : Statement = Prepare site here.view here.local c.args.number value in
    let sealed : c.in_ok-sealing.sealing ≡ sealing made = c.in_ok-sealing.ensures.equal ∙ ap sealing is in
    let put = subst (λ item. PutsFirst here.executed c.args.self.now.prepares c.keep_first.new.ring c.args.number.0 item) sealed c.keep_first.ensures in
    rw is (prepare_made (here_of clients serve here) c.args.self.now c.args.leaf site c.args.number value c.keep_first.new.ring c.requires.above put)
