-- The item is put where it is the higher.
use Rattle.std.proofs.Common.{◌≡◌, ◌∙◌, ap, sym, subst, Some}
use Rattle.st_words.specs.declared.statement.Statement.TheVariants.{Proposal}
use Rattle.st_protocol.specs.Keeping.{higher}
use Rattle.st_protocol.specs.State.{Backed, backed_view, backed_local}
use Rattle.st_tables.specs.Window.{kept}
use Rattle.st_state.specs.HereView.{here_of}
use Rattle.st_state.specs.Writes.{Puts}
use Rattle.st_state.specs.SlotsView.{backed_by}
use Rattle.st_state.proofs.SlotsLaws.{accepted_noted}
use Rattle.st_state.proofs.slots.Slots.note_accepted.Goals as goal

pub returns-in-Some-clause-ok : goal.returns-in-Some-clause-ok
returns-in-Some-clause-ok c =
    λ clients serve site view local value is.
    let here = c.args.here.now in
    let item : Backed = record { view = view.0; local = local.0; value = value; quorum = c.args.quorum.now } in
    let some : Some c.in-Some.backed ≡ Some item = sym c.in-Some.is ∙ (c.in_ok-backed.ensures.backed ∙ ap (λ s. backed_by s c.args.quorum.now) is) in
    let same : c.in-Some.backed ≡ item = let e = some in cc in
    let put = subst (λ x. Puts here.executed c.args.self.now.accepted c.keep_higher.new.ring c.args.number.0 (higher backed_view backed_local (kept here.executed c.args.self.now.accepted c.args.number.0) (Some x))) same c.keep_higher.ensures in
    rw is (accepted_noted (here_of clients serve here) c.args.self.now site view local c.args.number value c.args.quorum.now c.keep_higher.new.ring c.requires.above put)
