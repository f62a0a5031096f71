-- The slots that note the Prepare are those of the fill that made it.
use Rattle.std.proofs.Common.{◌≡◌, ◌∙◌, ◌+◌, ap, subst}
use Rattle.st_words.specs.declared.statement.Statement.{Statement}
use Rattle.st_message.specs.declared.event.Scope.{Scope}
use Rattle.st_message.specs.declared.step.Form.TheVariants as forms
use Rattle.st_protocol.specs.Words.{a_prepare}
use Rattle.st_protocol.specs.Step.{then, making, to_site}
use Rattle.st_state.specs.HereView.{here_of}
use Rattle.st_state.specs.SlotsView.{slots_of}
use Rattle.st_assign.specs.FillView.{filling_of}
use Rattle.st_assign.proofs.FillLaws.{noted, noted_is_made}
use Rattle.st_assign.proofs.filled.fill_makes.Goals as goal

pub returns-clause-equal : goal.returns-clause-equal
unfolding filling_of
returns-clause-equal c =
    λ clients serve none.
    let h = here_of clients serve c.args.here.now in
    let old = c.args.filling.slots in
    let leaf = c.args.filling.leaf in
    let s : Statement = a_prepare c.args.here.now.me.site h.view h.local c.args.number c.args.value in
    let is : c.in_ok-statement.statement ≡ s = c.in_ok-statement.ensures.equal in
    let noting : slots_of (record h { leaf = h.leaf + 1 }) c.note_prepare.new.self ≡ noted h leaf c.in_ok-statement.statement (slots_of h old) =
    c.in_ok-note_prepare.ensures.ok clients serve (record { 0 = c.args.here.now.me.site }) c.args.value is in
    let slots =
    noted_is_made h old c.note_prepare.new.self leaf c.args.here.now.me.site c.args.number c.args.value c.requires.above none
    (subst (λ (t : Statement). slots_of (record h { leaf = h.leaf + 1 }) c.note_prepare.new.self ≡ noted h leaf t (slots_of h old)) is noting) in
    let step : c.in_ok-step.step ≡ then c.args.filling.step (making leaf s (forms.Assign c.args.seal) (to_site h)) =
    c.in_ok-step.ensures.equal
    ∙ ap (then c.args.filling.step)
    (c.in_ok-made.ensures.equal
    ∙ (ap (λ (t : Statement). making leaf t (forms.Assign c.args.seal) c.to_site.result) is
    ∙ ap (λ (to : Scope). making leaf s (forms.Assign c.args.seal) to) c.to_site.ensures)) in
    λ i. record { step = step i; leaf = leaf + 1; slots = slots i }
