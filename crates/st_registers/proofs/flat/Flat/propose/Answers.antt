-- The value that stands is safe, since the world is sound; a new one is a flat step.
use Rattle.std.proofs.Common.{◌≡◌, Some, sym, ◌∙◌, ap, refl, inr}
use Rattle.st_registers.specs.FlatWorld.{FlatWorld, tests_of}
use Rattle.st_registers.specs.Slots.{proposed_in, slot_at}
use Rattle.st_registers.specs.Steps.{Proposes}
use Rattle.st_registers.proofs.FlatLaws.{not_taken-standing, not_taken-none, taken-from, proposed-from, proposal-step, sound-after}
use Rattle.st_registers.proofs.StepLaws.{proposes-advances}
use Rattle.st_registers.proofs.flat.Flat.propose.Goals as goal

pub returns-then-same-clause-answer : goal.returns-then-same-clause-answer
returns-then-same-clause-answer c =
    let world : FlatWorld = record { table = c.self.inside.registers; log = c.self.inside.log } in
    let standing : proposed_in (slot_at world.table c.args.view c.args.number) ≡ Some c.args.value.now =
    sym c.in-Some.ensures ∙ ap (λ v. Some v) (c.same.ensures.0 c.if-same.true) in
    rw (← c.self.view_is) (
      not_taken-standing world c.args.view c.args.number c.args.value.now standing,
      (c.self.invariant c.args.number).safe c.args.view c.args.value.now (proposed-from world c.args.view c.args.number c.args.value.now standing),
    )

pub returns-in-Some-clause-answer : goal.returns-in-Some-clause-answer
returns-in-Some-clause-answer c =
    let world : FlatWorld = record { table = c.self.inside.registers; log = c.self.inside.log } in
    rw (← c.self.view_is)
    (taken-from world c.args.view c.args.number c.in-Some.standing.now c.args.value.now (sym c.in-Some.ensures)
    (λ same. let yes = c.same.ensures.1 same in cc))

pub returns-clause-answer : goal.returns-clause-answer
returns-clause-answer c =
    let world : FlatWorld = record { table = c.self.inside.registers; log = c.self.inside.log } in
    rw (← c.self.view_is)
    (not_taken-none world c.args.view c.args.number c.args.value.now (sym c.in_default.ensures), c.if-not-is_safe.ensures)

pub invariant_of-self-2 : goal.invariant_of-self-2
invariant_of-self-2 c =
    let old : FlatWorld = record { table = c.self.inside.registers; log = c.self.inside.log } in
    let new : FlatWorld = record { table = c.propose.new.self; log = c.self.inside.log } in
    let step = proposal-step old new c.args.view c.args.number c.args.value.now
    (rw (← c.in_ok-value.ensures.equal) c.in_ok-propose.ensures.ok) refl (sym c.in_default.ensures) c.if-not-is_safe.ensures in
    sound-after old new c.args.number (λ a b. Proposes a b c.args.view c.args.value.now) c.self.invariant step
    (proposes-advances (tests_of old c.args.number) (tests_of new c.args.number) c.args.view c.args.value.now (c.self.invariant c.args.number))

pub returns-clause-step : goal.returns-clause-step
returns-clause-step c =
    let old : FlatWorld = record { table = c.self.inside.registers; log = c.self.inside.log } in
    let new : FlatWorld = record { table = c.propose.new.self; log = c.self.inside.log } in
    let step = proposal-step old new c.args.view c.args.number c.args.value.now
    (rw (← c.in_ok-value.ensures.equal) c.in_ok-propose.ensures.ok) refl (sym c.in_default.ensures) c.if-not-is_safe.ensures in
    rw (← c.self.view_is) (inr step)
