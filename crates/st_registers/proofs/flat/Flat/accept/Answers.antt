-- One register is accepted, which is a flat step.
use Rattle.std.proofs.Common.{◌<◌, refl, sym, ◌∙◌}
use Rattle.st_registers.specs.FlatWorld.{FlatWorld, tests_of, is_logged}
use Rattle.st_registers.specs.Steps.{Accepts}
use Rattle.st_registers.proofs.FlatLaws.{accept-step, proposed-from, sound-after, unwritten-from, written-not_unwritten}
use Rattle.st_registers.proofs.StepLaws.{accepts-advances}
use Rattle.st_registers.proofs.flat.Flat.accept.Goals as goal

pub returns-then-not-is_unwritten-clause-answer : goal.returns-then-not-is_unwritten-clause-answer
returns-then-not-is_unwritten-clause-answer c =
    let world : FlatWorld = record { table = c.self.inside.registers; log = c.self.inside.log } in
    rw (← c.self.view_is) (
      (c.in-Some.field-0.now, proposed-from world c.args.view c.args.number c.in-Some.field-0.now (sym c.in-Some.ensures)),
      written-not_unwritten world c.args.member c.args.view c.args.number c.register.result c.register.ensures.value c.register.ensures.backed
          (λ same. let yes = c.is_unwritten.ensures.1 same in cc),
    )

pub returns-clause-answer : goal.returns-clause-answer
returns-clause-answer c =
    let world : FlatWorld = record { table = c.self.inside.registers; log = c.self.inside.log } in
    rw (← c.self.view_is) (
      (c.in-Some.field-0.now, proposed-from world c.args.view c.args.number c.in-Some.field-0.now (sym c.in-Some.ensures)),
      unwritten-from world.table c.args.member c.args.view c.args.number (is_logged world.log c.args.number)
          (sym c.register.ensures.value ∙ c.is_unwritten.ensures.0 c.if-not-is_unwritten.false),
    )

pub invariant_of-self-2 : goal.invariant_of-self-2
invariant_of-self-2 c =
    let old : FlatWorld = record { table = c.self.inside.registers; log = c.self.inside.log } in
    let new : FlatWorld = record { table = c.write.new.self; log = c.self.inside.log } in
    let within : c.args.member < old.table.members = rw (← c.self.view_is) at c.requires in
    let step = accept-step old new c.args.member c.args.view c.args.number c.in-Some.field-0.now c.in_ok-write.ensures.ok refl within (sym c.in-Some.ensures)
    (sym c.register.ensures.value ∙ c.is_unwritten.ensures.0 c.if-not-is_unwritten.false) in
    sound-after old new c.args.number (λ a b. Accepts a b c.args.member c.args.view c.in-Some.field-0.now) c.self.invariant step
    (accepts-advances (tests_of old c.args.number) (tests_of new c.args.number) c.args.member c.args.view c.in-Some.field-0.now (c.self.invariant c.args.number))

pub returns-clause-step : goal.returns-clause-step
returns-clause-step c =
    let old : FlatWorld = record { table = c.self.inside.registers; log = c.self.inside.log } in
    let new : FlatWorld = record { table = c.write.new.self; log = c.self.inside.log } in
    let within : c.args.member < old.table.members = rw (← c.self.view_is) at c.requires in
    rw (← c.self.view_is) (
      c.in-Some.field-0.now,
      accept-step old new c.args.member c.args.view c.args.number c.in-Some.field-0.now c.in_ok-write.ensures.ok refl within (sym c.in-Some.ensures)
          (sym c.register.ensures.value ∙ c.is_unwritten.ensures.0 c.if-not-is_unwritten.false),
    )
