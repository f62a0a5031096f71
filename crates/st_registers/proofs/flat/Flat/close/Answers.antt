-- One register is closed, which is a flat step.
use Rattle.std.proofs.Common.{ℕ, Bool, ◌==◌, ◌&&◌, refl, sym, ◌∙◌}
use Rattle.st_registers.specs.FlatWorld.{FlatWorld, tests_of}
use Rattle.st_registers.specs.Steps.{Closes}
use Rattle.st_registers.proofs.FlatLaws.{close-step, sound-after, written-not_unwritten}
use Rattle.st_registers.proofs.StepLaws.{closes-advances}
use Rattle.st_registers.proofs.flat.Flat.close.Goals as goal

pub returns-then-not-is_unwritten-clause-answer : goal.returns-then-not-is_unwritten-clause-answer
returns-then-not-is_unwritten-clause-answer c =
    let world : FlatWorld = record { table = c.self.inside.registers; log = c.self.inside.log } in
    rw (← c.self.view_is)
    (written-not_unwritten world c.args.member c.args.view c.args.number c.register.result c.register.ensures.value c.register.ensures.backed
    (λ same. let yes = c.is_unwritten.ensures.1 same in cc))

pub invariant_of-self-2 : goal.invariant_of-self-2
invariant_of-self-2 c =
    let old : FlatWorld = record { table = c.self.inside.registers; log = c.self.inside.log } in
    let new : FlatWorld = record { table = c.write.new.self; log = c.self.inside.log } in
    let this : ℕ → ℕ → Bool = λ m h. m == c.args.member && h == c.args.view in
    let step = close-step old new c.args.member c.args.view c.args.number c.in_ok-write.ensures.ok refl
    (sym c.register.ensures.value ∙ c.is_unwritten.ensures.0 c.if-not-is_unwritten.false) in
    sound-after old new c.args.number (λ a b. Closes a b this) c.self.invariant step
    (closes-advances (tests_of old c.args.number) (tests_of new c.args.number) this (c.self.invariant c.args.number))

pub returns-clause-step : goal.returns-clause-step
returns-clause-step c =
    let old : FlatWorld = record { table = c.self.inside.registers; log = c.self.inside.log } in
    let new : FlatWorld = record { table = c.write.new.self; log = c.self.inside.log } in
    rw (← c.self.view_is) (close-step old new c.args.member c.args.view c.args.number c.in_ok-write.ensures.ok refl
    (sym c.register.ensures.value ∙ c.is_unwritten.ensures.0 c.if-not-is_unwritten.false))
