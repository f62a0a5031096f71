-- A value that a majority has accepted is put into the log, which is a flat step.
use Rattle.std.proofs.Common.{◌≡◌, ℕ, ◌++◌, ◌∷◌, [], List, sym, ◌∙◌, ap, subst}
use Rattle.st_counts.specs.Counts.{HasMajority}
use Rattle.st_words.specs.declared.value.Value.{Value}
use Rattle.st_registers.specs.declared.ordered.Ordered.{Ordered}
use Rattle.st_registers.specs.FlatWorld.{FlatWorld, tests_of, IsSound}
use Rattle.st_registers.specs.Steps.{At, Orders}
use Rattle.st_registers.proofs.FlatLaws.{majority-accepted, majority-not_accepted, majority-not_proposed, order-again, order-step, sound-after, sound_one_value}
use Rattle.st_registers.proofs.StepLaws.{orders-advances}
use Rattle.st_registers.proofs.flat.Flat.order.Goals as goal

pub returns-in_default-clause-answer : goal.returns-in_default-clause-answer
returns-in_default-clause-answer c =
    let world : FlatWorld = record { table = c.self.inside.registers; log = c.self.inside.log } in
    rw (← c.self.view_is) (majority-not_proposed world c.args.view c.args.number (sym c.in_default.ensures))

pub returns-then-not-has_accepted-clause-answer : goal.returns-then-not-has_accepted-clause-answer
returns-then-not-has_accepted-clause-answer c =
    let world : FlatWorld = record { table = c.self.inside.registers; log = c.self.inside.log } in
    rw (← c.self.view_is)
    (majority-not_accepted world c.args.view c.args.number (λ most. let yes = c.has_accepted.ensures.1 most in cc))

pub returns-then-has_ordered-clause-answer : goal.returns-then-has_ordered-clause-answer
returns-then-has_ordered-clause-answer c =
    let world : FlatWorld = record { table = c.self.inside.registers; log = c.self.inside.log } in
    rw (← c.self.view_is)
    (c.in-Some.value.now, majority-accepted world c.args.view c.args.number c.in-Some.value.now (sym c.in-Some.ensures) (c.has_accepted.ensures.0 c.if-not-has_accepted.false))

pub returns-then-has_ordered-clause-step : goal.returns-then-has_ordered-clause-step
returns-then-has_ordered-clause-step c =
    let world : FlatWorld = record { table = c.self.inside.registers; log = c.self.inside.log } in
    let most = majority-accepted world c.args.view c.args.number c.in-Some.value.now (sym c.in-Some.ensures) (c.has_accepted.ensures.0 c.if-not-has_accepted.false) in
    let logged = rw (← c.self.view_is) at (sym c.if-has_ordered.ensures) in
    rw (← c.self.view_is)
    (c.in-Some.value.now, most, order-again world c.args.number c.in-Some.value.now (c.args.view, most) logged)

-- the step by which the log gets the value that was copied
pushed : (old : FlatWorld) (log : List Ordered) (view number : ℕ) (copy value : Value) → HasMajority (tests_of old number).members (λ m. (tests_of old number).accepted m view value) → copy ≡ value → log ≡ old.log ++ record { number = number; value = copy } ∷ [] → At number (λ a b. Orders a b value) (tests_of old) (tests_of (record old { log = log }))
pushed old log view number copy value most equal push =
    let same : old.log ++ record { number = number; value = value } ∷ [] ≡ log =
    ap (λ (v : Value). old.log ++ record { number = number; value = v } ∷ []) (sym equal) ∙ sym push in
    subst (λ (l : List Ordered). At number (λ a b. Orders a b value) (tests_of old) (tests_of (record old { log = l }))) same (order-step old number value (view, most))

-- and the sound world that it leaves
pushed-sound : (old : FlatWorld) (log : List Ordered) (number : ℕ) (value : Value) → IsSound old → At number (λ a b. Orders a b value) (tests_of old) (tests_of (record old { log = log })) → IsSound (record old { log = log })
pushed-sound old log number value sound step =
    let new : FlatWorld = record old { log = log } in
    sound-after old new number (λ a b. Orders a b value) sound step (orders-advances (tests_of old number) (tests_of new number) value (sound number))

pub invariant_of-self-2 : goal.invariant_of-self-2
invariant_of-self-2 c =
    let old : FlatWorld = record { table = c.self.inside.registers; log = c.self.inside.log } in
    let most = majority-accepted old c.args.view c.args.number c.in-Some.value.now (sym c.in-Some.ensures) (c.has_accepted.ensures.0 c.if-not-has_accepted.false) in
    pushed-sound old c.push.new.self c.args.number c.in-Some.value.now c.self.invariant
    (pushed old c.push.new.self c.args.view c.args.number c.in_ok-value.value c.in-Some.value.now most c.in_ok-value.ensures.equal c.in_ok-push.ensures.ok)

pub returns-clause-step : goal.returns-clause-step
returns-clause-step c =
    let old : FlatWorld = record { table = c.self.inside.registers; log = c.self.inside.log } in
    let most = majority-accepted old c.args.view c.args.number c.in-Some.value.now (sym c.in-Some.ensures) (c.has_accepted.ensures.0 c.if-not-has_accepted.false) in
    rw (← c.self.view_is)
    (c.in-Some.value.now, most, pushed old c.push.new.self c.args.view c.args.number c.in_ok-value.value c.in-Some.value.now most c.in_ok-value.ensures.equal c.in_ok-push.ensures.ok)

pub returns-clause-one_value : goal.returns-clause-one_value
returns-clause-one_value c =
    let old : FlatWorld = record { table = c.self.inside.registers; log = c.self.inside.log } in
    let most = majority-accepted old c.args.view c.args.number c.in-Some.value.now (sym c.in-Some.ensures) (c.has_accepted.ensures.0 c.if-not-has_accepted.false) in
    sound_one_value (record old { log = c.push.new.self })
    (pushed-sound old c.push.new.self c.args.number c.in-Some.value.now c.self.invariant
    (pushed old c.push.new.self c.args.view c.args.number c.in_ok-value.value c.in-Some.value.now most c.in_ok-value.ensures.equal c.in_ok-push.ensures.ok))
