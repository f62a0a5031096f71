-- One place more is cleared, or stays as it was.
use Rattle.std.proofs.Common.{◌≡◌, ◌∙◌, ap, sym, ℕ, ◌+◌, List, arith}
use Rattle.st_schedule.specs.declared.line.Dest.{Dest}
use Rattle.st_waiting.specs.declared.slot.Slot.{Slot}
use Rattle.st_waiting.proofs.RowLaws.{so_far, clear_begins, clear_next, clear_none, clear_past, clear_ends}
use Rattle.st_waiting.proofs.waiting.clear.Goals.{in-Some+then-is_for, in-Some+else-is_for, in_default}
use Rattle.st_waiting.proofs.waiting.clear.Goals as goal

pub loop-place-init : goal.loop-place-init
loop-place-init c =
    let before = rw c.as_slice.ensures at c.bounds-low.ensures.before in
    clear_begins c.args.message c.args.to c.bounds-low.result.0 c.args.slots.now before

pub loop-place-preserved : goal.loop-place-preserved
loop-place-preserved c =
    let m : ℕ = c.args.message in
    let to : Dest = c.args.to in
    let place : ℕ = c.loop-place.place in
    let old : List Slot = c.args.slots.now in
    elim c.match-get.branch [
      | in-Some+then-is_for w ↦
          w.slots-is ∙ (w.set.ensures ∙ clear_next m to place (place + 1) old c.loop-place.slots w.in-Some.slot.now (omega arith) c.loop-place.invariant (sym w.in-Some.ensures.value) (sym w.is_for.ensures ∙ w.if-is_for.true))
      | in-Some+else-is_for w ↦
          w.slots-is ∙ clear_none m to place (place + 1) old c.loop-place.slots w.in-Some.slot.now (omega arith) c.loop-place.invariant (sym w.in-Some.ensures.value) (sym w.is_for.ensures ∙ w.if-is_for.false)
      | in_default w ↦
          w.slots-is ∙ clear_past m to place (place + 1) old c.loop-place.slots (omega arith) c.loop-place.invariant (sym w.in_default.ensures.value)
    ]

pub returns : goal.returns
returns c =
    let after = rw c.as_slice.ensures at c.bounds-low.ensures.after in
    let at : c.loop-place.place ≡ c.bounds-low.result.1 = omega (arith, c.loop-place-test.false, c.loop-place.auto, c.bounds-low.ensures.order) in
    c.loop-place.invariant
    ∙ (ap (λ (k : ℕ). so_far c.args.message c.args.to k c.args.slots.now) at ∙ clear_ends c.args.message c.args.to c.bounds-low.result.1 c.args.slots.now after)
