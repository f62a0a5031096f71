-- The pairs of a message's places are counted one by one.
use Rattle.std.proofs.Common.{◌≡◌, ◌∙◌, ap, sym, ℕ, ◌+◌, false, List, arith}
use Rattle.std.specs.Prelude.{◌&&◌}
use Rattle.std.proofs.lemmas.Bool.{and_left, and_right}
use Rattle.st_schedule.specs.declared.line.Dest.{Dest}
use Rattle.st_protocol.specs.World as model
use Rattle.st_protocol.specs.Schedule.{is_pair}
use Rattle.st_waiting.specs.declared.slot.Slot.{Slot}
use Rattle.st_waiting.specs.declared.waiting.Waiting.{Waiting}
use Rattle.st_waiting.specs.Destinations.{starts_of}
use Rattle.st_waiting.specs.Passing.{passing}
use Rattle.st_waiting.specs.Places.{pair_in, waits}
use Rattle.st_waiting.specs.Undelivered.{pairs_in}
use Rattle.st_waiting.proofs.KeepLaws.{read_past, past_places}
use Rattle.st_waiting.proofs.RowLaws.{count_begins, count_one, count_none, count_ends}
use Rattle.st_waiting.proofs.waiting.Waiting.count_of.Goals.{in-Some+then-is_for+then-waits, in-Some+else-is_for, else-is_for-via-then-is_for+else-waits, else-is_for-via-else-is_for, in_default}
use Rattle.st_waiting.proofs.waiting.Waiting.count_of.Goals as goal

pub loop-place-init : goal.loop-place-init
loop-place-init c =
    let self : Waiting = c.args.self.now in
    let before = rw c.as_slice.ensures at c.bounds-low.ensures.before in
    let within = rw c.as_slice.ensures at c.bounds-low.ensures.within in
    let begins = count_begins (starts_of self.marks) c.args.message c.args.to c.bounds-low.result.0 self.head c.max-first.result self.slots c.max-first.ensures
    (omega (arith, within, c.bounds-low.ensures.order)) before in
    (omega (arith, begins), omega arith)

pub loop-place-preserved : goal.loop-place-preserved
loop-place-preserved c =
    let self : Waiting = c.args.self.now in
    let m : ℕ = c.args.message in
    let to : Dest = c.args.to in
    let place : ℕ = c.loop-place.place in
    let starts : ℕ → ℕ = starts_of self.marks in
    elim c.match-get.branch [
      | in-Some+then-is_for+then-waits w ↦
          let one = count_one starts m to place self.slots w.in-Some.slot.now (sym w.in-Some.ensures.value) (sym w.is_for.ensures ∙ w.if-is_for.true) (sym w.waits.ensures ∙ w.if-waits.true) in
          (omega (arith, one, w.count-is, c.loop-place.invariant.0), omega (arith, w.count-is, c.loop-place.invariant.1))
      | in-Some+else-is_for w ↦
          let s : Slot = w.in-Some.slot.now in
          let no : (is_pair m to (pair_in s) && waits starts place s) ≡ false =
          elim w.else-is_for.branch [
            | else-is_for-via-then-is_for+else-waits v ↦ and_right (is_pair m to (pair_in s)) (waits starts place s) (sym v.waits.ensures ∙ v.if-waits.false)
            | else-is_for-via-else-is_for v ↦ and_left (is_pair m to (pair_in s)) (waits starts place s) (sym w.is_for.ensures ∙ v.if-is_for.false)
          ] in
          let none = count_none starts m to place self.slots s (sym w.in-Some.ensures.value) no in
          (omega (arith, none, w.count-is, c.loop-place.invariant.0), omega (arith, w.count-is, c.loop-place.invariant.1))
      | in_default w ↦
          let past = read_past self.slots place (sym w.in_default.ensures.value) in
          let none = ap (λ (l : List model.Pair). passing (is_pair m to) l)
          (past_places starts (place + 1) self.slots (omega (arith, past)) ∙ sym (past_places starts place self.slots past)) in
          (omega (arith, none, w.count-is, c.loop-place.invariant.0), omega (arith, w.count-is, c.loop-place.invariant.1))
    ]

pub returns : goal.returns
unfolding pairs_in
returns c =
    let self : Waiting = c.args.self.now in
    let after = rw c.as_slice.ensures at c.bounds-low.ensures.after in
    let ends = count_ends (starts_of self.marks) c.args.message c.args.to c.bounds-low.result.1 c.loop-place.place self.slots (omega (arith, c.max-last.ensures, c.loop-place-test.false)) after in
    omega (arith, ends, c.loop-place.invariant.0)
