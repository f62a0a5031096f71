-- The pair in the oldest place that waits is the first.
use Rattle.std.proofs.Common.{◌≡◌, ◌∙◌, sym, ℕ, ◌-◌, ◌≤◌, length, arith}
use Rattle.st_waiting.specs.declared.waiting.Waiting.{Waiting}
use Rattle.st_waiting.specs.Destinations.{key_of, mark_at, starts_of}
use Rattle.st_waiting.specs.Places.{waiting_from, IsKept}
use Rattle.st_waiting.specs.Undelivered.{pairs_in}
use Rattle.st_waiting.proofs.KeepLaws.{count_most, moved_kept, popped_count, popped_pairs, popped_kept, read_past, past_places}
use Rattle.st_waiting.proofs.waiting.Waiting.pop.Goals as goal

moved : (self : Waiting) (place : ℕ) → place ≤ length self.slots → waiting_from self.marks place self.slots ≡ pairs_in self
    → IsKept self.slots place self.total self.marks self.newest
unfolding pairs_in
moved self place within same = moved_kept self.slots self.head self.total self.marks self.newest self.kept place within same

pub overflow_sub-counted : goal.overflow_sub-counted
overflow_sub-counted c =
    let self : Waiting = c.args.self.now in
    let place : ℕ = c.oldest-place.result in
    let kept = moved self place c.oldest-place.ensures.within c.oldest-place.ensures.same in
    let read = sym c.in-Some.ensures.value in
    rw c.mark_of-mark.ensures.is
    (popped_count self.slots place self.total self.marks self.newest kept c.in-Some.slot.now read (c.oldest-place.ensures.waits c.in-Some.slot.now read) c.mark_of-mark.ensures.within)

pub overflow_sub-self : goal.overflow_sub-self
overflow_sub-self c =
    let self : Waiting = c.args.self.now in
    let place : ℕ = c.oldest-place.result in
    let kept = moved self place c.oldest-place.ensures.within c.oldest-place.ensures.same in
    let read = sym c.in-Some.ensures.value in
    let one = popped_count self.slots place self.total self.marks self.newest kept c.in-Some.slot.now read (c.oldest-place.ensures.waits c.in-Some.slot.now read) c.mark_of-mark.ensures.within in
    let most = count_most self.slots place self.total self.marks self.newest kept (key_of c.in-Some.slot.now.to) c.mark_of-mark.ensures.within in
    omega (arith, one, most)

pub invariant_of-self : goal.invariant_of-self
invariant_of-self c =
    let self : Waiting = c.args.self.now in
    let place : ℕ = c.oldest-place.result in
    let kept = moved self place c.oldest-place.ensures.within c.oldest-place.ensures.same in
    let read = sym c.in-Some.ensures.value in
    let sets = rw c.mark_of-mark.ensures.is at c.set_mark.ensures.sets in
    record {
      kept = popped_kept self.slots place self.total self.marks self.newest kept c.in-Some.slot.now c.set_mark.new.marks read
          (c.oldest-place.ensures.waits c.in-Some.slot.now read) c.in-Some.ensures.within sets c.set_mark.ensures.size;
    }

pub returns-in-Some-clause-taken : goal.returns-in-Some-clause-taken
unfolding pairs_in
returns-in-Some-clause-taken c =
    let self : Waiting = c.args.self.now in
    let place : ℕ = c.oldest-place.result in
    let kept = moved self place c.oldest-place.ensures.within c.oldest-place.ensures.same in
    let read = sym c.in-Some.ensures.value in
    let sets = rw c.mark_of-mark.ensures.is at c.set_mark.ensures.sets in
    sym c.oldest-place.ensures.same
    ∙ popped_pairs self.slots place self.total self.marks self.newest kept c.in-Some.slot.now c.set_mark.new.marks ((mark_at self.marks (key_of c.in-Some.slot.now.to)).count - 1) read
    (c.oldest-place.ensures.waits c.in-Some.slot.now read) sets

pub returns-in-None-clause-taken : goal.returns-in-None-clause-taken
unfolding pairs_in
returns-in-None-clause-taken c =
    let self : Waiting = c.args.self.now in
    let place : ℕ = c.oldest-place.result in
    let past = past_places (starts_of self.marks) place self.slots (read_past self.slots place (sym c.in-None.ensures.value)) in
    (sym c.oldest-place.ensures.same ∙ past, past)
