-- A place is passed whose pair doesn't wait, and past the end there is none.
use Rattle.std.proofs.Common.{◌∙◌, sym, ◌+◌, arith}
use Rattle.st_waiting.specs.declared.waiting.Waiting.{Waiting}
use Rattle.st_waiting.specs.Destinations.{starts_of}
use Rattle.st_waiting.proofs.KeepLaws.{skip_place, read_inside, read_past, past_places}
use Rattle.st_waiting.proofs.waiting.Waiting.oldest.Goals.{in-Some+else-waits, in_default}
use Rattle.st_waiting.proofs.waiting.Waiting.oldest.Goals as goal

pub loop-place-preserved : goal.loop-place-preserved
loop-place-preserved c =
    let self : Waiting = c.args.self.now in
    elim c.match-get.branch [
      | in-Some+else-waits w ↦
          skip_place (starts_of self.marks) c.loop-place.place self.slots w.in-Some.slot.now (sym w.in-Some.ensures.value) (sym w.waits.ensures ∙ w.if-waits.false)
          ∙ c.loop-place.invariant
      | in_default w ↦
          let past = read_past self.slots c.loop-place.place (sym w.in_default.ensures.value) in
          past_places (starts_of self.marks) (c.loop-place.place + 1) self.slots (omega (arith, past))
          ∙ (sym (past_places (starts_of self.marks) c.loop-place.place self.slots past) ∙ c.loop-place.invariant)
    ]

pub returns-clause-waits : goal.returns-clause-waits
returns-clause-waits c = λ s is. absurd (let inside = read_inside c.args.self.now.slots c.len.result s is in omega (arith, inside, c.len.ensures))
