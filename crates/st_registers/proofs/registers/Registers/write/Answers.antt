-- The slot at the place gets the register.
use Rattle.st_registers.specs.Slots.{Table}
use Rattle.st_registers.proofs.TableLaws.{read-at, register-changes, register-sets}
use Rattle.st_registers.proofs.registers.Registers.write.Goals as goal

pub invariant_of-self : goal.invariant_of-self
invariant_of-self c =
    let table : Table = record { members = c.self.inside.members; slots = c.self.inside.slots.items } in
    let places = rw (← c.self.view_is) at c.in_ok-place.ensures.ok in
    let read = read-at table c.args.view c.args.number c.in_ok-place.place c.index_mut.result.now places.is_place c.index_mut.ensures.value in
    rw c.set.ensures
    (register-changes c.args.self.now table c.args.member c.args.view c.args.number c.in_ok-place.place c.index_mut.result.now c.args.register c.self.invariant places read c.requires.within c.requires.backed).table

pub returns-clause-ok : goal.returns-clause-ok
returns-clause-ok c =
    let table : Table = record { members = c.self.inside.members; slots = c.self.inside.slots.items } in
    let places = rw (← c.self.view_is) at c.in_ok-place.ensures.ok in
    let read = read-at table c.args.view c.args.number c.in_ok-place.place c.index_mut.result.now places.is_place c.index_mut.ensures.value in
    rw c.set.ensures
    (register-sets c.args.self.now table c.args.member c.args.view c.args.number c.in_ok-place.place c.index_mut.result.now c.args.register c.self.invariant places read c.requires.within c.requires.backed)
