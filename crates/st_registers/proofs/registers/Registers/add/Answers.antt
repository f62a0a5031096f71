-- A slot is added at the end.
use Rattle.std.proofs.Common.{◌≡◌, rules, length, None, List, ◌++◌, ◌∷◌, [], sym, ap, subst, ◌∙◌}
use Rattle.st_registers.specs.declared.slot.Slot.{Slot}
use Rattle.st_registers.specs.Slots.{Table, Places, IsTable, slot_at, unwritten}
use Rattle.st_registers.proofs.TableLaws.{added-table, added-places}
use Rattle.st_registers.proofs.registers.Registers.add.Goals as goal

pub invariant_of-self-2 : goal.invariant_of-self-2
invariant_of-self-2 c =
    let table : Table = record { members = c.self.inside.members; slots = c.self.inside.slots.items } in
    let none : slot_at table c.args.view c.args.number ≡ None = rw (← c.self.view_is) at c.requires in
    let pushed : c.push.new.self.items ≡ c.self.inside.slots.items ++ unwritten c.self.inside.members c.args.view c.args.number ∷ [] =
    c.in_ok-push.ensures.items ∙ ap (λ s. c.self.inside.slots.items ++ s ∷ []) c.in_ok-slot.ensures.ok in
    subst (λ (slots : List Slot). IsTable (record { members = c.self.inside.members; slots = slots })) (sym pushed)
    (added-table table c.args.view c.args.number c.self.invariant none)

pub returns-clause-ok : goal.returns-clause-ok
returns-clause-ok c =
    let table : Table = record { members = c.self.inside.members; slots = c.self.inside.slots.items } in
    let none : slot_at table c.args.view c.args.number ≡ None = rw (← c.self.view_is) at c.requires in
    let pushed : c.push.new.self.items ≡ c.self.inside.slots.items ++ unwritten c.self.inside.members c.args.view c.args.number ∷ [] =
    c.in_ok-push.ensures.items ∙ ap (λ s. c.self.inside.slots.items ++ s ∷ []) c.in_ok-slot.ensures.ok in
    let last : c.len-place.result ≡ length c.self.inside.slots.items = search rules in
    let places : Places table (record { members = c.self.inside.members; slots = c.push.new.self.items }) c.args.view c.args.number c.len-place.result =
    rw (pushed, last) (added-places table c.args.view c.args.number none) in
    rw (← c.self.view_is) places
