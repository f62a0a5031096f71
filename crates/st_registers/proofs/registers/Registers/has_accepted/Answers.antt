-- The registers that are accepted are as many as the members that accepted.
use Rattle.std.proofs.Common.{refl, sym}
use Rattle.st_registers.specs.Slots.{is_accepted}
use Rattle.st_registers.proofs.SafeLaws.{majority_by_count, no_majority}
use Rattle.st_registers.proofs.registers.Registers.has_accepted.Goals as goal

pub returns-in-None : goal.returns-in-None
returns-in-None c = no_majority is_accepted c.args.self.now c.args.view c.args.number refl (sym c.in-None.ensures.slot)

pub returns-in-Some : goal.returns-in-Some
returns-in-Some c =
    majority_by_count is_accepted c.args.self.now c.args.view c.args.number c.in-Some.slot.now c.is_majority.result
    c.find.ensures.table
    (sym c.in-Some.ensures.slot)
    (rw (← c.self.view_is) (rw (← c.accepted_count.ensures) c.is_majority.ensures))
