-- Each slot is full.
use Rattle.std.proofs.Common.{◌∙◌, ap}
use Rattle.st_registers.specs.Slots.{register_in}
use Rattle.st_registers.proofs.SafeLaws.{backed-at}
use Rattle.st_registers.proofs.registers.Registers.register.Goals as goal

pub returns-in-Some-clause-backed : goal.returns-in-Some-clause-backed
returns-in-Some-clause-backed c =
    backed-at c.args.self.now c.args.member c.args.view c.args.number c.register.result
    c.find.ensures.table
    (c.register.ensures ∙ ap (λ o. register_in o c.args.member) c.in-Some.ensures.slot)
