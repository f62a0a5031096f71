-- By the count of slots.
use Rattle.std.proofs.Common.{refl}
use Rattle.st_registers.proofs.SafeLaws.{safe_by_count}
use Rattle.st_registers.proofs.registers.Registers.is_safe.Goals as goal

pub returns : goal.returns
returns c =
    rw c.safe_views.ensures.count
    (safe_by_count c.args.view c.args.number c.args.self.now c.args.value.now c.safe_views.ensures.table _ refl)
