-- The messages so far are handed out.
use Rattle.std.proofs.Common.{take}
use Rattle.st_world.specs.Handing.{IsHanded}
use Rattle.st_world.proofs.world.World.hand_out.Given as goal

abbrev pub invariant-loop-output : goal.invariant-loop-output
invariant-loop-output l = IsHanded l.fn.self l.self (take l.output-index l.output-items)
