-- So many turns are done.
use Rattle.std.proofs.Common.{◌≤◌}
use Rattle.st_world.specs.Standing.{IsStanding}
use Rattle.st_world.specs.Flows.{AreFlowed}
use Rattle.st_world.proofs.world.World.flow.Given as goal

abbrev pub invariant-loop-turn : goal.invariant-loop-turn
invariant-loop-turn l = AreFlowed l.fn.self l.self l.flow l.turn × IsStanding l.self × (l.flow.pairs ≤ l.turn)
