-- The lines so far are taken.
use Rattle.std.proofs.Common.{take}
use Rattle.st_world.specs.Standing.{IsStanding}
use Rattle.st_replay.specs.Lines.{IsReplayed}
use Rattle.st_replay.proofs.lines.replay_lines.Given as goal

abbrev pub invariant-loop-line : goal.invariant-loop-line
invariant-loop-line l = IsReplayed l.replay l.d (take l.line-index l.line-items) × IsStanding l.replay.world
