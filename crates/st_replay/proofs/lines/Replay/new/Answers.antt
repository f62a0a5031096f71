-- No line yet.
use Rattle.st_protocol.specs.World.{empty}
use Rattle.st_replay.proofs.LineLaws.{replayed_none}
use Rattle.st_replay.proofs.lines.Replay.new.Goals as goal

pub returns-clause-replayed : goal.returns-clause-replayed
returns-clause-replayed c = replayed_none _ c.args.d.now c.in-Ok.ensures.stands c.new-2.ensures

pub returns-clause-stands : goal.returns-clause-stands
returns-clause-stands c = record { deployment = c.args.d.now; model = empty; stands = c.in-Ok.ensures.stands }
