use Rattle.st_protocol.specs.World.{empty}
use Rattle.st_protocol.proofs.WorldLaws.{world_of_more, dones_more}
use Rattle.st_protocol.proofs.worlds.worlds_of_longer_schedules.Goals as goal

pub returns-clause-world : goal.returns-clause-world
returns-clause-world g c = world_of_more

pub returns-clause-done : goal.returns-clause-done
returns-clause-done g c = λ d before line. dones_more d empty before line
