use Rattle.st_flows.proofs.LineLaws.{steps_more, came_from_more}
use Rattle.st_flows.proofs.lines_one_by_one.Goals as goal

pub returns-clause-world : goal.returns-clause-world
returns-clause-world g c = steps_more

pub returns-clause-came : goal.returns-clause-came
returns-clause-came g c = came_from_more
