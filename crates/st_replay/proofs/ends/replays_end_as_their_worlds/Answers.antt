-- By the end of the lines.
use Rattle.st_replay.proofs.ReplayLaws.{ends_so, goes_so}
use Rattle.st_replay.proofs.ends.replays_end_as_their_worlds.Goals as goal

pub returns-clause-ends : goal.returns-clause-ends
returns-clause-ends c = ends_so

pub returns-clause-goes_on : goal.returns-clause-goes_on
returns-clause-goes_on c = goes_so
