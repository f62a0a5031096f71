use Rattle.st_protocol.proofs.PlainLaws.{plain_serves, lines_plain}
use Rattle.st_protocol.proofs.worlds.worlds_without_stops.Goals as goal

pub returns-clause-plain : goal.returns-clause-plain
returns-clause-plain g c = λ d all nothing_written unset. lines_plain d nothing_written all unset

pub returns-clause-served : goal.returns-clause-served
returns-clause-served g c = λ d world site index event nothing_written plain correct. plain_serves d nothing_written world site index event plain correct
