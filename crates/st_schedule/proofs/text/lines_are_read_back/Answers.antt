-- By the law of printed lines.
use Rattle.st_schedule.proofs.LineLaws.{line_again}
use Rattle.st_schedule.proofs.text.lines_are_read_back.Goals as goal

pub returns : goal.returns
returns c = line_again
