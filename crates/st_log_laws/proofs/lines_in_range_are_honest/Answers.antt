-- Line by line.
use Rattle.st_log_laws.proofs.HonestLines.{all_lines_honest, later_lines_honest}
use Rattle.st_log_laws.proofs.lines_in_range_are_honest.Goals as goal

pub returns-clause-all : goal.returns-clause-all
returns-clause-all g c = λ d all h formats l. all_lines_honest d h formats all l

pub returns-clause-later : goal.returns-clause-later
returns-clause-later g c = λ d all more h formats l m. later_lines_honest d h formats all more l m
