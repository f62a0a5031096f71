-- By what `split_once` answers.
use Rattle.st_input.proofs.FirstLaws.{split_text}
use Rattle.st_input.proofs.first.first_part.Goals as goal

pub returns-clause-parts : goal.returns-clause-parts
returns-clause-parts c = split_text c.args.text.now c.split_once.result c.split_once.ensures.cases
