-- The first part is the first line.
use Rattle.st_input.proofs.FirstLaws.{first_of_more}
use Rattle.st_input.proofs.first.first_line.Goals as goal

pub returns-in-Some-clause-lines : goal.returns-in-Some-clause-lines
returns-in-Some-clause-lines c = rw c.without_return.ensures (first_of_more c.args.text.now c.in-Some.part.now c.in-Some.rest.now c.in-Some.ensures.parts)
