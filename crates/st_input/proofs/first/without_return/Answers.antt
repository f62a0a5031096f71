-- By what `strip_suffix` answers.
use Rattle.std.proofs.Common.{None}
use Rattle.st_input.proofs.FirstLaws.{strips_return}
use Rattle.st_input.proofs.first.without_return.Goals as goal

pub returns-in-None : goal.returns-in-None
returns-in-None c = strips_return c.args.part.now None c.in-None.ensures.cases
