-- Nothing is kept.
use Rattle.std.proofs.Common.{ap, sym, List}
use Rattle.st_message.specs.declared.made.MadeSeal.{MadeSeal}
use Rattle.st_made.specs.Keys.{first_leaf}
use Rattle.st_made.proofs.made.Made.new.Goals as goal

pub invariant_of-result : goal.invariant_of-result
unfolding first_leaf
invariant_of-result c = λ who s keeps fits. rw c.new-2.ensures.empty (sym (ap (λ (list : List MadeSeal). first_leaf list who s) c.new.ensures))
