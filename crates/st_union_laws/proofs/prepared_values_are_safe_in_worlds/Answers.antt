-- By the invariant of the plain world, which is reached.
use Rattle.st_union_laws.proofs.RecordedLaws.{prepare_safe_outside, prepare_safe_inside, prepare_handed}
use Rattle.st_union_laws.proofs.prepared_values_are_safe_in_worlds.Goals as goal

pub returns-clause-outside : goal.returns-clause-outside
returns-clause-outside g c = λ d all s i site view local n v few h formats l runs made. prepare_safe_outside d few h formats all l s i site view local n v runs made

pub returns-clause-inside : goal.returns-clause-inside
returns-clause-inside g c = λ d all s i site view local n v few h formats l runs made. prepare_safe_inside d few h formats all l s i site view local n v runs made

pub returns-clause-handed : goal.returns-clause-handed
returns-clause-handed g c = λ d all s i site view local n v few h formats l runs made. prepare_handed d few h formats all l s i site view local n v runs made
