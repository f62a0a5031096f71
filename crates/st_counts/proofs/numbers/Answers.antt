-- By induction on the bound.
use Rattle.st_counts.proofs.MemberLaws.{length-numbers_below, distinct-numbers_below, has-numbers_below, numbers_below-lt}
use Rattle.st_counts.proofs.numbers.Goals as goal

pub returns-clause-many : goal.returns-clause-many
returns-clause-many c = length-numbers_below

pub returns-clause-distinct : goal.returns-clause-distinct
returns-clause-distinct c = distinct-numbers_below

pub returns-clause-below : goal.returns-clause-below
returns-clause-below c = λ k m. (numbers_below-lt k m, has-numbers_below k m)
