-- Taken out of the list one by one.
use Rattle.st_counts.proofs.MemberLaws.{AllOf-at, distinct-le-count}
use Rattle.st_counts.proofs.distinct_elements.Goals as goal

pub returns : goal.returns
returns g c = λ p chosen xs distinct all.
    distinct-le-count p chosen xs distinct (λ x among. (AllOf-at _ chosen all x among).0) (λ x among. (AllOf-at _ chosen all x among).1)
