-- Each is a law on counts.
use Rattle.st_counts.proofs.CountLaws.{found, count-mono, count-disjoint, count-both, count-filter, count_is_count_by}
use Rattle.st_counts.proofs.MemberLaws.{AllOf-at}
use Rattle.st_counts.proofs.counting.Goals as goal

pub returns-clause-found : goal.returns-clause-found
returns-clause-found g c = λ p xs. found p xs

pub returns-clause-mono : goal.returns-clause-mono
returns-clause-mono g c = λ p q xs all. count-mono p q xs (AllOf-at _ xs all)

pub returns-clause-disjoint : goal.returns-clause-disjoint
returns-clause-disjoint g c = λ p q xs all. count-disjoint p q xs (λ x among first second. AllOf-at _ xs all x among (first, second))

pub returns-clause-both : goal.returns-clause-both
returns-clause-both g c = λ p q xs. count-both p q xs

pub returns-clause-filtered : goal.returns-clause-filtered
returns-clause-filtered g c = λ p q xs. count-filter p q xs

pub returns-clause-as_std : goal.returns-clause-as_std
returns-clause-as_std g c = λ p xs. count_is_count_by p xs
