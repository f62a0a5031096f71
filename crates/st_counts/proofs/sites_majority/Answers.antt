-- Distinct sites that all pass are no more than the sites that pass.
use Rattle.std.proofs.Common.{arith}
use Rattle.st_counts.specs.Counts.{numbers_below}
use Rattle.st_counts.proofs.MemberLaws.{AllOf-at, length-numbers_below, has-numbers_below}
use Rattle.st_counts.proofs.QuorumLaws.{sites-majority}
use Rattle.st_counts.proofs.sites_majority.Goals as goal

pub returns : goal.returns
returns c = λ n p sites many distinct all.
    sites-majority p (numbers_below n) sites distinct (λ s among. has-numbers_below s n (AllOf-at _ sites all s among).0) (omega (arith, length-numbers_below n)) (λ s among. (AllOf-at _ sites all s among).1)
