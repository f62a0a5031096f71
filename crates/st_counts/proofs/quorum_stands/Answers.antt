-- At most f servers are faulty, and at most f did not sign.
use Rattle.std.proofs.Common.{arith}
use Rattle.st_counts.proofs.CountLaws.{count-not, length-filter}
use Rattle.st_counts.proofs.MemberLaws.{AllOf-at}
use Rattle.st_counts.proofs.QuorumLaws.{quorum-stands}
use Rattle.st_counts.proofs.quorum_stands.Goals as goal

pub returns-clause-correct : goal.returns-clause-correct
returns-clause-correct g c = λ f is_correct servers many few.
    omega (arith, many, few, count-not is_correct servers, length-filter is_correct servers)

pub returns-clause-stands : goal.returns-clause-stands
returns-clause-stands g c = λ f is_correct did servers signers many signed distinct within honest.
    quorum-stands f is_correct did servers signers distinct (AllOf-at _ signers within) (omega arith) (AllOf-at _ signers honest)
