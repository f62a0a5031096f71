-- At most f of 3f+1 servers are faulty.
use Rattle.std.proofs.Common.{arith}
use Rattle.st_counts.proofs.CountLaws.{count-not, length-filter}
use Rattle.st_agreement.proofs.enough_correct.Goals as goal

pub returns : goal.returns
returns c = λ sites faults servers is_correct has.
    record {
      some = has.some;
      most = λ s exists. omega (arith, has.many s exists, has.few_faulty s exists, count-not (is_correct s) (servers s), length-filter (is_correct s) (servers s));
    }
