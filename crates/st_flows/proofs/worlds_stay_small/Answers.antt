use Rattle.st_flows.proofs.BoundLaws.{small_world}
use Rattle.st_flows.proofs.worlds_stay_small.Goals as goal

pub returns-clause-sent : goal.returns-clause-sent
returns-clause-sent g c = λ d most all unset few going. (small_world d most few all unset).sent going

pub returns-clause-waiting : goal.returns-clause-waiting
returns-clause-waiting g c = λ d most all unset few. (small_world d most few all unset).waiting
