-- Each is a law on advances.
use Rattle.st_registers.proofs.AdvancesLaws.{advances-trans, advances-one_value}
use Rattle.st_registers.proofs.RunLaws.{step-advances}
use Rattle.st_registers.proofs.StepLaws.{start-well}
use Rattle.st_registers.proofs.WellLaws.{one-chosen}
use Rattle.st_registers.proofs.laws.advances.Goals as goal

pub returns-clause-start : goal.returns-clause-start
returns-clause-start g c = λ members. start-well members

pub returns-clause-step : goal.returns-clause-step
returns-clause-step g c = λ old new well step. step-advances old new well step

pub returns-clause-transitive : goal.returns-clause-transitive
returns-clause-transitive g c = λ a b d first second. advances-trans a b d first second

pub returns-clause-one_chosen : goal.returns-clause-one_chosen
returns-clause-one_chosen g c = λ t u v well first second. one-chosen t u v well first second

pub returns-clause-one_logged : goal.returns-clause-one_logged
returns-clause-one_logged g c = λ old new u v step early late. advances-one_value old new u v step early late
