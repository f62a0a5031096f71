-- Each world of a run advances on those before it.
use Rattle.std.proofs.Common.{inr}
use Rattle.st_counts.specs.Counts.{numbers_below}
use Rattle.st_registers.specs.FlatWorld.{empty}
use Rattle.st_registers.specs.Tests.{start}
use Rattle.st_registers.proofs.FlatLaws.{run-orders_one_value}
use Rattle.st_registers.proofs.RunLaws.{run-one_value}
use Rattle.st_registers.proofs.StepLaws.{start-well}
use Rattle.st_registers.proofs.laws.one_value_per_number.Goals as goal

pub returns-clause-tests : goal.returns-clause-tests
returns-clause-tests g c = λ members worlds run a b in_a in_b.
    run-one_value (λ _. start members) worlds (λ _. start-well members) run a b (inr in_a) (inr in_b)

pub returns-clause-data : goal.returns-clause-data
returns-clause-data g c = λ members worlds run.
    run-orders_one_value (empty members) worlds (λ _. start-well (numbers_below members)) run
