-- By all numbers in turn.
use Rattle.st_registers.specs.Values.{value_eq}
use Rattle.st_registers.proofs.ValueLaws.{value_eq-true, value_eq-refl}
use Rattle.st_flat_laws.proofs.FlatRunLaws.{flat-run, flat-steps}
use Rattle.st_flat_laws.proofs.advances_are_flat_steps.Goals as goal

pub returns-clause-order : goal.returns-clause-order
returns-clause-order c = λ old new numbers top values advances few within. flat-run value_eq value_eq-true value_eq-refl old new advances numbers top values few within

pub returns-clause-steps : goal.returns-clause-steps
returns-clause-steps c = λ old new leads. flat-steps old new leads
