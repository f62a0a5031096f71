use Rattle.st_protocol.specs.Questions.{questions}
use Rattle.st_protocol.proofs.PlanLaws.{plan_of_clean}
use Rattle.st_protocol.proofs.worlds.duty_at_a_clean_message.Goals as goal

pub returns : goal.returns
returns g c = λ read pen seat records heard wire m clean. plan_of_clean read pen (questions seat records heard) wire m clean
