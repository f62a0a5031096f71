use Rattle.std.proofs.Common.{refl, ◌∙◌, ap}
use Rattle.std.specs.List.{flat_map}
use Rattle.std.proofs.lemmas.List.Sums.{fold_push}
use Rattle.std.proofs.lemmas.List.Concat.{flat_map-append}
use Rattle.st_protocol.specs.Keeping.{joined}
use Rattle.st_protocol.specs.Questions.{values_by, executed_in, executed_values, runs, questions}
use Rattle.st_protocol.proofs.GatherLaws.{joined-push}
use Rattle.st_protocol.proofs.answers.log_that_runs.Goals as goal

pub returns-clause-run : goal.returns-clause-run
unfolding questions executed_values
returns-clause-run c = λ seat records heard. refl

pub returns-clause-more : goal.returns-clause-more
returns-clause-more c = λ serve run values value. fold_push (runs serve) run values value

pub returns-clause-body : goal.returns-clause-body
unfolding executed_values executed_in
returns-clause-body c = λ records body. ap (flat_map values_by) (joined-push records body) ∙ flat_map-append values_by (joined records) body
