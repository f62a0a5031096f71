-- Views are entered by proof.
use Rattle.st_certificate_laws.proofs.EnterLaws.{local_proved, view_proved}
use Rattle.st_certificate_laws.proofs.views_are_entered_by_proof.Goals as goal

pub returns-clause-local : goal.returns-clause-local
returns-clause-local g c = λ d all s i h formats l above. local_proved d h formats all l s i above

pub returns-clause-view : goal.returns-clause-view
returns-clause-view g c = λ d all s i h formats l above. view_proved d h formats all l s i above
