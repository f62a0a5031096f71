-- Correct servers asked.
use Rattle.st_certificate_laws.proofs.AskedLaws.{local_asked, view_asked}
use Rattle.st_certificate_laws.proofs.correct_servers_asked.Goals as goal

pub returns-clause-local : goal.returns-clause-local
returns-clause-local g c = λ d all s i h formats l p. local_asked d h formats all l s i p

pub returns-clause-view : goal.returns-clause-view
returns-clause-view g c = λ d all s i h formats l p. view_asked d h formats all l s i p
