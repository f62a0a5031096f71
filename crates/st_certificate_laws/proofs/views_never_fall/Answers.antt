-- Views never fall.
use Rattle.st_certificate_laws.proofs.RiseLaws.{view_stays, local_stays}
use Rattle.st_certificate_laws.proofs.views_never_fall.Goals as goal

pub returns-clause-view : goal.returns-clause-view
returns-clause-view g c = λ d all more s i. view_stays d all more s i

pub returns-clause-local : goal.returns-clause-local
returns-clause-local g c = λ d all more s i. local_stays d all more s i
