-- A report covers what its server ever makes in lower views.
use Rattle.st_agreement.proofs.ReportLaws.{bundle-local_union, bundle-global_union}
use Rattle.st_agreement.proofs.unions_of_reports.Goals as goal

pub returns-clause-local : goal.returns-clause-local
returns-clause-local c = bundle-local_union

pub returns-clause-global : goal.returns-clause-global
returns-clause-global c = bundle-global_union
