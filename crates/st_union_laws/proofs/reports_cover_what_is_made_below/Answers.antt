-- By the history of the server's later records, which have the report too.
use Rattle.st_union_laws.proofs.RecordedLaws.{view_reports_cover, local_reports_cover}
use Rattle.st_union_laws.proofs.reports_cover_what_is_made_below.Goals as goal

pub returns-clause-views : goal.returns-clause-views
returns-clause-views g c = λ d all more s i site view index base items of lower n v few h formats l runs reports made below.
    view_reports_cover d few h formats all more l s i site view index base items of lower n v runs reports made below

pub returns-clause-locals : goal.returns-clause-locals
returns-clause-locals g c = λ d all more s i site local index view base items of at lower n v few h formats l runs reports made below.
    local_reports_cover d few h formats all more l s i site local index view base items of at lower n v runs reports made below
