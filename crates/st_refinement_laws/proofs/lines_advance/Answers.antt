-- By the run of mini-steps to which lines lead.
use Rattle.st_protocol.specs.Schedule.{steps}
use Rattle.st_answer_laws.specs.Plain.{plain_of}
use Rattle.st_refinement_laws.proofs.WorldLaws.{are-sites, executed-agree}
use Rattle.st_refinement_laws.proofs.FlatLaws.{lines-lead, leads-inside, leads-outside}
use Rattle.st_refinement_laws.proofs.lines_advance.Goals as goal

pub returns-clause-leads : goal.returns-clause-leads
returns-clause-leads g c = λ d world all few ranges goes honest. lines-lead d few ranges (are-sites d few) world all goes honest

pub returns-clause-among_servers : goal.returns-clause-among_servers
returns-clause-among_servers g c = λ d world all x n few ranges goes honest.
    leads-inside d few ranges (are-sites d few) world (plain_of d (steps d world all)) goes (lines-lead d few ranges (are-sites d few) world all goes honest) x n

pub returns-clause-among_sites : goal.returns-clause-among_sites
returns-clause-among_sites g c = λ d world all n few ranges goes honest.
    leads-outside d few ranges (are-sites d few) world (plain_of d (steps d world all)) goes (lines-lead d few ranges (are-sites d few) world all goes honest) n

pub returns-clause-same : goal.returns-clause-same
returns-clause-same g c = λ d world all n u v few ranges goes honest one other.
    executed-agree d few ranges (are-sites d few) world (steps d world all) goes (lines-lead d few ranges (are-sites d few) world all goes honest) n u v one other
