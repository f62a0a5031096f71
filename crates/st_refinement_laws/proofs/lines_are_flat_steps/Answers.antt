-- Both flat worlds advance, and what is proposed in them was said.
use Rattle.st_protocol.specs.Schedule.{steps}
use Rattle.st_answer_laws.specs.Plain.{sites_in, plain_of}
use Rattle.st_refinement_laws.proofs.WorldLaws.{are-sites}
use Rattle.st_refinement_laws.proofs.FlatLaws.{lines-lead, leads-inside, leads-outside}
use Rattle.st_refinement_laws.proofs.FiniteLaws.{inside-run, outside-run}
use Rattle.st_refinement_laws.proofs.lines_are_flat_steps.Goals as goal

pub returns-clause-among_servers : goal.returns-clause-among_servers
returns-clause-among_servers g c = λ d world all x few ranges goes honest.
    inside-run (sites_in d) (plain_of d world) (plain_of d (steps d world all)) x (are-sites d few)
    (λ n. leads-inside d few ranges (are-sites d few) world (plain_of d (steps d world all)) goes (lines-lead d few ranges (are-sites d few) world all goes honest) x n)

pub returns-clause-among_sites : goal.returns-clause-among_sites
returns-clause-among_sites g c = λ d world all few ranges goes honest.
    outside-run (sites_in d) (plain_of d world) (plain_of d (steps d world all)) (are-sites d few)
    (λ n. leads-outside d few ranges (are-sites d few) world (plain_of d (steps d world all)) goes (lines-lead d few ranges (are-sites d few) world all goes honest) n)
