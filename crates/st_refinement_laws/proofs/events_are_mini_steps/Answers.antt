-- Events, restarts, and the world before them.
use Rattle.st_agreement.specs.MiniSteps.{first}
use Rattle.st_answer_laws.specs.Plain.{plain_of}
use Rattle.st_refinement_laws.proofs.RunLaws.{leads-refl}
use Rattle.st_refinement_laws.proofs.WorldLaws.{are-sites, refines-empty, refines-serves, refines-part, refines-restart, leads-reached}
use Rattle.st_refinement_laws.proofs.events_are_mini_steps.Goals as goal

pub returns-clause-first : goal.returns-clause-first
returns-clause-first g c = λ d few ranges. refines-empty d few ranges (are-sites d few)

pub returns-clause-event : goal.returns-clause-event
returns-clause-event g c = λ d world site index event few ranges honest goes. refines-serves d few ranges (are-sites d few) first (leads-refl d first) world site index event honest goes

pub returns-clause-part : goal.returns-clause-part
returns-clause-part g c = λ d world site index m few ranges runs sound goes. refines-part d few ranges (are-sites d few) first (leads-refl d first) world site index m runs sound goes

pub returns-clause-restart : goal.returns-clause-restart
returns-clause-restart g c = λ d world site index kept few ranges runs goes. refines-restart d few ranges (are-sites d few) first (leads-refl d first) world site index kept runs goes

pub returns-clause-reached : goal.returns-clause-reached
returns-clause-reached g c = λ d world few ranges goes. leads-reached d few ranges (are-sites d few) (plain_of d world) goes.leads
