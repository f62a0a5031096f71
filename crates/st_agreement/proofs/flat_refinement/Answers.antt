-- Tests only grow, and are well by the invariant.
use Rattle.st_agreement.proofs.KeptLaws.{step-inside, step-outside}
use Rattle.st_agreement.proofs.RunLaws.{reached-invariant}
use Rattle.st_agreement.proofs.flat_refinement.Goals as goal

pub returns-clause-among_servers : goal.returns-clause-among_servers
returns-clause-among_servers c = λ d old new sites reached step. step-inside d old new sites (reached-invariant d old sites reached) step

pub returns-clause-among_sites : goal.returns-clause-among_sites
returns-clause-among_sites c = λ d old new sites reached step. step-outside d old new sites (reached-invariant d old sites reached) step
