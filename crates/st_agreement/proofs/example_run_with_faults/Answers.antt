-- Computed, move by move.
use Rattle.st_agreement.proofs.ExampleSiteLaws.{has-servers, are-sites, site-run, site-last, site-invariant, site-has_executed, site-executed, site-voices, site-local_bundle, local-items, local-bounded, site-global_bundle, global-items, site-prepare_quorum, site-union_quorum, site-ordered, site-forced, site-free, site-forced_by_sites, site-waiting, site-goes_on}
use Rattle.st_agreement.proofs.example_run_with_faults.Goals as goal

pub returns-clause-servers : goal.returns-clause-servers
returns-clause-servers c = has-servers

pub returns-clause-sites : goal.returns-clause-sites
returns-clause-sites c = are-sites

pub returns-clause-run : goal.returns-clause-run
returns-clause-run c = site-run

pub returns-clause-last : goal.returns-clause-last
returns-clause-last c = site-last

pub returns-clause-invariant : goal.returns-clause-invariant
returns-clause-invariant c = site-invariant

pub returns-clause-executed : goal.returns-clause-executed
returns-clause-executed c = site-has_executed

pub returns-clause-by_two : goal.returns-clause-by_two
returns-clause-by_two c = site-executed

pub returns-clause-voices : goal.returns-clause-voices
returns-clause-voices c = site-voices

pub returns-clause-local_bundle : goal.returns-clause-local_bundle
returns-clause-local_bundle c = site-local_bundle

pub returns-clause-local_union : goal.returns-clause-local_union
returns-clause-local_union c = local-items

pub returns-clause-local_bounded : goal.returns-clause-local_bounded
returns-clause-local_bounded c = local-bounded

pub returns-clause-global_bundle : goal.returns-clause-global_bundle
returns-clause-global_bundle c = site-global_bundle

pub returns-clause-global_union : goal.returns-clause-global_union
returns-clause-global_union c = global-items

pub returns-clause-prepare_quorum : goal.returns-clause-prepare_quorum
returns-clause-prepare_quorum c = site-prepare_quorum

pub returns-clause-union_quorum : goal.returns-clause-union_quorum
returns-clause-union_quorum c = site-union_quorum

pub returns-clause-ordered : goal.returns-clause-ordered
returns-clause-ordered c = site-ordered

pub returns-clause-forced : goal.returns-clause-forced
returns-clause-forced c = site-forced

pub returns-clause-free : goal.returns-clause-free
returns-clause-free c = site-free

pub returns-clause-forced_by_sites : goal.returns-clause-forced_by_sites
returns-clause-forced_by_sites c = site-forced_by_sites

pub returns-clause-waiting : goal.returns-clause-waiting
returns-clause-waiting c = site-waiting

pub returns-clause-goes_on : goal.returns-clause-goes_on
returns-clause-goes_on c = site-goes_on
