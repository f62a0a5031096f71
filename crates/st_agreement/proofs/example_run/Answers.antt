-- Computed, move by move.
use Rattle.st_agreement.proofs.ExampleLaws.{three-sites, example-run, example-among, example-executed}
use Rattle.st_agreement.proofs.example_run.Goals as goal

pub returns-clause-sites : goal.returns-clause-sites
returns-clause-sites c = three-sites

pub returns-clause-run : goal.returns-clause-run
returns-clause-run c = example-run

pub returns-clause-last : goal.returns-clause-last
returns-clause-last c = example-among

pub returns-clause-executed : goal.returns-clause-executed
returns-clause-executed c = example-executed
