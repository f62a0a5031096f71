-- Kind by kind.
use Rattle.st_hss_seal.proofs.EmptyLaws.{no_empty_seal}
use Rattle.st_hss_seal.proofs.laws.no_empty_seal_checks.Goals as goal

pub returns : goal.returns
returns c = λ d who bytes. no_empty_seal d who bytes
