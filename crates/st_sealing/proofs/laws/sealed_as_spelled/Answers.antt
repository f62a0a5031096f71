use Rattle.st_sealing.proofs.RangesLaws as ranges
use Rattle.st_sealing.proofs.laws.sealed_as_spelled.Goals as goal

pub returns : goal.returns
returns c = ranges.sealed_as_spelled
