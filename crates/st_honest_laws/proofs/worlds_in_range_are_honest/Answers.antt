use Rattle.st_ranges.specs.Deployments.{LineInRange}
use Rattle.st_ranges.specs.Ranges.{MessageInRange}
use Rattle.st_ranges.proofs.WorldLaws.{WorldInRange, empty_in_range}
use Rattle.st_honest_laws.proofs.HonestWorlds.{sent_honest, heard_honest, records_honest}
use Rattle.st_honest_laws.proofs.RangedLaws.{ReadsInRange, ranged}
use Rattle.st_honest_laws.proofs.worlds_in_range_are_honest.Goals as goal

pub returns-clause-sent : goal.returns-clause-sent
returns-clause-sent g c d all n wire m h l formats e is =
    sent_honest d (WorldInRange d) (ReadsInRange d h) (LineInRange d) MessageInRange formats (ranged d h) all l (empty_in_range d h) n wire m e is

pub returns-clause-heard : goal.returns-clause-heard
returns-clause-heard g c d all site index h l formats =
    heard_honest d (WorldInRange d) (ReadsInRange d h) (LineInRange d) MessageInRange formats (ranged d h) all l (empty_in_range d h) site index

pub returns-clause-recorded : goal.returns-clause-recorded
returns-clause-recorded g c d all site index h l formats =
    records_honest d (WorldInRange d) (ReadsInRange d h) (LineInRange d) MessageInRange formats (ranged d h) all l (empty_in_range d h) site index
