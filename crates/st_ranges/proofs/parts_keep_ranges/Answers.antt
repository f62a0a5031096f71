use Rattle.st_ranges.proofs.DutyLaws.{parts_in_range}
use Rattle.st_ranges.proofs.parts_keep_ranges.Goals as goal

pub returns : goal.returns
returns c = λ pen seat bodies heard m keeps inside lists h. parts_in_range pen keeps seat bodies heard m inside lists h
