use Rattle.st_ranges.proofs.DutyLaws.{duty_in_range}
use Rattle.st_ranges.proofs.duties_keep_ranges.Goals as goal

pub returns : goal.returns
returns g c = λ read pen seat bodies heard event keeps inside lists m. duty_in_range pen keeps read seat bodies heard event inside lists m
