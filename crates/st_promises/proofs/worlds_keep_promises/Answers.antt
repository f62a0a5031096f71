-- Over lines in range.
use Rattle.st_promises.proofs.KeepLaws.{always_keeps}
use Rattle.st_promises.proofs.worlds_keep_promises.Goals as goal

pub returns : goal.returns
returns g c = λ d all few h formats l. always_keeps d few h formats all l
