-- A server's own log, and then another's.
use Rattle.st_log_laws.proofs.AgreeLaws.{log_grows, agree_later}
use Rattle.st_log_laws.proofs.logs_agree_over_time.Goals as goal

pub returns-clause-grows : goal.returns-clause-grows
returns-clause-grows g c = λ d all more s i. log_grows d all more s i

pub returns-clause-later : goal.returns-clause-later
returns-clause-later g c = λ d all more s i t j few h formats l runs other. agree_later d few h formats all more l s i t j runs other
