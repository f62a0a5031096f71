-- By the world of these lines.
use Rattle.st_log_laws.proofs.AgreeLaws.{is_reached, is_same, are_fronts, are_handed}
use Rattle.st_log_laws.proofs.worlds_in_range_agree.Goals as goal

pub returns-clause-reached : goal.returns-clause-reached
returns-clause-reached g c = λ d all few h formats l. is_reached d few h formats all l

pub returns-clause-same : goal.returns-clause-same
returns-clause-same g c = λ d all n u v few h formats l one other. is_same d few h formats all l n u v one other

pub returns-clause-fronts : goal.returns-clause-fronts
returns-clause-fronts g c = λ d all s i t j few h formats l runs other. are_fronts d few h formats all l s i t j runs other

pub returns-clause-handed : goal.returns-clause-handed
returns-clause-handed g c = λ d all s i few h formats l. are_handed d few h formats all l s i
