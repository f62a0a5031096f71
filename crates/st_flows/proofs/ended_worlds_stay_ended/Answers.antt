use Rattle.st_flows.proofs.EndLaws.{sends_to_ended, hands_out_ended, delivers_ended, flows_ended, goes_ended, step_ended, steps_ended}
use Rattle.st_flows.proofs.ended_worlds_stay_ended.Goals as goal

pub returns-clause-sent : goal.returns-clause-sent
returns-clause-sent g c = sends_to_ended

pub returns-clause-handed : goal.returns-clause-handed
returns-clause-handed g c = hands_out_ended

pub returns-clause-delivered : goal.returns-clause-delivered
returns-clause-delivered g c = delivers_ended

pub returns-clause-flowed : goal.returns-clause-flowed
returns-clause-flowed g c = flows_ended

pub returns-clause-gone : goal.returns-clause-gone
returns-clause-gone g c = goes_ended

pub returns-clause-stepped : goal.returns-clause-stepped
returns-clause-stepped g c = step_ended

pub returns-clause-all_stepped : goal.returns-clause-all_stepped
returns-clause-all_stepped g c = steps_ended
