use Rattle.st_flows.proofs.FlowLaws.{flows_none, flows_nothing, flows_stuck, flows_next}
use Rattle.st_flows.proofs.flows_one_by_one.Goals as goal

pub returns-clause-none : goal.returns-clause-none
returns-clause-none g c = flows_none

pub returns-clause-nothing : goal.returns-clause-nothing
returns-clause-nothing g c = flows_nothing

pub returns-clause-stuck : goal.returns-clause-stuck
returns-clause-stuck g c = flows_stuck

pub returns-clause-next : goal.returns-clause-next
returns-clause-next g c = flows_next
