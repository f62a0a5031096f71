use Rattle.st_flows.proofs.ServeLaws.{serves_plan, serves_faulty}
use Rattle.st_flows.proofs.deliveries_to_servers.Goals as goal

pub returns-clause-planned : goal.returns-clause-planned
returns-clause-planned g c = λ d world site index wire nothing_written plain correct. serves_plan d nothing_written world site index wire plain correct

pub returns-clause-faulty : goal.returns-clause-faulty
returns-clause-faulty g c = serves_faulty
