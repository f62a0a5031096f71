use Rattle.st_protocol.proofs.PlanLaws.{passed_reads, passed_reads_known}
use Rattle.st_protocol.proofs.worlds.messages_passed_read_clean.Goals as goal

pub returns-clause-server : goal.returns-clause-server
returns-clause-server c = passed_reads

pub returns-clause-client : goal.returns-clause-client
returns-clause-client c = passed_reads_known
