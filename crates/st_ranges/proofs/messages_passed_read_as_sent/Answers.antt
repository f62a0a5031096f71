use Rattle.st_ranges.proofs.WorldLaws.{passed_reads_same, passed_in_range, one_server_in_range}
use Rattle.st_ranges.proofs.messages_passed_read_as_sent.Goals as goal

pub returns-clause-sent : goal.returns-clause-sent
returns-clause-sent c = passed_reads_same

pub returns-clause-inside : goal.returns-clause-inside
returns-clause-inside c = passed_in_range

pub returns-clause-one : goal.returns-clause-one
returns-clause-one c = one_server_in_range
