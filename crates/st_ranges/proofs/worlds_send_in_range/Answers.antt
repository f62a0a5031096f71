use Rattle.st_ranges.proofs.WorldLaws.{sent_encoded, lists_in_range}
use Rattle.st_ranges.proofs.worlds_send_in_range.Goals as goal

pub returns-clause-sent : goal.returns-clause-sent
returns-clause-sent g c = λ d all h l. sent_encoded d h all l

pub returns-clause-lists : goal.returns-clause-lists
returns-clause-lists g c = λ d all site index h l. lists_in_range d h all site index l
