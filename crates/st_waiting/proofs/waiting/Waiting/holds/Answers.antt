-- A pair waits where more than none do.
use Rattle.std.proofs.Common.{sym}
use Rattle.st_protocol.specs.Schedule.{is_pair}
use Rattle.st_waiting.specs.Undelivered.{pairs_in}
use Rattle.st_waiting.proofs.PassingLaws.{has_passing}
use Rattle.st_waiting.proofs.waiting.Waiting.holds.Goals as goal

pub returns : goal.returns
returns c = rw c.count_of.ensures (sym (has_passing (is_pair c.args.message c.args.to) (pairs_in c.args.self.now)))
