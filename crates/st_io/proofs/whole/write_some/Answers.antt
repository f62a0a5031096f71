-- What the sink took are the first bytes, and the others are left.
use Rattle.std.proofs.Common.{take}
use Rattle.st_io.proofs.StreamLaws.{rest_of}
use Rattle.st_io.proofs.whole.write_some.Goals as goal

pub returns-clause-some : goal.returns-clause-some
returns-clause-some g c = record {
  front = take c.in_ok-count.count c.args.bytes.now;
  parts = rest_of c.in_ok-count.count c.args.bytes.now;
  added = c.in_ok-count.ensures.added;
}
