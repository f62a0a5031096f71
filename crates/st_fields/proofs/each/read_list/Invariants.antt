-- What was read, and then what is read from here, is what is read.
use Rattle.std.proofs.Common.{◌≡◌, ◌-◌}
use Rattle.st_fields.specs.Reading.{list_at}
use Rattle.st_fields.proofs.Loop.{with_front}
use Rattle.st_fields.proofs.each.read_list.Given as goal

abbrev pub invariant-loop : goal.invariant-loop
invariant-loop g l = with_front l.elements.items (list_at g.R.ReadsEach.reads g.R.ReadsEach.after (l.count - l.counter) l.reader l.rest) ≡ list_at g.R.ReadsEach.reads g.R.ReadsEach.after l.count l.fn.reader l.bytes
