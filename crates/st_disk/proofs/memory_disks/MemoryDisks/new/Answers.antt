use Rattle.std.proofs.Common.{◌+◌, ◌*◌, arith}
use Rattle.st_disk.proofs.Places.{new_count, few_have_places}
use Rattle.st_disk.proofs.memory_disks.MemoryDisks.new.Goals as goal

pub returns-clause-counts : goal.returns-clause-counts
returns-clause-counts c who has = new_count who (few_have_places who c.args.sites (3 * c.args.f + 1) c.requires.sites (omega arith) has)
