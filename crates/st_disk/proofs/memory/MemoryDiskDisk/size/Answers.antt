use Rattle.std.proofs.Common.{◌∙◌, sym, ap, length}
use Rattle.st_disk.proofs.Records.{seen_bytes}
use Rattle.st_disk.proofs.memory.MemoryDiskDisk.size.Goals as goal

pub returns-clause-value : goal.returns-clause-value
returns-clause-value c told = ap length (c.as_slice.ensures.value ∙ sym (seen_bytes c.args.self.now))
