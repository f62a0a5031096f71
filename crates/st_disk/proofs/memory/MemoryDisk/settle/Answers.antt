use Rattle.st_disk.proofs.Records.{kept_sync}
use Rattle.st_disk.proofs.memory.MemoryDisk.settle.Goals as goal

pub invariant_of-self-2 : goal.invariant_of-self-2
invariant_of-self-2 c = record {
  kept = kept_sync _ _ _ _ _ _ _ _ _ c.args.self.now.kept c.in_ok-note.ensures.ok.0 c.note.ensures.same c.note.ensures.room c.len-self.ensures;
}
