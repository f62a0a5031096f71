use Rattle.std.proofs.Common.{◌≡◌, List, ℕ, ◌-◌, min, ◌∙◌, sym, subst, length, take, drop}
use Rattle.st_disk.proofs.Records.{seen_bytes}
use Rattle.st_disk.proofs.memory.MemoryDiskDisk.read_at.Goals as goal

pub returns-clause-whole : goal.returns-clause-whole
returns-clause-whole c told =
    subst (λ (file : List ℕ). c.read_from.result ≡ min (length c.read_from.new.piece) (length file - c.args.at)) (c.as_slice.ensures.value ∙ sym (seen_bytes c.args.self.now)) c.read_from.ensures.count

pub returns-clause-given : goal.returns-clause-given
returns-clause-given c told =
    subst (λ (file : List ℕ). take c.read_from.result c.read_from.new.piece ≡ take c.read_from.result (drop c.args.at file)) (c.as_slice.ensures.value ∙ sym (seen_bytes c.args.self.now)) c.read_from.ensures.front
