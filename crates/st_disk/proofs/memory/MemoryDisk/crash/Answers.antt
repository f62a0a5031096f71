use Rattle.std.proofs.Common.{◌∙◌, sym, ap, if◌then◌else◌}
use Rattle.st_disk.specs.Calls.{content}
use Rattle.st_disk.specs.Memory.{seen_of, synced_of}
use Rattle.st_disk.proofs.Records.{seen_bytes}
use Rattle.st_disk.proofs.memory.MemoryDisk.crash.Goals as goal

pub returns-then-kept-clause-file : goal.returns-then-kept-clause-file
returns-then-kept-clause-file c =
    ap (content _) c.begun.ensures.calls ∙ c.begun.ensures.start ∙ sym (seen_bytes c.args.self) ∙ ap (λ b. if b then seen_of c.args.self else synced_of c.args.self) (sym c.if-kept.true)
