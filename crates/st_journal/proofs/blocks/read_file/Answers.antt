use Rattle.std.proofs.Common.{◌∙◌, ◌-◌, ℕ, sym, ap, subst, length, Err}
use Rattle.st_fields.specs.Reading.{Fails, mark_at}
use Rattle.st_journal.specs.Blocks.{mark}
use Rattle.st_journal.proofs.BlockLaws.{mark_is, unmarked}
use Rattle.st_journal.proofs.blocks.read_file.Goals as goal

pub read_blocks-requires-clause-marked : goal.read_blocks-requires-clause-marked
read_blocks-requires-clause-marked c = mark_is c.args.file.now c.in-Ok.rest.now c.in-Ok.ensures.gives

pub returns-in-Err-Refused-clause-fault : goal.returns-in-Err-Refused-clause-fault
returns-in-Err-Refused-clause-fault c =
    let h = c.in-Err-Refused in
    unmarked c.args.file.now h.left c.requires (subst (λ e. Fails e (mark_at mark c.args.file.now)) h.field-0-is h.ensures.gives)
    ∙ ap (λ (n : ℕ). Err n) (ap (λ (n : ℕ). length c.args.file.now - n) (sym h.left-is) ∙ sym c.saturating_sub.ensures)
