use Rattle.std.proofs.Common.{◌≡◌, ◌+◌, List, ℕ, ◌++◌, take, drop, ◌∙◌, ap, subst, length, arith}
use Rattle.std.proofs.lemmas.List.{take_at}
use Rattle.st_disk.proofs.Records.{laid}
use Rattle.st_disk.proofs.memory.lay.Goals as goal

pub returns-clause-made : goal.returns-clause-made
returns-clause-made c =
    let at = c.args.at in
    let piece = c.args.piece.now in
    let pasted = subst (λ (l : List ℕ). c.paste.new.bytes ≡ (take at l ++ piece) ++ drop (at + length piece) l) c.deref_mut.ensures.value c.paste.ensures in
    take_at c.paste.new.bytes _ c.fill_to.new.bytes.len (omega (arith, c.paste.auto.bytes, ap length c.deref_mut.ensures.value, c.fill_to.new.bytes.ok))
    ∙ laid at piece c.args.bytes.now.items c.fill_to.new.bytes.items c.paste.new.bytes c.fill_to.ensures.filled pasted
