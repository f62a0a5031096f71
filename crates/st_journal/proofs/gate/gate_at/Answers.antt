use Rattle.std.proofs.Common.{◌≡◌, ℕ, List, Err, subst}
use Rattle.std.proofs.lemmas.List.{take_rest}
use Rattle.st_journal.specs.Blocks.{body_at}
use Rattle.st_journal.proofs.BlockLaws.{refused}
use Rattle.st_journal.proofs.gate.gate_at.Goals as goal

pub returns-in-Err : goal.returns-in-Err
returns-in-Err c =
    let e = refused c.in-Err.field-0 _ c.in-Err.ensures.gives c.in-Err.ensures.free in
    (c.if-bytes-eq0.false, e.0, subst (λ (l : List ℕ). body_at l ≡ Err e.0) (take_rest c.args.bytes.now 1) e.1)
