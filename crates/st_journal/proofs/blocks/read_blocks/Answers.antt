use Rattle.std.proofs.Common.{◌∙◌, sym, ap, Err}
use Rattle.st_journal.proofs.BlockLaws.{read_to_next, read_to_fault, next_shorter}
use Rattle.st_journal.proofs.blocks.read_blocks.Goals as goal

pub loop-bodies-smaller : goal.loop-bodies-smaller
loop-bodies-smaller c = next_shorter c.loop-bodies.rest.now _ c.in-Open.next.now c.loop-bodies.invariant.some c.in-Open.ensures.0 c.in-Open.ensures.1

pub loop-bodies-preserved : goal.loop-bodies-preserved
loop-bodies-preserved c =
    read_to_next c.loop-bodies.bodies _ c.args.file.now c.loop-bodies.rest.now _ c.in-Open.next.now c.loop-bodies.invariant c.in-Open.ensures.0 c.in-Open.ensures.1 c.in_ok-push_body-in-Open.ensures.ok

pub returns-in-Broken-clause-fault : goal.returns-in-Broken-clause-fault
returns-in-Broken-clause-fault c =
    read_to_fault c.loop-bodies.bodies c.args.file.now c.loop-bodies.rest.now c.in-Broken.ensures.1 c.loop-bodies.invariant c.requires.long c.in-Broken.ensures.0 c.in-Broken.ensures.2
    ∙ ap (λ n. Err n) (sym c.saturating_sub-offset.ensures)
