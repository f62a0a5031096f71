-- The changes, then what is kept, then what goes out.
use Rattle.std.proofs.Common.{subst}
use Rattle.st_seal.specs.Pen.{Pen}
use Rattle.st_tables.specs.Entries.{entry}
use Rattle.st_protocol.specs.Duty.{Course, carries, carries_changes, keeps_all, emits_all}
use Rattle.st_server.specs.Draw.{Draws}
use Rattle.st_sealing.specs.Sealing.{pen_by}
use Rattle.st_server.proofs.draft.Draft.carry.Goals as goal

pub returns-clause-draws : goal.returns-clause-draws
unfolding carries
returns-clause-draws g c =
    λ way draws.
    let made = entry c.args.replies.now in
    let pen = g.S.Sealer.pen c.args.sealer.now in
    let step = c.args.step.now in
    let changed = carries_changes (pen_by pen c.args.id) way step.changes in
    let kept = c.in_ok-keep_all.ensures.draws made changed (c.in_ok-carry_changes.ensures.draws way draws) in
    let sent = subst (λ (k : Pen). (w : Course) → Draws made c.keep_all.new.self w → Draws made c.emit_all.new.self (emits_all (pen_by k c.args.id) w step.out)) c.carry_changes.ensures.pen c.in_ok-emit_all.ensures.draws in
    sent (keeps_all changed step.heard) kept
