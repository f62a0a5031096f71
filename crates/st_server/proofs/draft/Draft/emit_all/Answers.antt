-- One output more goes out.
use Rattle.std.proofs.Common.{◌∙◌, ap, sym, subst, ◌∷◌, ◌++◌, [], List, take}
use Rattle.st_seal.specs.Pen.{Pen}
use Rattle.st_message.specs.declared.step.Out.{Out}
use Rattle.st_protocol.specs.Duty.{Course, emits}
use Rattle.st_server.specs.Draw.{Draws}
use Rattle.st_tables.specs.Entries.{entry}
use Rattle.st_sealing.specs.Sealing.{pen_by}
use Rattle.st_server.specs.Carried.{AreEmitted}
use Rattle.st_server.proofs.LoopLaws.{taken_next, emitted_more}
use Rattle.st_server.proofs.draft.Draft.emit_all.Goals as goal

pub loop-out-preserved : goal.loop-out-preserved
loop-out-preserved g c =
    let xs = c.as_slice-out-items.result.now in
    let i = c.loop-out.out-index in
    let x = c.out-item.result in
    let same = c.in_ok-out.ensures.equal in
    let done = c.in_ok-emit.ensures in
    let made = entry c.args.replies.now in
    let pen = pen_by (g.S.Sealer.pen c.args.sealer.now) c.args.id in
    let so = c.loop-out.invariant.0 in
    let pen_same = c.loop-out.invariant.1 in
    let draws = subst (λ (k : Pen). (way : Course) → Draws made c.loop-out.self way → Draws made c.emit.new.self (emits (pen_by k c.args.id) way c.in_ok-out.out)) pen_same done.draws in
    let more = emitted_more made pen c.args.self.now c.loop-out.self c.emit.new.self (take i xs) c.in_ok-out.out so done.drawn draws done.live in
    (subst (λ (ys : List Out). AreEmitted made pen c.args.self.now c.emit.new.self ys) (ap (λ (y : Out). take i xs ++ y ∷ []) same ∙ sym (taken_next xs i x c.loop-out-test.true c.out-item.is)) more, done.pen ∙ pen_same)
