-- One change more is carried out.
use Rattle.std.proofs.Common.{◌∙◌, ap, sym, subst, ◌+◌, ◌∷◌, ◌++◌, [], List, take, drop}
use Rattle.st_seal.specs.Pen.{Pen}
use Rattle.st_message.specs.declared.change.Change.{Change}
use Rattle.st_tables.specs.Entries.{entry}
use Rattle.st_protocol.specs.Duty.{Course, carries_change}
use Rattle.st_server.specs.Draw.{Draws}
use Rattle.st_sealing.specs.Sealing.{pen_by}
use Rattle.st_server.specs.Carried.{IsCarried}
use Rattle.st_server.proofs.LoopLaws.{taken_next, dropped_next, carried_more}
use Rattle.st_server.proofs.draft.Draft.carry_changes.Goals as goal

pub loop-change-preserved : goal.loop-change-preserved
loop-change-preserved g c =
    let xs = c.as_slice-change-items.result.now in
    let i = c.loop-change.change-index in
    let x = c.change-item.result in
    let same = c.in_ok-change.ensures.equal in
    let done = c.in_ok-carry_change.ensures in
    let made = entry c.args.replies.now in
    let pen = pen_by (g.S.Sealer.pen c.args.sealer.now) c.args.id in
    let pen_same = c.loop-change.invariant.1 in
    let at = subst (IsCarried made pen c.args.self.now c.loop-change.self (take i xs)) (dropped_next xs i x c.loop-change-test.true c.change-item.is ∙ ap (λ (y : Change). y ∷ drop (i + 1) xs) (sym same)) c.loop-change.invariant.0 in
    let draws = subst (λ (k : Pen). (way : Course) → Draws made c.loop-change.self way → Draws made c.carry_change.new.self (carries_change (pen_by k c.args.id) way c.in_ok-change.change)) pen_same done.draws in
    let more = carried_more made pen c.args.self.now c.loop-change.self c.carry_change.new.self (take i xs) c.in_ok-change.change (drop (i + 1) xs) at done.drawn draws (done.ready (drop (i + 1) xs)) done.alike done.capacity in
    (subst (λ (ys : List Change). IsCarried made pen c.args.self.now c.carry_change.new.self ys (drop (i + 1) xs)) (ap (λ (y : Change). take i xs ++ y ∷ []) same ∙ sym (taken_next xs i x c.loop-change-test.true c.change-item.is)) more, done.pen ∙ pen_same)
