-- One message more is kept.
use Rattle.std.proofs.Common.{◌∙◌, ap, sym, subst, ◌+◌, ◌∷◌, ◌++◌, [], List, take, drop, arith}
use Rattle.st_message.specs.declared.change.Heard.{Heard}
use Rattle.st_protocol.specs.Duty.{keeps_all}
use Rattle.st_server.specs.Draw.{Draws}
use Rattle.st_server.specs.Carried.{AreKept}
use Rattle.st_server.proofs.LoopLaws.{taken_next, dropped_next, kept_more, taken_all}
use Rattle.st_server.proofs.draft.Draft.keep_all.Goals as goal

pub loop-message-preserved : goal.loop-message-preserved
loop-message-preserved c =
    let xs = c.as_slice-message-items.result.now in
    let i = c.loop-message.message-index in
    let x = c.message-item.result in
    let same = c.in_ok-message.ensures.equal in
    let done = c.in_ok-keep.ensures in
    let at = subst (AreKept c.args.self.now c.loop-message.self (take i xs)) (dropped_next xs i x c.loop-message-test.true c.message-item.is ∙ ap (λ (y : Heard). y ∷ drop (i + 1) xs) (sym same)) c.loop-message.invariant in
    let more = kept_more c.args.self.now c.loop-message.self c.keep.new.self (take i xs) c.in_ok-message.message (drop (i + 1) xs) at done.sound done.drawn done.draws done.here in
    subst (λ (ys : List Heard). AreKept c.args.self.now c.keep.new.self ys (drop (i + 1) xs)) (ap (λ (y : Heard). take i xs ++ y ∷ []) same ∙ sym (taken_next xs i x c.loop-message-test.true c.message-item.is)) more

pub returns-clause-draws : goal.returns-clause-draws
returns-clause-draws c =
    let xs = c.as_slice-message-items.result.now in
    let i = c.loop-message.message-index in
    λ made way draws.
    subst (λ (ys : List Heard). Draws made c.loop-message.self (keeps_all way ys)) (taken_all xs i (omega (arith, c.loop-message-test.false)) ∙ c.as_slice-message-items.ensures)
    (c.loop-message.invariant.draws made way draws)
