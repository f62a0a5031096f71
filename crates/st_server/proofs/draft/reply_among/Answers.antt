-- One change more.
use Rattle.std.proofs.Common.{◌∙◌, ap, sym, take, Option, ℕ}
use Rattle.st_protocol.specs.Keeping.{or_else}
use Rattle.st_server.specs.Replying.{reply_leaf_in}
use Rattle.st_server.proofs.FirstLaws.{reply_leaf_more, take_item}
use Rattle.st_server.proofs.draft.reply_among.Goals as goal

pub loop-change-preserved : goal.loop-change-preserved
loop-change-preserved c =
    let n = c.args.number.0 in
    let xs = c.args.changes.now in
    let i = c.loop-change.change-index in
    c.first_of_two-leaf.ensures
    ∙ (ap (λ (x : Option ℕ). or_else x c.reply_in.result) c.loop-change.invariant
    ∙ (ap (or_else (reply_leaf_in n (take i xs))) c.reply_in.ensures
    ∙ (sym (reply_leaf_more n (take i xs) c.change-item.result) ∙ ap (reply_leaf_in n) (sym (take_item xs i c.change-item.result c.loop-change-test.true c.change-item.is)))))
