-- The update is kept in a copy of the pending ones, which takes their place.
use Rattle.std.proofs.Common.{◌∙◌, ap, sym, refl}
use Rattle.st_protocol.specs.Growth.{pending_takes, pending_cuts}
use Rattle.st_state.specs.declared.pending.Pending.{Pending}
use Rattle.st_state.specs.ClientsView.{last_of, pending_of, heard_update}
use Rattle.st_live.specs.LiveView.{past_of}
use Rattle.st_live.proofs.HearLaws.{with_pending, update_heard}
use Rattle.st_live.proofs.LiveLaws.{stands_heard}
use Rattle.st_live.proofs.live.Live.hear_update.Goals as goal

pub returns-clause-ok : goal.returns-clause-ok
returns-clause-ok c =
    λ q stands.
    let live = c.args.self.now in
    let lasts = last_of live.clients in
    let copied = c.in_ok-pending.ensures.equal in
    let heard = heard_update c.args.update.now c.args.seal.now in
    let kept = c.in_ok-keep.ensures.ok lasts (sym c.last-last.ensures) ∙ ap (λ (p : Pending). pending_cuts lasts (pending_takes heard (pending_of lasts p))) copied in
    stands_heard live (with_pending live c.keep.new.self) heard q stands refl refl
    (update_heard (past_of q) live c.keep.new.self c.args.update.now c.args.seal.now (c.keep.ensures.clients ∙ ap (λ (p : Pending). p.clients) copied) kept)
