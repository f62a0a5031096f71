-- The Reply is what follows from the execution.
use Rattle.std.proofs.Common.{◌∙◌, sym, subst, IsTrue, None, Some}
use Rattle.st_words.specs.declared.ids.Number.{Number}
use Rattle.st_message.specs.declared.message.Proof.{Proof}
use Rattle.st_message.specs.declared.change.Change.TheVariants.{Made, Executed}
use Rattle.st_tables.specs.Entries.{entry}
use Rattle.st_protocol.specs.State.{Here}
use Rattle.st_protocol.specs.Growth.{here_after}
use Rattle.st_protocol.specs.Duty.{records}
use Rattle.st_live.specs.LiveView.{place_here}
use Rattle.st_server.specs.Draw.{Draws}
use Rattle.st_server.specs.Ready.{may_record}
use Rattle.st_sealing.specs.Sealing.{pen_by}
use Rattle.st_server.proofs.CarryLaws.{carried_execution, sites_known, leaf_stays, placed_of}
use Rattle.st_server.proofs.draft.Draft.execute.Goals as goal

pub reply_to-requires-clause-sites : goal.reply_to-requires-clause-sites
reply_to-requires-clause-sites g c = sites_known (entry c.args.replies.now) c.args.self.now c.requires.drawn

pub make-requires-clause-ready : goal.make-requires-clause-ready
make-requires-clause-ready g c =
    let here = c.in_ok-record.ensures.here in
    let leaf = leaf_stays c.args.self.now.live c.record.new.self.live c.args.number c.args.proof here in
    subst (λ k. IsTrue (may_record (place_here c.record.new.self.live) (Made k c.in-Some.statement))) (sym leaf)
    (subst (λ (h : Here). IsTrue (may_record h (Made c.args.self.now.live.here.leaf c.in-Some.statement))) (sym here)
    (placed_of c.in_ok-reply.reply (c.in-Some.client, c.in-Some.statement) (λ x. (n : Number) (p : Proof) → IsTrue (may_record (here_after (Executed n p) (place_here c.args.self.now.live)) (Made c.args.self.now.live.here.leaf x.1)))
    c.in-Some.is c.in_ok-reply.ensures.placed c.args.number c.args.proof))

pub returns-in_ok-make-clause-draws : goal.returns-in_ok-make-clause-draws
returns-in_ok-make-clause-draws g c =
    λ way draws.
    let made = entry c.args.replies.now in
    let pen = pen_by (g.S.Sealer.pen c.args.sealer.now) c.args.id in
    let n = c.args.number in
    let p = c.args.proof in
    let reply_is = sym c.in-Some.is ∙ c.in_ok-reply.ensures.reply way.now draws.now in
    subst (Draws made c.make.new.self) (carried_execution pen way n p (Some (c.in-Some.client, c.in-Some.statement)) reply_is)
    (c.in_ok-make.ensures.draws (records way (Executed n p)) (c.in_ok-record.ensures.draws made way draws))

pub returns-in_default-clause-draws : goal.returns-in_default-clause-draws
returns-in_default-clause-draws g c =
    λ way draws.
    let made = entry c.args.replies.now in
    let pen = pen_by (g.S.Sealer.pen c.args.sealer.now) c.args.id in
    let n = c.args.number in
    let p = c.args.proof in
    let reply_is = sym c.in_default.is ∙ c.in_ok-reply.ensures.reply way.now draws.now in
    subst (Draws made c.record.new.self) (carried_execution pen way n p None reply_is) (c.in_ok-record.ensures.draws made way draws)
