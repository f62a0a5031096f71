-- The statement is recorded with the next leaf, and goes out with it.
use Rattle.std.proofs.Common.{subst, refl}
use Rattle.st_message.specs.declared.change.Change.TheVariants.{Made}
use Rattle.st_words.specs.declared.statement.Statement.{Statement}
use Rattle.st_tables.specs.Entries.{entry}
use Rattle.st_protocol.specs.Duty.{records}
use Rattle.st_server.specs.Draw.{Draws}
use Rattle.st_sealing.specs.Sealing.{pen_by}
use Rattle.st_server.proofs.CarryLaws.{makes_is}
use Rattle.st_server.proofs.draft.Draft.make.Goals as goal

pub returns-clause-draws : goal.returns-clause-draws
returns-clause-draws g c =
    λ way draws.
    let made = entry c.args.replies.now in
    let leaf = c.args.self.now.live.here.leaf in
    let s = c.args.statement in
    let pen = pen_by (g.S.Sealer.pen c.args.sealer.now) c.args.id in
    let recorded = subst (λ (t : Statement). Draws made c.record.new.self (records way (Made leaf t))) c.in_ok-copy.ensures.equal (c.in_ok-record.ensures.draws made way draws) in
    subst (Draws made c.emit.new.self) (makes_is made c.args.self.now way pen leaf s c.args.form c.args.to draws refl) (c.in_ok-emit.ensures.draws (records way (Made leaf s)) recorded)
