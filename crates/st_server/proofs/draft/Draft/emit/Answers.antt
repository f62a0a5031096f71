-- The output stands last.
use Rattle.std.proofs.Common.{refl}
use Rattle.st_tables.specs.Entries.{entry}
use Rattle.st_protocol.specs.Duty.{Course}
use Rattle.st_server.specs.Draw.{Draws}
use Rattle.st_sealing.specs.Sealing.{pen_by}
use Rattle.st_server.proofs.EmitLaws.{draws_emit, drawn_emit}
use Rattle.st_server.proofs.draft.Draft.emit.Goals as goal

pub returns-clause-draws : goal.returns-clause-draws
returns-clause-draws g c =
    λ way draws.
    draws_emit (entry c.args.replies.now) c.args.self.now _ (pen_by (g.S.Sealer.pen c.args.sealer.now) c.args.id) way c.args.out c.in_ok-output.output draws
    (c.in_ok-output.ensures.output way draws) refl refl refl c.in_ok-push.ensures.ok

pub returns-clause-drawn : goal.returns-clause-drawn
returns-clause-drawn g c =
    let pen = pen_by (g.S.Sealer.pen c.args.sealer.now) c.args.id in
    drawn_emit (entry c.args.replies.now) c.args.self.now _ pen c.args.out
    (λ (way : Course) (draws : Draws (entry c.args.replies.now) c.args.self.now way).
    draws_emit (entry c.args.replies.now) c.args.self.now _ pen way c.args.out c.in_ok-output.output draws (c.in_ok-output.ensures.output way draws) refl refl refl c.in_ok-push.ensures.ok)
    c.requires.drawn
