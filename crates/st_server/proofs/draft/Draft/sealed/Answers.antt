-- The message of a statement has the seal with its own leaf.
use Rattle.std.proofs.Common.{◌∙◌, ap, sym}
use Rattle.st_seal.specs.declared.quorum.Signed.{Signed}
use Rattle.st_message.specs.declared.message.Message.{Message}
use Rattle.st_tables.specs.Entries.{entry}
use Rattle.st_protocol.specs.Duty.{message_of, sealed}
use Rattle.st_sealing.specs.Sealing.{pen_by}
use Rattle.st_server.proofs.EmitLaws.{leaf_below, sealed_is}
use Rattle.st_server.proofs.draft.Draft.sealed.Goals as goal

pub signed-requires : goal.signed-requires
signed-requires g c =
    let drawn = c.requires.drawn in
    record {
      leaf = leaf_below (entry c.args.replies.now) c.args.self.now drawn.way c.in-Make.statement c.leaf_of-leaf.result _ drawn.draws (c.leaf_of-leaf.ensures.leaf drawn.way drawn.draws) c.requires.capacity;
    }

pub returns-in_ok-signed-in-Make-clause-output : goal.returns-in_ok-signed-in-Make-clause-output
returns-in_ok-signed-in-Make-clause-output g c =
    λ way draws.
    let pen = pen_by (g.S.Sealer.pen c.args.sealer.now) c.args.id in
    let m = c.in-Make in
    let leaf = c.leaf_of-leaf.result in
    ap (λ (x : Message). record { message = x; to = m.to; leaf = leaf }) (c.message_of.ensures ∙ ap (λ (x : Signed). message_of m.form m.statement x) c.in_ok-signed-in-Make.ensures.signed)
    ∙ (sealed_is pen (entry c.args.replies.now) c.args.self.now way m.statement m.form m.to leaf draws (c.leaf_of-leaf.ensures.leaf way draws)
    ∙ sym (ap (sealed pen way.now) m.is))
