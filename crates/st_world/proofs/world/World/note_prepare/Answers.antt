-- The statement is the Prepare of the copied value.
use Rattle.std.proofs.Common.{subst}
use Rattle.st_words.specs.declared.value.Value.{Value}
use Rattle.st_protocol.specs.Words.{server_at, a_prepare}
use Rattle.st_protocol.specs.World.{hands}
use Rattle.st_world.specs.Standing.{IsWorld}
use Rattle.st_world.proofs.EndLaws.{on_ok_weaker}
use Rattle.st_world.proofs.world.World.note_prepare.Goals as goal

pub returns-clause-noted : goal.returns-clause-noted
returns-clause-noted c =
    on_ok_weaker c.note.result _ _
    (λ notes d m stands.
    subst (λ (v : Value). IsWorld c.note.new.self d (hands m (server_at 0 0) c.args.leaf (a_prepare 0 c.args.view.0 c.args.local.0 c.args.number.0 v))) c.in_ok-copy.ensures.equal (notes d m stands))
    c.note.ensures.noted
