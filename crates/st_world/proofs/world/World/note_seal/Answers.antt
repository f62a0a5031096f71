-- By the kind of message.
use Rattle.std.proofs.Common.{ap}
use Rattle.st_protocol.specs.World.{handed}
use Rattle.st_world.proofs.EndLaws.{on_ok_weaker}
use Rattle.st_world.proofs.NoteLaws.{noted_nothing, noted_none, noted_own, handed_none}
use Rattle.st_world.proofs.world.World.note_seal.Goals as goal

pub returns-in_default-clause-noted : goal.returns-in_default-clause-noted
returns-in_default-clause-noted c = λ d m stands. noted_nothing c.args.self.now d m c.args.output.now stands c.in_default.is

pub returns-in-Assign-clause-noted : goal.returns-in-Assign-clause-noted
returns-in-Assign-clause-noted c =
    on_ok_weaker c.note_prepare.result _ _ (λ notes d m stands. noted_own c.note_prepare.new.self d m c.args.output.now c.in-Some.leaf _ c.in-Some.is (ap (handed 0) c.in-Assign.is) (notes d m stands)) c.note_prepare.ensures.noted

pub returns-in-Share-clause-noted : goal.returns-in-Share-clause-noted
returns-in-Share-clause-noted c =
    on_ok_weaker c.note.result _ _ (λ notes d m stands. noted_own c.note.new.self d m c.args.output.now c.in-Some.leaf _ c.in-Some.is (ap (handed 0) c.in-Share.is) (notes d m stands)) c.note.ensures.noted

pub returns-in-Reply-clause-noted : goal.returns-in-Reply-clause-noted
returns-in-Reply-clause-noted c =
    on_ok_weaker c.note-in-Reply.result _ _ (λ notes d m stands. noted_own c.note-in-Reply.new.self d m c.args.output.now c.in-Some.leaf _ c.in-Some.is (ap (handed 0) c.in-Reply.is) (notes d m stands)) c.note-in-Reply.ensures.noted

pub returns-in-Report-clause-noted : goal.returns-in-Report-clause-noted
returns-in-Report-clause-noted c =
    on_ok_weaker c.note-in-Report.result _ _ (λ notes d m stands. noted_own c.note-in-Report.new.self d m c.args.output.now c.in-Some.leaf _ c.in-Some.is (ap (handed 0) c.in-Report.is) (notes d m stands)) c.note-in-Report.ensures.noted

pub returns-in_default-message : goal.returns-in_default-message
returns-in_default-message c =
    record {
      noted = λ d m stands. noted_none c.args.self.now d m c.args.output.now stands (handed_none c.args.output.now.message c.in_default-message.not-Assign c.in_default-message.not-Share c.in_default-message.not-Report c.in_default-message.not-Reply);
      memory = tt;
    }
