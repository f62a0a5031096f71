-- By what the bytes are.
use Rattle.std.proofs.lemmas.Result.{IfOk-weaker}
use Rattle.st_world.proofs.ForgedLaws.{forged_message, forged_unread}
use Rattle.st_world.proofs.world.World.forged.Goals as goal

pub forged_in-requires-clause-found : goal.forged_in-requires-clause-found
forged_in-requires-clause-found c = record { keeps = c.in-Ok.ensures.found.1; fits = c.in-Ok.ensures.found.2; short = c.in-Ok.ensures.found.3 }

pub returns-in-Ok-clause-place : goal.returns-in-Ok-clause-place
returns-in-Ok-clause-place c =
    IfOk-weaker c.forged_in.result _ _
    (λ place is d m stands. forged_message c.args.self.now d m c.args.bytes.now c.in-Ok.message place stands.set c.in-Ok.ensures.exact (is d m stands)) c.forged_in.ensures.place

pub returns-in-Err-clause-place : goal.returns-in-Err-clause-place
returns-in-Err-clause-place c = forged_unread c.args.self.now c.args.bytes.now c.in-Err.error c.unread.result c.unread.ensures c.in-Err.ensures.exact
