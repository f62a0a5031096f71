-- No union is held.
use Rattle.std.proofs.Common.{subst}
use Rattle.st_protocol.specs.Part as part
use Rattle.st_live.specs.Service.{list_serve}
use Rattle.st_server.proofs.AnswerLaws.{assign_is}
use Rattle.st_server.proofs.parts.answer_assign.Goals as goal

pub returns-clause-answers : goal.returns-clause-answers
returns-clause-answers c =
    λ q stands.
    let live = c.args.live.now in
    subst (part.Answers c.on_assign.result) (assign_is live q c.in_ok-forced.forced c.args.message.now stands (c.in_ok-forced.ensures.equal live.pending.clients list_serve))
    (c.on_assign.ensures.answers live.pending.clients list_serve)
