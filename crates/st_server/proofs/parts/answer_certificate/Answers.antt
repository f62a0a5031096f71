-- Each kind has its part.
use Rattle.std.proofs.Common.{subst}
use Rattle.st_protocol.specs.Part as part
use Rattle.st_live.specs.Service.{list_serve}
use Rattle.st_server.proofs.AnswerLaws.{proposal_is, accept_is}
use Rattle.st_server.proofs.parts.answer_certificate.Goals as goal

pub returns-in-Proposal-clause-answers : goal.returns-in-Proposal-clause-answers
returns-in-Proposal-clause-answers c =
    λ q stands.
    let live = c.args.live.now in
    let s = c.in-Proposal in
    subst (part.Answers c.on_proposal.result) (proposal_is live q c.args.statement.now c.args.quorum.now s.site s.view s.local s.number s.value stands s.is) (c.on_proposal.ensures.answers live.pending.clients list_serve)

pub returns-in-Accept-clause-answers : goal.returns-in-Accept-clause-answers
returns-in-Accept-clause-answers c =
    λ q stands.
    let live = c.args.live.now in
    let s = c.in-Accept in
    subst (part.Answers c.on_accept.result) (accept_is live q c.args.statement.now c.args.quorum.now s.site s.view s.number s.value stands s.is) (c.on_accept.ensures.answers live.pending.clients list_serve)
