-- Each kind has its part.
use Rattle.std.proofs.Common.{subst}
use Rattle.st_protocol.specs.Part as part
use Rattle.st_live.specs.Service.{list_serve}
use Rattle.st_server.proofs.AnswerLaws.{prepare_is, proposal_share_is, accept_share_is}
use Rattle.st_server.proofs.parts.answer_share.Goals as goal

pub returns-in-Prepare-clause-answers : goal.returns-in-Prepare-clause-answers
returns-in-Prepare-clause-answers c =
    λ q signed stands is.
    let live = c.args.live.now in
    let s = c.in-Prepare in
    subst (part.Answers c.on_prepare.result) (prepare_is live q c.args.message.now c.args.statement.now signed s.site s.view s.local s.number s.value stands is s.is) (c.on_prepare.ensures.answers live.pending.clients list_serve)

pub returns-in-Proposal-clause-answers : goal.returns-in-Proposal-clause-answers
returns-in-Proposal-clause-answers c =
    λ q signed stands is.
    let live = c.args.live.now in
    let s = c.in-Proposal in
    subst (part.Answers c.on_proposal_share.result) (proposal_share_is live q c.args.message.now c.args.statement.now signed s.site s.view s.local s.number s.value stands is s.is) (c.on_proposal_share.ensures.answers live.pending.clients list_serve)

pub returns-in-Accept-clause-answers : goal.returns-in-Accept-clause-answers
returns-in-Accept-clause-answers c =
    λ q signed stands is.
    let live = c.args.live.now in
    let s = c.in-Accept in
    subst (part.Answers c.on_accept_share.result) (accept_share_is live q c.args.message.now c.args.statement.now signed s.site s.view s.number s.value stands is s.is) (c.on_accept_share.ensures.answers live.pending.clients list_serve)
