-- The Reply that the definitions name.
use Rattle.std.proofs.Common.{◌∙◌, ◌+◌, ap}
use Rattle.st_protocol.specs.State.{Here}
use Rattle.st_protocol.specs.Words.{a_reply}
use Rattle.st_live.proofs.LiveLaws.{here_is}
use Rattle.st_server.proofs.CarryLaws.{serve_is}
use Rattle.st_server.proofs.carry.next_reply.Goals as goal

pub returns-clause-equal : goal.returns-clause-equal
returns-clause-equal c =
    λ q stands.
    let live = c.args.live.now in
    let u = c.args.update.now in
    let here = here_is live q stands in
    let outcome = c.in_ok-from_slice.ensures.equal ∙ (c.to_be_bytes-outcome.ensures ∙ serve_is live q u.op c.saturating_add.result stands c.saturating_add.ensures) in
    λ i. a_reply ((ap (λ (h : Here). h.seat.site) here) i) u.client.0 u.time ((ap (λ (h : Here). h.executed + 1) here) i) (outcome i)
