-- All clients are counted.
use Rattle.std.proofs.Common.{◌≡◌, ◌∙◌, ap, arith}
use Rattle.std.specs.Prelude.{is_some}
use Rattle.st_protocol.specs.Step.{count_below}
use Rattle.st_state.specs.ClientsView.{last_of, pending_of}
use Rattle.st_server.proofs.StandingLaws.{pending_count_is}
use Rattle.st_server.proofs.server.Server.pending_count.Goals as goal

pub returns : goal.returns
returns c =
    λ records heard stands.
    let live = c.args.self.now.live in
    let end : c.loop-client.client ≡ live.pending.clients = omega arith in
    pending_count_is c.args.self.now records heard c.loop-client.count
    (c.loop-client.invariant.counted ∙ ap (count_below (λ k. is_some (pending_of (last_of live.clients) live.pending k))) end) stands
