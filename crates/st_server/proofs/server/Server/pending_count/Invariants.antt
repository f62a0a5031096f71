-- The clients so far are counted.
use Rattle.std.proofs.Common.{◌≡◌, ◌≤◌}
use Rattle.std.specs.Prelude.{is_some}
use Rattle.st_protocol.specs.Step.{count_below}
use Rattle.st_state.specs.ClientsView.{last_of, pending_of}
use Rattle.st_server.proofs.server.Server.pending_count.Given as goal

abbrev pub invariant-loop-client : goal.invariant-loop-client
invariant-loop-client l = record {
  counted : l.count ≡ count_below (λ c. is_some (pending_of (last_of l.self.live.clients) l.self.live.pending c)) l.client;
  most : l.count ≤ l.client;
}
