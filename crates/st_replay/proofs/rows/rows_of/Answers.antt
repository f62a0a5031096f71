-- The rows are those of the world that the lines led to.
use Rattle.std.proofs.Common.{◌∙◌, ap, refl, List, [], ◌∷◌, ◌++◌}
use Rattle.st_report.specs.declared.rows.ServerRow.{ServerRow}
use Rattle.st_replay.specs.Lines.{world_after}
use Rattle.st_replay.proofs.RowLaws.{rows_are}
use Rattle.st_replay.proofs.rows.rows_of.Goals as goal

pub returns-clause-rows : goal.returns-clause-rows
returns-clause-rows c =
    λ lines so.
    let d = c.args.d.now in
    let m = world_after d lines in
    let row = c.in_ok-server_row.field-0 in
    let servers = c.in_ok-push.ensures.ok ∙ ap (λ (rows : List ServerRow). rows ++ row ∷ []) c.new-servers.ensures in
    let counts = c.counts-sent.result in
    (λ i. record { header = record { id = d.id; sites = d.sites; f = d.f; clients = d.clients }; done = c.args.replay.done; servers = servers i; clients = c.in_ok-clients.clients; sent = counts.0; undelivered = counts.1 })
    ∙ rows_are c.args.replay d lines c.into_server.result row c.in_ok-clients.clients counts.0 counts.1 (c.into_server.ensures d m so.world) c.in_ok-server_row.ensures.row (c.in_ok-clients.ensures.rows d m so.world refl) (c.counts-sent.ensures d m so.world) so
