-- The rows of a world in memory are those of the world that it stands for.
use Rattle.std.proofs.Common.{◌≡◌, ◌∙◌, ap, sym, ℕ, ◌+◌, ◌*◌, ◌<◌, ◌&&◌, ◌||◌, not, nat_lt, Bool, cond, Option, Some, None, List, [], ◌∷◌, length}
use Rattle.std.specs.List.{flat_map}
use Rattle.std.proofs.lemmas.Bool.{lt-ltb}
use denote.Ref.{Bor}
use Rattle.st_words.specs.declared.deployment.Deployment.{Deployment}
use Rattle.st_words.specs.declared.ids.Number.{Number}
use Rattle.st_words.specs.declared.ids.ServerId.{ServerId}
use Rattle.st_message.specs.declared.change.Change.{Change}
use Rattle.st_message.specs.declared.change.Heard.{Heard}
use Rattle.st_message.specs.declared.log.Entry.{Entry}
use Rattle.st_report.specs.declared.rows.LogRow.{LogRow}
use Rattle.st_report.specs.declared.rows.ServerRow.{ServerRow}
use Rattle.st_report.specs.declared.rows.ClientRow.{ClientRow}
use Rattle.st_report.specs.declared.rows.DoneRow.{DoneRow}
use Rattle.st_report.specs.declared.rows.StateWord.TheVariants as states
use Rattle.st_report.specs.declared.rows.Rows.{Rows}
use Rattle.st_protocol.specs.Words.{Bytes, a_server}
use Rattle.st_protocol.specs.Step.{all_below}
use Rattle.st_protocol.specs.Questions.{questions}
use Rattle.st_protocol.specs.Plain.{ArePlain}
use Rattle.st_protocol.specs.World as model
use Rattle.st_protocol.specs.World.{Stand, Running, is_listed, seat_of}
use Rattle.st_protocol.specs.Report.{answers_at, log_row, server_row, server_rows, client_row, client_rows, rows_of, result_of}
use Rattle.st_live.specs.LiveView.{place_here}
use Rattle.st_live.proofs.LiveLaws.{here_is}
use Rattle.st_server.specs.declared.server.Server.{Server}
use Rattle.st_server.specs.Serving.{Stands, seat_by}
use Rattle.st_deployment.specs.Deployed.{world_deployment}
use Rattle.st_flows.proofs.PlainKept.{plain_at}
use Rattle.st_config.specs.Taken.{IsTaken}
use Rattle.st_input.specs.declared.input.InputLine.{InputLine}
use Rattle.st_world.specs.Answers.{IsServerHere, client_in, client_seen, result_seen}
use Rattle.st_world.specs.Standing.{IsStanding}
use Rattle.st_replay.specs.declared.lines.Replay.{Replay}
use Rattle.st_replay.specs.Lines.{world_after, IsReplayed, rows_in}

-- ---- a server

-- the row that a server in memory has, with this log
abbrev pub row_by : Server → List LogRow → ServerRow
row_by server log =
    record {
      who = server.live.here.me;
      state = states.Running;
      view = server.live.here.view;
      local = server.live.here.local;
      executed = server.live.here.executed;
      leaf = server.live.here.leaf;
      log = log;
    }

-- a row for each entry
abbrev log_rows : List Entry → List LogRow
log_rows entries = flat_map (λ (entry : Entry). log_row entry ∷ []) entries

pub row_is : (server : Server) (log : List LogRow) (records : List (List Change)) (heard : List Heard) → log ≡ log_rows server.entries → Stands server records heard
    → row_by server log ≡ server_row Running (questions (seat_by server) records heard)
unfolding server_row
row_is server log records heard is stands =
    let here : place_here server.live ≡ (questions (seat_by server) records heard).here = here_is server.live (questions (seat_by server) records heard) stands.answers.live in
    let rows : log ≡ log_rows (questions (seat_by server) records heard).log.run.entries = is ∙ ap log_rows stands.entries in
    λ i.
    record {
      who = a_server (here i).seat.site (here i).seat.index;
      state = states.Running;
      view = record { 0 = (here i).view };
      local = record { 0 = (here i).local };
      executed = (here i).executed;
      leaf = (here i).leaf;
      log = rows i;
    }

-- the rows of a deployment's servers, by its numbers
abbrev rows_by : (ℕ → ℕ → ServerRow) → ℕ → ℕ → List ServerId → List ServerRow
rows_by row sites f faulty =
    all_below
    (λ site. all_below
    (λ index. cond
    ((nat_lt site sites && nat_lt index (3 * f + 1)) && not (is_listed faulty site index || not (nat_lt site sites && nat_lt index (3 * f + 1)))) (row site index ∷ []) [])
    (3 * f + 1))
    sites

-- the one server's row
servers_one : (d : Deployment) (m : model.World Bytes) → IsTaken d
    → server_rows (world_deployment d) m ≡ server_row (m.nodes 0 0).stand (answers_at (world_deployment d) m 0 0) ∷ []
unfolding server_rows world_deployment all_below is_listed
servers_one d m taken =
    λ i. rows_by (λ site index. server_row (m.nodes site index).stand (answers_at (world_deployment d) m site index)) (taken.sites i) (taken.f i) (taken.faulty i)

servers_are : (server : Server) (d : Deployment) (m : model.World Bytes) (row : ServerRow) → IsTaken d → ArePlain m → IsServerHere d m (a_server 0 0) server
    → ((records : List (List Change)) (heard : List Heard) → Stands server records heard → row ≡ server_row Running (questions (seat_by server) records heard))
    → row ∷ [] ≡ server_rows (world_deployment d) m
servers_are server d m row taken plain here is =
    ap (λ (r : ServerRow). r ∷ [])
    (is (m.nodes 0 0).bodies (m.nodes 0 0).heard here.stands
    ∙ (λ i. server_row (sym (plain_at m plain 0 0).running i) (questions (here.seat i) (m.nodes 0 0).bodies (m.nodes 0 0).heard)))
    ∙ sym (servers_one d m taken)

-- ---- the clients

-- a client that there is
pub client_is : (d : Deployment) (m : model.World Bytes) (c time : ℕ) (lent : Option (Number × Bor Bytes)) (own : Option (Number × Bytes)) → c < d.clients
    → client_seen (Some (time, lent)) ≡ client_in (world_deployment d) m c → own ≡ result_seen lent → record { client = record { 0 = c }; time = time; result = own } ≡ client_row c (m.customers c)
unfolding client_row world_deployment
client_is d m c time lent own below seen is =
    let there = seen ∙ ap (λ (b : Bool). cond b (Some ((m.customers c).time, result_of (m.customers c).result)) None) (lt-ltb c d.clients below) in
    let parts : (time, result_seen lent) ≡ ((m.customers c).time, result_of (m.customers c).result) = cc in
    λ i. record { client = record { 0 = c }; time = (parts i).0; result = (is ∙ ap (λ (x : ℕ × Option (Number × Bytes)). x.1) parts) i }

-- and none that there isn't
pub client_is_there : (d : Deployment) (m : model.World Bytes) (c : ℕ) → c < d.clients → None ≡ client_in (world_deployment d) m c → ⊥
unfolding world_deployment
client_is_there d m c below none =
    absurd
    (let no : None ≡ Some ((m.customers c).time, result_of (m.customers c).result) =
    none ∙ ap (λ (b : Bool). cond b (Some ((m.customers c).time, result_of (m.customers c).result)) None) (lt-ltb c d.clients below) in
    cc)

-- all of them
pub clients_all : (d : Deployment) (m : model.World Bytes) (rows : List ClientRow) (n : ℕ) → rows ≡ all_below (λ c. client_row c (m.customers c) ∷ []) n → n ≡ d.clients → rows ≡ client_rows (world_deployment d) m
unfolding client_rows world_deployment
clients_all d m rows n is all = is ∙ ap (all_below (λ c. client_row c (m.customers c) ∷ [])) all

-- ---- all rows

-- a world that lines led to stands
pub replay_stands : (replay : Replay) (d : Deployment) (lines : List InputLine) → IsReplayed replay d lines → IsStanding replay.world
replay_stands replay d lines so = record { deployment = d; model = world_after d lines; stands = so.world }

-- the rows with these of the lines, the server and the clients, and these counts
abbrev pub rows_with : Deployment → List DoneRow → ServerRow → List ClientRow → ℕ → ℕ → Rows
rows_with d done row clients sent undelivered =
    record {
      header = record { id = d.id; sites = d.sites; f = d.f; clients = d.clients };
      done = done;
      servers = row ∷ [];
      clients = clients;
      sent = sent;
      undelivered = undelivered;
    }

pub rows_are : (replay : Replay) (d : Deployment) (lines : List InputLine) (server : Server) (row : ServerRow) (clients : List ClientRow) (sent undelivered : ℕ) → IsServerHere d (world_after d lines) (a_server 0 0) server
    → ((records : List (List Change)) (heard : List Heard) → Stands server records heard → row ≡ server_row Running (questions (seat_by server) records heard))
    → clients ≡ client_rows (world_deployment d) (world_after d lines) → (sent ≡ length (world_after d lines).sent) × (undelivered ≡ length (world_after d lines).waiting) → IsReplayed replay d lines
    → rows_with d replay.done row clients sent undelivered ≡ rows_in d lines
unfolding rows_of world_deployment
rows_are replay d lines server row clients sent undelivered here is all counted so =
    λ i.
    record {
      header = record { id = d.id; sites = d.sites; f = d.f; clients = d.clients };
      done = so.done i;
      servers = servers_are server d (world_after d lines) row so.world.set.taken so.world.plain here is i;
      clients = all i;
      sent = counted.0 i;
      undelivered = counted.1 i;
    }
