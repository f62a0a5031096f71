-- What a world reports: what each event line came to, and where the event lines leave the servers and clients.
use Rattle.std.specs.Prelude.{ℕ, cond, Option, Some, None, List, [], ◌∷◌, length}
use Rattle.std.specs.List.{flat_map}
use Rattle.st_words.specs.declared.ids.Number.{Number}
use Rattle.st_message.specs.declared.log.Entry.{Entry}
use Rattle.st_message.specs.declared.event.Outcome.{Outcome}
use Rattle.st_message.specs.declared.event.Outcome.TheVariants as outcomes
use Rattle.st_schedule.specs.declared.line.Line.{Line}
use Rattle.st_schedule.specs.declared.done.Done.{Done}
use Rattle.st_schedule.specs.declared.done.Done.TheVariants as done
use Rattle.st_report.specs.declared.rows.Header.{Header}
use Rattle.st_report.specs.declared.rows.DoneWords.{DoneWords}
use Rattle.st_report.specs.declared.rows.DoneWords.TheVariants as words
use Rattle.st_report.specs.declared.rows.DoneRow.{DoneRow}
use Rattle.st_report.specs.declared.rows.StateWord.{StateWord}
use Rattle.st_report.specs.declared.rows.StateWord.TheVariants as states
use Rattle.st_report.specs.declared.rows.LogRow.{LogRow}
use Rattle.st_report.specs.declared.rows.ServerRow.{ServerRow}
use Rattle.st_report.specs.declared.rows.ClientRow.{ClientRow}
use Rattle.st_report.specs.declared.rows.Rows.{Rows}
use Rattle.st_report.specs.Text.{report}
use Rattle.st_protocol.specs.Words.{Bytes, a_server}
use Rattle.st_protocol.specs.Keeping.{given}
use Rattle.st_protocol.specs.State.{Answers}
use Rattle.st_protocol.specs.Questions.{questions}
use Rattle.st_protocol.specs.Step.{all_below}
use Rattle.st_protocol.specs.World.{Deployment, Stand, Running, Stopped, Full, Answered, Customer, World, servers_of, seat_of, is_correct}
use Rattle.st_protocol.specs.Schedule.{step, goes_on}

-- ---- what an event line came to

-- an outcome as the report says it
abbrev pub outcome_words : Outcome → DoneWords
outcome_words outcomes.Did = words.Did
outcome_words (outcomes.Ignored reason) = words.Ignored reason

-- What a line came to, as the report says it.
unfoldable pub done_words : Done → DoneWords
done_words (done.Sent message) = words.Sent message
done_words (done.SealsSpent used) = words.SealsSpent used
done_words (done.Outcome outcome) = outcome_words outcome
done_words done.Stopped = words.Stopped
done_words done.Full = words.Full
done_words done.Faulty = words.Faulty
done_words (done.Flowed pairs did ignored) = words.Flowed pairs did ignored
done_words (done.Dropped pairs) = words.Dropped pairs
done_words done.Set = words.Set
done_words done.Running = words.Running
done_words (done.Shown bytes) = words.Shown bytes

-- the line's number in the whole input, from 1, and what the line came to
abbrev pub done_row : ℕ × Done → DoneRow
done_row row = record { line = row.0; words = done_words row.1 }

-- ---- where a server and a client stand

-- how a server stands, as the report says it
abbrev pub state_of : Stand → StateWord
state_of Running = states.Running
state_of Stopped = states.Stopped
state_of Full = states.Full

-- one executed number
abbrev pub log_row : Entry → LogRow
log_row entry = record { value = entry.value; ran = entry.ran }

-- A server: how it stands, where its records leave it, and its log.
unfoldable pub server_row : Stand → Answers → ServerRow
server_row stand state =
    record {
      who = a_server state.here.seat.site state.here.seat.index;
      state = state_of stand;
      view = record { 0 = state.here.view };
      local = record { 0 = state.here.local };
      executed = state.here.executed;
      leaf = state.here.leaf;
      log = flat_map (λ entry. log_row entry ∷ []) state.log.run.entries;
    }

-- a client's result as the report says it
abbrev pub result_of : Option Answered → Option (Number × Bytes)
result_of answered = given answered None (λ a. Some (record { 0 = a.number }, a.result))

-- A client: its last time, and the result of its last update.
unfoldable pub client_row : ℕ → Customer → ClientRow
client_row client customer = record { client = record { 0 = client }; time = customer.time; result = result_of customer.result }

module _ {Wire : Type 0} (d : Deployment Wire) where
  -- the numbers of the report's first line
  abbrev pub header : Header
  header = record { id = d.id; sites = d.sites; f = d.f; clients = d.clients }

  -- what a server answers
  abbrev pub answers_at : World Wire → ℕ → ℕ → Answers
  answers_at world site index = questions (seat_of d site index) (world.nodes site index).bodies (world.nodes site index).heard

  -- a correct server's row
  abbrev pub server_rows_at : World Wire → ℕ → ℕ → List ServerRow
  server_rows_at world site index =
      cond (is_correct d site index) (server_row (world.nodes site index).stand (answers_at world site index) ∷ []) []

  -- The correct servers, by site and index.
  unfoldable pub server_rows : World Wire → List ServerRow
  server_rows world = all_below (λ site. all_below (server_rows_at world site) (servers_of d)) d.sites

  -- The clients, in order.
  unfoldable pub client_rows : World Wire → List ClientRow
  client_rows world = all_below (λ client. client_row client (world.customers client) ∷ []) d.clients

  -- The rows of a world that these event lines led to.
  unfoldable pub rows_of : List (ℕ × Done) → World Wire → Rows
  rows_of came world =
      record {
        header = header;
        done = flat_map (λ row. done_row row ∷ []) came;
        servers = server_rows world;
        clients = client_rows world;
        sent = length world.sent;
        undelivered = length world.waiting;
      }

  -- The report of a world, as text.
  abbrev pub report_text : List (ℕ × Done) → World Wire → Bytes
  report_text came world = report (rows_of came world)

  -- what event lines come to, each with its number in the input
  unfoldable pub came_from : World Wire → List (ℕ × Line) → List (ℕ × Done)
  came_from world [] = []
  came_from world (line ∷ more) = (line.0, (step d world line.1).done) ∷ came_from (goes_on d world line.1) more
