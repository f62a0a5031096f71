-- The smallest event lines that do something, what they come to where messages are passed as they are, and lines that
-- name what does not exist.
use Rattle.std.specs.Prelude.{ℕ, List, [], ◌∷◌, Some, None}
use Rattle.st_words.specs.declared.deployment.Deployment.{Deployment}
use Rattle.st_words.specs.declared.deployment.ServiceKind.TheVariants as services
use Rattle.st_words.specs.declared.deployment.SealKind.TheVariants as seal_kinds
use Rattle.st_words.specs.declared.value.Value.TheVariants as values
use Rattle.st_message.specs.declared.log.Ran.TheVariants as rans
use Rattle.st_schedule.specs.declared.line.Line.TheVariants as lines
use Rattle.st_report.specs.declared.rows.DoneWords.TheVariants as words
use Rattle.st_report.specs.declared.rows.StateWord.TheVariants as states
use Rattle.st_report.specs.declared.rows.Rows.{Rows}
use Rattle.st_protocol.specs.World.{empty}
use Rattle.st_protocol.specs.Schedule.{steps}
use Rattle.st_protocol.specs.Report.{came_from, rows_of}
use Rattle.st_server.specs.Deployed.{world_deployment}
use Rattle.st_input.specs.declared.input.Input.{Input}
use Rattle.st_input.specs.declared.input.InputLine.{InputLine}
use Rattle.st_replay.specs.Lines.{events_in, numbered_in}

-- one server and one client, with this id and seed
abbrev pub small_deployment : ℕ → List ℕ → Deployment
small_deployment id seed =
    record { id = id; sites = 1; f = 0; clients = 1; service = services.List; seals = seal_kinds.Keyed; seed = seed; faulty = []; port = 47000 }

-- the operation `6869`
abbrev pub small_operation : List ℕ
small_operation = 0x68 ∷ 0x69 ∷ []

-- `client C 6869` on line 9 and `flow 50` on line 10
abbrev pub small_lines : ℕ → List InputLine
small_lines client =
    record { number = 9; line = lines.Client (record { 0 = client }) small_operation } ∷ record { number = 10; line = lines.Flow 50 } ∷ []

-- the rows of the world that lines lead to, where messages are passed as they are
abbrev pub rows_passed : Deployment → List InputLine → Rows
rows_passed d xs = rows_of (world_deployment d) (came_from (world_deployment d) empty (numbered_in xs)) (steps (world_deployment d) empty (events_in xs))

-- the input of these lines
abbrev pub small_input : ℕ → List ℕ → ℕ → Input
small_input id seed client = record { deployment = small_deployment id seed; lines = small_lines client }

-- the service's first result
abbrev pub first_result : List ℕ
first_result = 0 ∷ 0 ∷ 0 ∷ 1 ∷ []

-- What the first client's update comes to: seven messages, all delivered; the server ran the update as number 1 with
-- four seals, and the client has its result.
abbrev pub small_rows : ℕ → Rows
small_rows id =
    record {
      header = record { id = id; sites = 1; f = 0; clients = 1 };
      done = record { line = 9; words = words.Sent 0 } ∷ record { line = 10; words = words.Flowed 7 7 0 } ∷ [];
      servers =
          record {
            who = record { site = 0; index = 0 };
            state = states.Running;
            view = record { 0 = 0 };
            local = record { 0 = 0 };
            executed = 1;
            leaf = 4;
            log = record { value = values.Update (record { client = record { 0 = 0 }; time = 1; op = small_operation }); ran = rans.Ran first_result } ∷ [];
          }
          ∷ [];
      clients = record { client = record { 0 = 0 }; time = 1; result = Some (record { 0 = 1 }, first_result) } ∷ [];
      sent = 7;
      undelivered = 0;
    }

-- What no event lines come to: nothing was sent, and nothing ran.
abbrev pub idle_rows : ℕ → Rows
idle_rows id =
    record {
      header = record { id = id; sites = 1; f = 0; clients = 1 };
      done = [];
      servers =
          record { who = record { site = 0; index = 0 }; state = states.Running; view = record { 0 = 0 }; local = record { 0 = 0 }; executed = 0; leaf = 0; log = [] }
          ∷ [];
      clients = record { client = record { 0 = 0 }; time = 0; result = None } ∷ [];
      sent = 0;
      undelivered = 0;
    }
