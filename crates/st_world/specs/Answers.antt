-- What a world answers, in the definitions' words.
use Rattle.std.specs.Prelude.{◌≡◌, ℕ, cond, nat_lt, true, false, Option, Some, None, List}
use Rattle.std.specs.Option.{option_map}
use denote.Ref.{Bor}
use Rattle.st_words.specs.declared.deployment.Deployment.{Deployment}
use Rattle.st_words.specs.declared.ids.Number.{Number}
use Rattle.st_words.specs.declared.ids.ServerId.{ServerId}
use Rattle.st_message.specs.declared.log.Entry.{Entry}
use Rattle.st_protocol.specs.Words.{Bytes}
use Rattle.st_protocol.specs.World as model
use Rattle.st_protocol.specs.World.{Stand, Running, Stopped, Full, is_correct, seat_of}
use Rattle.st_protocol.specs.Report.{answers_at, result_of}
use Rattle.st_server.specs.declared.server.Server.{Server}
use Rattle.st_server.specs.Serving.{Stands, seat_by}
use Rattle.st_deployment.specs.Deployed.{world_deployment}
use Rattle.st_world.specs.declared.world.ServerState.{ServerState}
use Rattle.st_world.specs.declared.world.ServerState.TheVariants as states

-- ---- servers

-- how a server stands
abbrev pub state_of : Stand → ServerState
state_of Running = states.Running
state_of Stopped = states.Stopped
state_of Full = states.Full

-- what a server executed, unless it is faulty or doesn't exist
abbrev pub entries_of : model.Deployment Bytes → model.World Bytes → ServerId → Option (List Entry)
entries_of d m who = cond (is_correct d who.site who.index) (Some (answers_at d m who.site who.index).log.run.entries) None

-- The server in memory is this one of the world.
pub record IsServerHere (d : Deployment) (m : model.World Bytes) (who : ServerId) (server : Server) : Type 0 where
  pub seat : seat_by server ≡ seat_of (world_deployment d) who.site who.index
  pub stands : Stands server (m.nodes who.site who.index).bodies (m.nodes who.site who.index).heard

-- a correct server of the world and how it stands, or none where it is faulty or doesn't exist
abbrev pub IsServer : Deployment → model.World Bytes → ServerId → Option (ServerState × Server) → Type 0
IsServer d m who None = is_correct (world_deployment d) who.site who.index ≡ false
IsServer d m who (Some x) =
    (is_correct (world_deployment d) who.site who.index ≡ true) × (x.0 ≡ state_of (m.nodes who.site who.index).stand) × IsServerHere d m who x.1

-- ---- clients

-- a result, as it is lent
abbrev pub result_seen : Option (Number × Bor Bytes) → Option (Number × Bytes)
result_seen result = option_map (λ x. (x.0, x.1.now)) result

-- a client's last time and result, as they are lent
abbrev pub client_seen : Option (ℕ × Option (Number × Bor Bytes)) → Option (ℕ × Option (Number × Bytes))
client_seen client = option_map (λ x. (x.0, result_seen x.1)) client

-- those of a client that exists
abbrev pub client_in : model.Deployment Bytes → model.World Bytes → ℕ → Option (ℕ × Option (Number × Bytes))
client_in d m c = cond (nat_lt c d.clients) (Some ((m.customers c).time, result_of (m.customers c).result)) None
