-- What a server stands for: the answers of its records and of what it heard, and its log.
use Rattle.std.specs.Prelude.{ℕ, ◌≡◌, ◌+◌, ◌*◌, Bool, true, cond, nat_lt, Option, List}
use Rattle.st_words.specs.declared.statement.Statement.TheVariants.{Accept}
use Rattle.st_message.specs.declared.change.Change.{Change}
use Rattle.st_message.specs.declared.change.Heard.{Heard}
use Rattle.st_message.specs.declared.event.Plan.{Plan}
use Rattle.st_message.specs.declared.message.Message.{Message}
use Rattle.st_message.specs.declared.message.Message.TheVariants as messages
use Rattle.st_message.specs.declared.reason.Reason.TheVariants.{Unknown}
use Rattle.st_tables.specs.Entries.{entry}
use Rattle.st_protocol.specs.Keeping.{given}
use Rattle.st_protocol.specs.State.{Seat, Answers}
use Rattle.st_protocol.specs.Questions.{questions}
use Rattle.st_protocol.specs.Duty.{Deliver, Reading, Faulty, Clean, Pen, plan_of}
use Rattle.st_live.specs.declared.live.Live.{Live}
use Rattle.st_live.specs.LiveView.{place_here, IsLive}
use Rattle.st_server.specs.declared.server.Server.{Server}
use Rattle.st_server.specs.Bounds.{IsBound}

-- what never changes at the server
abbrev pub seat_by : Server → Seat
seat_by server = (place_here server.live).seat

-- The server gives these answers.
pub record StandsBy (server : Server) (q : Answers) : Type 0 where
  pub live : IsLive server.live q
  pub bound : IsBound q
  pub replies : (n : ℕ) → q.making.reply n ≡ entry server.replies n

-- The server stands for these records and this heard list.
pub record Stands (server : Server) (records : List (List Change)) (heard : List Heard) : Type 0 where
  pub answers : StandsBy server (questions (seat_by server) records heard)
  pub entries : server.entries ≡ (questions (seat_by server) records heard).log.run.entries

-- The server gives some answers.
pub record IsServing (server : Server) : Type 0 where
  pub answers : Answers
  pub stands : StandsBy server answers

-- the server whose share a message is, and the site whose Accept certificate it is, are of the deployment
abbrev pub knows_sender_of : ℕ → ℕ → Message → Bool
knows_sender_of sites f (messages.Share s signed) = nat_lt signed.index (3 * f + 1)
knows_sender_of sites f (messages.Certificate (Accept site view number value) q) = nat_lt site.0 sites
knows_sender_of sites f m = true

-- the same, of a server's deployment
abbrev pub knows_sender : Seat → Message → Bool
knows_sender seat m = knows_sender_of seat.sites seat.f m

-- a message as a server of this seat reads it
abbrev pub read_sender : Seat → Message → Reading
read_sender seat m = cond (knows_sender seat m) (Clean m) (Faulty Unknown)

-- the plan for a delivered message
abbrev pub plan_by_message : Seat → Pen → Answers → Message → Plan
plan_by_message seat pen q m = plan_of (read_sender seat) pen q (Deliver m)

-- The short state that comes next, or the present one, stands for these answers.
pub record Leads (next : Option Live) (server : Server) (q : Answers) : Type 0 where
  pub live : IsLive (given next server.live (λ l. l)) q
  pub bound : IsBound q
