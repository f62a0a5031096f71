-- What a server says of where it stands is what its answers say.
use Rattle.std.proofs.Common.{◌≡◌, ◌∙◌, ap, ℕ, Option, List}
use Rattle.std.specs.Prelude.{is_some}
use Rattle.st_message.specs.declared.change.Change.{Change}
use Rattle.st_message.specs.declared.change.Heard.{Heard}
use Rattle.st_protocol.specs.State.{Answers, Pended}
use Rattle.st_protocol.specs.Questions.{questions}
use Rattle.st_protocol.specs.Step.{count_below}
use Rattle.st_state.specs.ClientsView.{last_of, pending_of}
use Rattle.st_live.specs.LiveView.{place_here, asked}
use Rattle.st_live.proofs.LiveLaws.{here_is}
use Rattle.st_server.specs.declared.server.Server.{Server}
use Rattle.st_server.specs.Serving.{seat_by, Stands}

pub place_stands : (server : Server) (records : List (List Change)) (heard : List Heard) → Stands server records heard → place_here server.live ≡ (questions (seat_by server) records heard).here
place_stands server records heard stands = here_is server.live (questions (seat_by server) records heard) stands.answers.live

pending_stands : (server : Server) (records : List (List Change)) (heard : List Heard) → Stands server records heard
    → pending_of (last_of server.live.clients) server.live.pending ≡ (questions (seat_by server) records heard).pending
unfolding asked
pending_stands server records heard stands = ap (λ (a : Answers). a.pending) stands.answers.live.is

pub pending_count_is : (server : Server) (records : List (List Change)) (heard : List Heard) (count : ℕ)
    → count ≡ count_below (λ c. is_some (pending_of (last_of server.live.clients) server.live.pending c)) server.live.pending.clients → Stands server records heard
    → count ≡ count_below (λ c. is_some ((questions (seat_by server) records heard).pending c)) (seat_by server).clients
pending_count_is server records heard count is stands =
    is ∙ ap (λ (f : ℕ → Option Pended). count_below (λ c. is_some (f c)) server.live.pending.clients) (pending_stands server records heard stands)
