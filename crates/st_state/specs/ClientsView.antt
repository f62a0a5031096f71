-- The client table, and the pending updates, as the answers that they give.
use Rattle.std.specs.Prelude.{ℕ, ◌+◌, false, Option}
use Rattle.st_words.specs.declared.value.Update.{Update}
use Rattle.st_message.specs.declared.change.Heard.{Heard}
use Rattle.st_message.specs.declared.message.Message.TheVariants as messages
use Rattle.st_tables.specs.Entries.{entry}
use Rattle.st_protocol.specs.Words.{Bytes}
use Rattle.st_protocol.specs.Keeping.{given, from}
use Rattle.st_protocol.specs.State.{Pended, pended_time}
use Rattle.st_state.specs.declared.clients.Clients.{Clients}
use Rattle.st_state.specs.declared.pending.Pending.{Pending}

-- per client its last time, 0 at first
unfoldable pub last_of : Clients → ℕ → ℕ
last_of clients c = given (entry clients.rows c) 0 (λ row. row.last)

-- per client the number at which its last update ran, 0 at first
unfoldable pub place_of : Clients → ℕ → ℕ
place_of clients c = given (entry clients.rows c) 0 (λ row. row.place)

-- per client the update that is kept, if its time is above the client's last
unfoldable pub pending_of : (ℕ → ℕ) → Pending → ℕ → Option Pended
pending_of last pending c = from pended_time (last c + 1) (entry pending.updates c)

-- an update is heard
abbrev pub heard_update : Update → Bytes → Heard
heard_update update seal = record { own = false; message = messages.Update update seal }
