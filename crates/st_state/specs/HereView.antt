-- Where a server stands, as the duties see it.
use Rattle.std.specs.Prelude.{ℕ, List}
use Rattle.st_message.specs.declared.here as code
use Rattle.st_protocol.specs.State.{Seat, Here}

abbrev pub Serve : Type 0
Serve = List (List ℕ) → List ℕ → List ℕ

-- with so many clients, and a service that answers so
abbrev pub seat_of : ℕ → Serve → code.Here.Here → Seat
seat_of clients serve here =
    record { site = here.me.site; index = here.me.index; sites = here.sites; f = here.f; clients = clients; capacity = here.capacity; serve = serve }

abbrev pub here_of : ℕ → Serve → code.Here.Here → Here
here_of clients serve here =
    record { seat = seat_of clients serve here; view = here.view.0; local = here.local.0; executed = here.executed; leaf = here.leaf }
