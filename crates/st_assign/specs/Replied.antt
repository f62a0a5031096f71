-- The Reply that a server made to a client's last update.
use Rattle.std.specs.Prelude.{◌≡◌, Option, Some, None}
use Rattle.st_words.specs.declared.statement.Statement.{Statement}
use Rattle.st_protocol.specs.State.{Sealing}
use Rattle.st_protocol.specs.Keeping.{given}

-- it is this statement, or there is none
abbrev pub IsReply : Option Sealing → Option Statement → Type 0
IsReply made reply = reply ≡ given made None (λ m. Some m.statement)
