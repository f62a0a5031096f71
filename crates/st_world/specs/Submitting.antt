-- A client's next update.
use Rattle.std.specs.Prelude.{ℕ, ◌+◌}
use Rattle.st_words.specs.declared.deployment.Deployment.{Deployment}
use Rattle.st_words.specs.declared.value.Update.{Update}
use Rattle.st_words.specs.declared.statement.Statement.TheVariants.{ClientUpdate}
use Rattle.st_message.specs.declared.message.Message.{Message}
use Rattle.st_message.specs.declared.message.Message.TheVariants as messages
use Rattle.st_protocol.specs.Words.{Bytes, an_update, client_at}
use Rattle.st_deployment.specs.Deployed.{statement_seal}

-- the update of the time after the leaves that are used
abbrev pub next_update : ℕ → ℕ → Bytes → Update
next_update client used op = an_update client (used + 1) op

-- the update with the client's seal
abbrev pub update_message : Deployment → ℕ → ℕ → Bytes → Message
update_message d client used op = messages.Update (next_update client used op) (statement_seal d (client_at client) used (ClientUpdate (next_update client used op)))
