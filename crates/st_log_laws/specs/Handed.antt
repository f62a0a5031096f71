-- That a client handed out its seal over an update.
use Rattle.std.specs.Prelude.{◌-◌, Bool, true, List}
use Rattle.st_words.specs.declared.value.Update.{Update}
use Rattle.st_words.specs.declared.value.Value.{Value}
use Rattle.st_words.specs.declared.value.Value.TheVariants as values
use Rattle.st_words.specs.declared.statement.Statement.TheVariants.{ClientUpdate}
use Rattle.st_message.specs.declared.made.MadeSeal.{MadeSeal}
use Rattle.st_protocol.specs.Words.{client_at}
use Rattle.st_protocol.specs.World.{has_handed}

-- among these seals is the client's own over its update, with the leaf of the update's time: time t has leaf t-1
abbrev pub was_handed : List MadeSeal → Update → Bool
was_handed made u = has_handed made (client_at u.client.0) (u.time - 1) (ClientUpdate u)

-- a no-op, or an update that its client handed out
abbrev pub comes_from_client : List MadeSeal → Value → Bool
comes_from_client made values.Noop = true
comes_from_client made (values.Update u) = was_handed made u
