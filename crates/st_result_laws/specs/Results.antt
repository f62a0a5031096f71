-- Where the result that a client has stands in a log.
use Rattle.std.specs.Prelude.{◌≡◌, ℕ, ◌+◌, true, List, Some, slice_get}
use Rattle.st_words.specs.declared.value.Update.{Update}
use Rattle.st_words.specs.declared.value.Value.TheVariants as values
use Rattle.st_message.specs.declared.log.Entry.{Entry}
use Rattle.st_message.specs.declared.log.Ran.TheVariants as outcomes
use Rattle.st_protocol.specs.World.{Deployment, World, Answered, is_correct}
use Rattle.st_log_laws.specs.Fronts.{log_at}

-- the entry of an update that ran, with its result
abbrev pub entry_of : Update → Answered → Entry
entry_of update a = record { value = values.Update update; ran = outcomes.Ran a.result }

-- The log has, at the number of the answer, this client's update of this time, and its outcome is the answer's result.
pub record IsRunAt (log : List Entry) (client time : ℕ) (a : Answered) : Type 0 where
  pub update : Update
  pub of_client : update.client.0 ≡ client
  pub of_time : update.time ≡ time
  -- how many entries stand before it
  pub before : ℕ
  pub place : a.number ≡ before + 1
  pub there : slice_get log before ≡ Some (entry_of update a)

-- A correct server's log has so the client's last update, with this answer.
pub record IsAnsweredBy {Wire : Type 0} (d : Deployment Wire) (world : World Wire) (client : ℕ) (a : Answered) : Type 0 where
  pub site : ℕ
  pub index : ℕ
  pub correct : is_correct d site index ≡ true
  pub ran : IsRunAt (log_at d world site index) client (world.customers client).time a
