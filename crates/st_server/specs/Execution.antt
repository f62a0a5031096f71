-- How far a log is run.
use Rattle.std.specs.Prelude.{◌≡◌, List, length}
use Rattle.st_message.specs.declared.log.Entry.{Entry}
use Rattle.st_protocol.specs.State.{Run}
use Rattle.st_state.specs.ClientsView.{last_of}
use Rattle.st_live.specs.declared.live.Live.{Live}
use Rattle.st_live.specs.Service.{kept_count}

-- The client table, the service's count and the entries are those of this run.
pub record Executes (live : Live) (entries : List Entry) (run : Run) : Type 0 where
  pub last : last_of live.clients ≡ run.last
  pub kept : live.ran ≡ kept_count (length run.ran)
  pub log : entries ≡ run.entries
