-- How often an update ran in a log.
use Rattle.std.specs.Prelude.{ℕ, Bool, true, false, nat_eq, ◌&&◌, List}
use Rattle.st_words.specs.declared.value.Value.{Value}
use Rattle.st_words.specs.declared.value.Value.TheVariants as values
use Rattle.st_message.specs.declared.log.Ran.{Ran}
use Rattle.st_message.specs.declared.log.Ran.TheVariants as outcomes
use Rattle.st_message.specs.declared.log.Entry.{Entry}
use Rattle.st_protocol.specs.Keeping.{count_of}

-- the value is the update of this client and time
abbrev pub is_update_of : ℕ → ℕ → Value → Bool
is_update_of client time values.Noop = false
is_update_of client time (values.Update u) = nat_eq u.client.0 client && nat_eq u.time time

-- running it gave a result
abbrev pub has_ran : Ran → Bool
has_ran (outcomes.Ran result) = true
has_ran (outcomes.Skipped last) = false
has_ran outcomes.Nothing = false

-- the client's update of this time ran at an entry
abbrev pub ran_at : ℕ → ℕ → Entry → Bool
ran_at client time entry = is_update_of client time entry.value && has_ran entry.ran

-- How often the client's update of this time ran in a log.
unfoldable pub times_ran : ℕ → ℕ → List Entry → ℕ
times_ran client time entries = count_of (ran_at client time) entries
