-- Whether an update is replied to, by the short state.
use Rattle.std.specs.Prelude.{◌%◌, Bool, nat_eq, nat_lt, ◌&&◌}
use Rattle.st_words.specs.declared.value.Update.{Update}
use Rattle.st_state.specs.ClientsView.{last_of}
use Rattle.st_live.specs.declared.live.Live.{Live}

-- it runs next, this is its client's home, and a leaf is left
abbrev pub live_replies : Live → Update → Bool
live_replies live u =
    nat_lt (last_of live.clients u.client.0) u.time
    && nat_eq (u.client.0 % live.here.sites) live.here.me.site
    && nat_lt live.here.leaf live.here.capacity
