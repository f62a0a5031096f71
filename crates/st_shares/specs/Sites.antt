-- The servers of a server's own site.
use Rattle.std.specs.Prelude.{ℕ, ◌+◌, ◌*◌, ◌%◌}
use Rattle.st_message.specs.declared.here as code
use Rattle.st_message.specs.declared.event.Scope.{Scope}
use Rattle.st_protocol.specs.Words.{to_site_at, to_server_at}

-- the index of the representative
abbrev pub rep_index : code.Here.Here → ℕ
rep_index here = here.local.0 % (3 * here.f + 1)

abbrev pub rep_scope : code.Here.Here → Scope
rep_scope here = to_server_at here.me.site (rep_index here)

abbrev pub site_scope : code.Here.Here → Scope
site_scope here = to_site_at here.me.site
