-- What the held unions force, as the answers that it gives.
use Rattle.std.specs.Prelude.{ℕ, Option, None}
use Rattle.st_tables.specs.Window.{kept}
use Rattle.st_protocol.specs.State.{Term, Here, Held}
use Rattle.st_protocol.specs.Forced as forced
use Rattle.st_state.specs.declared.forced.Forced.{Forced}

-- the values of the window's numbers alone
unfoldable pub forced_by : Here → Forced → forced.Forced
forced_by here f = record { value = λ n. kept here.executed f.values n; base = f.base; held = f.held; wanted = f.wanted }

-- no union is held
abbrev pub no_unions : Term → ℕ → Option Held
no_unions t site = None
