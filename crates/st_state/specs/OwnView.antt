-- This server's own certificates, as the answers that they give.
use Rattle.std.specs.Prelude.{ℕ, true, nat_eq, None}
use Rattle.st_words.specs.declared.statement.Statement.{Statement}
use Rattle.st_message.specs.declared.change.Heard.{Heard}
use Rattle.st_message.specs.declared.message.Message.TheVariants as messages
use Rattle.st_tables.specs.Window.{kept}
use Rattle.st_protocol.specs.Words.{Quorum}
use Rattle.st_protocol.specs.Keeping.{open_if}
use Rattle.st_protocol.specs.State as state
use Rattle.st_protocol.specs.State.{Here}
use Rattle.st_state.specs.declared.own.Own.{Own}

-- those of the present view alone; no report, view or union is kept yet
unfoldable pub own_of : Here → Own → state.Own
own_of here own =
    record {
      report = λ t. None;
      vc = None;
      union = λ t. None;
      proposal = λ g n. open_if (nat_eq here.view g) (kept here.executed own.proposals n);
      accept = λ g n. open_if (nat_eq here.view g) (kept here.executed own.accepts n);
    }

abbrev pub no_own : state.Own
no_own = record { report = λ t. None; vc = None; union = λ t. None; proposal = λ g n. None; accept = λ g n. None }

-- a certificate that this server completed is noted
abbrev pub own_certificate : Statement → Quorum → Heard
own_certificate s quorum = record { own = true; message = messages.Certificate s quorum }
