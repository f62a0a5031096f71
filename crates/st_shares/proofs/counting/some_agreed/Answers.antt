-- A key that is found stays found.
use Rattle.std.proofs.Common.{sym, arith}
use Rattle.std.specs.Option.{option_copied}
use Rattle.st_state.specs.Writes.{among}
use Rattle.st_shares.specs.Counts.{is_agreed_at}
use Rattle.st_protocol.proofs.BelowLaws.{some_below_found}
use Rattle.st_shares.proofs.counting.some_agreed.Goals as goal

pub returns-then-is_agreed : goal.returns-then-is_agreed
returns-then-is_agreed c =
    sym (some_below_found (is_agreed_at c.args.servers c.args.quorum (among (option_copied c.args.row))) c.loop-key.key c.args.servers (omega arith) (grind (arith, c.is_agreed.ensures)))
