-- Worlds of the lines that are built today: no stop is set, and no journal is written.
use Rattle.std.specs.Prelude.{◌≡◌, ℕ, None}
use Rattle.st_schedule.specs.declared.limits.TheConstants.{EMPTY_JOURNAL}
use Rattle.st_protocol.specs.World.{Running, Node, World}

-- A server that runs, with no stop set and an empty journal.
pub record IsPlain (node : Node) : Type 0 where
  pub running : node.stand ≡ Running
  pub no_stop : node.stop ≡ 0
  pub not_apart : node.apart ≡ None
  pub empty_journal : node.bytes ≡ EMPTY_JOURNAL

-- All servers are so.
unfoldable pub ArePlain : {Wire : Type 0} → World Wire → Type 0
ArePlain world = (site index : ℕ) → IsPlain (world.nodes site index)
