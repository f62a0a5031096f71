-- What an event line may hold. What the grammar asks (Keeps) stands apart from what every line of the code's types
-- meets (Fits), so that a caller who prints a line owes only the first.
use Rattle.std.specs.Prelude.{◌≤◌, ◌<◌, ◌^◌, ◌≡◌, true, length}
use Rattle.hex.specs.Hex.{IsBytes}
use Rattle.st_words.specs.declared.ids.ServerId.{ServerId}
use Rattle.st_words.specs.declared.statement.Statement.{Statement}
use Rattle.st_words.specs.declared.statement.Statement.TheVariants.{ClientUpdate}
use Rattle.st_words.specs.Ranges.{KeepsStatement, FitsStatement}
use Rattle.st_words.specs.Spelling.{core_spelling}
use Rattle.st_schedule.specs.declared.line.Dest.{Dest}
use Rattle.st_schedule.specs.declared.line.Dest.TheVariants as dests
use Rattle.st_schedule.specs.declared.line.Line.{Line}
use Rattle.st_schedule.specs.declared.line.Line.TheVariants as lines
use Rattle.st_schedule.specs.declared.limits.TheConstants.{MOST_OPERATION, MOST_FLOW, MOST_CALL}
use Rattle.st_schedule.specs.Lines.{is_bare}

-- a server's statement, which is no client's own
abbrev pub IsServers : Statement → Type 0
IsServers (ClientUpdate update) = ⊥
IsServers s = Unit {0}

-- what a `seal` line may hold
abbrev pub KeepsSealed : Statement → Type 0
KeepsSealed s = KeepsStatement s × IsServers s × (is_bare s ≡ true)

-- a line of the grammar
abbrev pub KeepsLine : Line → Type 0
KeepsLine (lines.Client client op) = length op ≤ MOST_OPERATION
KeepsLine (lines.Flow pairs) = (1 ≤ pairs) × (pairs ≤ MOST_FLOW)
KeepsLine (lines.Stop server call) = (1 ≤ call) × (call ≤ MOST_CALL)
KeepsLine (lines.Seal server s) = KeepsSealed s
KeepsLine _ = Unit {0}

-- a server's numbers are of their widths
abbrev pub FitsServer : ServerId → Type 0
FitsServer s = (s.site < 2 ^ 8) × (s.index < 2 ^ 8)

-- a destination's numbers are of their widths
abbrev pub FitsDest : Dest → Type 0
FitsDest (dests.Server s) = FitsServer s
FitsDest (dests.Client c) = c.0 < 2 ^ 8

-- a line's numbers and bytes are of their widths
abbrev pub FitsLine : Line → Type 0
FitsLine (lines.Client client op) = (client.0 < 2 ^ 8) × IsBytes op
FitsLine (lines.Deliver m to) = (m < 2 ^ 32) × FitsDest to
FitsLine (lines.Drop m to) = (m < 2 ^ 32) × FitsDest to
FitsLine (lines.Lose to) = FitsDest to
FitsLine (lines.Flow pairs) = Unit {0}
FitsLine (lines.Timeout server global) = FitsServer server
FitsLine (lines.Tick server) = FitsServer server
FitsLine (lines.Stop server call) = FitsServer server
FitsLine (lines.Restart server kept) = FitsServer server
FitsLine (lines.Seal server s) = FitsServer server × FitsStatement s × IsBytes (core_spelling s)
FitsLine (lines.Raw to bytes) = FitsDest to × IsBytes bytes
FitsLine (lines.Show m) = m < 2 ^ 32
