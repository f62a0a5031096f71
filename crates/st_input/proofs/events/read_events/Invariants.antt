-- The lines so far are read.
use denote.Text.{Utf8}
use denote.Shadow.{shadow}
use Rattle.std.proofs.Common.{length}
use Rattle.std.specs.List.{All}
use Rattle.st_config.specs.Built.{IsBuilt}
use Rattle.st_input.proofs.EventLaws.{IsReading}
use Rattle.st_input.proofs.events.read_events.Given as goal

abbrev pub invariant-loop-rest : goal.invariant-loop-rest
invariant-loop-rest l = record { reading : IsReading l.text l.first l.events l.number l.rest; built : All (λ x. IsBuilt x.line) l.events; utf8 : shadow (Utf8 l.rest) }

abbrev pub decreases-loop-rest : goal.decreases-loop-rest
decreases-loop-rest l = length l.rest
