-- The lines so far are of the header.
use denote.Text.{Utf8}
use denote.Shadow.{shadow}
use Rattle.std.proofs.Common.{length}
use Rattle.st_input.proofs.PartedLaws.{IsParting}
use Rattle.st_input.proofs.parted.part.Given as goal

abbrev pub invariant-loop-line : goal.invariant-loop-line
invariant-loop-line l = record { parting : IsParting l.text l.header l.number l.rest; utf8 : shadow (Utf8 l.rest) }

abbrev pub decreases-loop-line : goal.decreases-loop-line
decreases-loop-line l = length l.rest
