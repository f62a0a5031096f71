-- Seals without the places where they stand.
use Rattle.st_protocol.specs.World.{SealIn}
use Rattle.st_protocol.specs.Known.{Sealed}

-- who sealed what
abbrev pub without_place : SealIn → Sealed
without_place x = record { who = x.who; statement = x.statement; seal = x.seal }
