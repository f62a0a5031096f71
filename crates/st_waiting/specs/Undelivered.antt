-- What waits, as a world sees it.
use Rattle.std.specs.Prelude.{ℕ, List}
use Rattle.st_protocol.specs.World as model
use Rattle.st_waiting.specs.declared.waiting.Waiting.{Waiting}
use Rattle.st_waiting.specs.Places.{waiting_from}

-- the pairs that wait, in the order in which they were sent
unfoldable pub pairs_in : Waiting → List model.Pair
pairs_in w = waiting_from w.marks w.head w.slots

-- the number of the last message that was put in
abbrev pub newest_in : Waiting → ℕ
newest_in w = w.newest
