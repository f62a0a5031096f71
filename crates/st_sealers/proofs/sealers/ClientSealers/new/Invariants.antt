-- So many places are made, all of them empty.
use Rattle.std.proofs.Common.{◌≡◌, length}
use Rattle.st_seal.specs.Scheme.{Scheme}
use Rattle.st_sealers.specs.Keeping.{AreOwn}
use Rattle.st_sealers.proofs.sealers.ClientSealers.new.Given as goal

abbrev pub invariant-loop-client : goal.invariant-loop-client
invariant-loop-client l = (length l.places.items ≡ l._client) × ((s : Scheme) → AreOwn s l.places.items)
