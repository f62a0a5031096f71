-- What was read, and then what is read from here, is what is read; and what was read is below what may come.
use Rattle.std.proofs.Common.{◌≡◌, ◌-◌, ◌<◌, All}
use Rattle.st_fields.specs.Reading.{list_at}
use Rattle.st_fields.proofs.Loop.{with_front}
use Rattle.st_wire.specs.Ranges.{first, after_signed}
use Rattle.st_wire.specs.Reading.{signed_at}
use Rattle.st_wire.proofs.parts.read_shares.Given as goal

abbrev pub invariant-loop : goal.invariant-loop
invariant-loop l = (with_front l.quorum (list_at signed_at after_signed (l.count - l.counter) l.least l.rest) ≡ list_at signed_at after_signed l.count first l.bytes) × All (λ s. s.index < l.least.least) l.quorum
