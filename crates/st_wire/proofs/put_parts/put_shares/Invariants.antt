-- What was put so far stands last.
use Rattle.std.proofs.Common.{◌≡◌, ◌++◌, take}
use Rattle.std.specs.List.{flat_map}
use Rattle.st_wire.specs.Spelling.{signed_spelling}
use Rattle.st_wire.proofs.put_parts.put_shares.Given as goal

abbrev pub invariant-loop-signed : goal.invariant-loop-signed
invariant-loop-signed l = l.out.items ≡ l.fn.out.items ++ flat_map signed_spelling (take l.signed-index l.shares)
