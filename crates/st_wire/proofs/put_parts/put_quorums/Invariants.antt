-- What was put so far stands last.
use Rattle.std.proofs.Common.{◌≡◌, ◌++◌, take}
use Rattle.std.specs.List.{flat_map}
use Rattle.st_wire.specs.Spelling.{quorum_spelling}
use Rattle.st_wire.proofs.put_parts.put_quorums.Given as goal

abbrev pub invariant-loop-quorum : goal.invariant-loop-quorum
invariant-loop-quorum l = l.out.items ≡ l.fn.out.items ++ flat_map quorum_spelling (take l.quorum-index l.quorums)
