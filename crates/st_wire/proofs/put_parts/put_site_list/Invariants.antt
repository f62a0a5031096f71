-- What was put so far stands last.
use Rattle.std.proofs.Common.{◌≡◌, ◌++◌, take}
use Rattle.std.specs.List.{flat_map}
use Rattle.st_wire.specs.Spelling.{site_spelling}
use Rattle.st_wire.proofs.put_parts.put_site_list.Given as goal

abbrev pub invariant-loop-word : goal.invariant-loop-word
invariant-loop-word l = l.out.items ≡ l.fn.out.items ++ flat_map site_spelling (take l.word-index l.words)
