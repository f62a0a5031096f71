-- So many keys have no entry.
use Rattle.std.proofs.Common.{◌≡◌, None, replicate}
use Rattle.st_tables.proofs.table.Table.new.Given as goal

abbrev pub invariant-loop-key : goal.invariant-loop-key
invariant-loop-key g l = l.entries ≡ replicate l._key None
