-- The table grew by keys without an entry.
use Rattle.std.proofs.Common.{◌≡◌, ℕ, length}
use Rattle.st_tables.specs.Entries.{entry}
use Rattle.st_tables.proofs.table.Table.put.Given as goal

abbrev pub invariant-loop-key : goal.invariant-loop-key
invariant-loop-key g l = (length l.self-inside.entries ≡ l._key) × (l.item ≡ l.fn.item) × ((k : ℕ) → entry l.self-inside.entries k ≡ entry l.fn.self k)
