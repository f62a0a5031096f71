-- The sizes of the items so far, each of at most 1,044 bytes.
use Rattle.std.proofs.Common.{◌≡◌, ◌*◌, ◌≤◌, length, take}
use Rattle.std.specs.List.{flat_map}
use Rattle.st_words.specs.Spelling.{item_spelling}
use Rattle.st_wire.proofs.size.item_list_size.Given as goal

abbrev pub invariant-loop-item : goal.invariant-loop-item
invariant-loop-item l = (l.size ≡ length (flat_map item_spelling (take l.item-index l.items))) × (l.size ≤ l.item-index * 1044)
