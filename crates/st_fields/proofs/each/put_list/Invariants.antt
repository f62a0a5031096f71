-- The elements so far stand last.
use Rattle.std.proofs.Common.{◌≡◌, ◌++◌, take}
use Rattle.std.specs.List.{flat_map}
use Rattle.st_fields.proofs.each.put_list.Given as goal

abbrev pub invariant-loop-element : goal.invariant-loop-element
invariant-loop-element g l = l.out.items ≡ l.fn.out.items ++ flat_map g.T.Spelled.spelling (take l.element-index l.elements)
