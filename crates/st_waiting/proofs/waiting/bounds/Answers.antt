-- A message's places are those between two points of the rising list.
use Rattle.std.proofs.Common.{◌≡◌, ℕ, ◌+◌, ◌-◌, ◌<◌, List, length, take, drop, get_or, arith, rules, length-take, length-drop, sym, ◌∙◌, ap}
use Rattle.std.specs.Prelude.{nat_lt, nat_le}
use Rattle.std.proofs.lemmas.Bool.{ltb-true, leb-false, ne_eqb}
use Rattle.std.proofs.lemmas.List.{get_or-take, get_or-drop, take_rest}
use Rattle.std.proofs.lemmas.List.Sorted.{IsPartitionPoint-from_clause, IsPartitionedBy-leb, IsPartitionedBy-ltb, IsNonDecreasingBy-drop, IsNonDecreasingBy-take}
use Rattle.st_waiting.specs.declared.slot.Slot.{Slot}
use Rattle.st_waiting.proofs.waiting.bounds.Goals as goal

pub returns-clause-before : goal.returns-clause-before
returns-clause-before c =
    let slots : List Slot = c.args.slots.now in
    let low : ℕ = c.partition_point-low.result in
    let m : ℕ = c.args.message in
    let parted = IsPartitionedBy-ltb (λ (s : Slot). s.message) slots m c.requires in
    let point = IsPartitionPoint-from_clause (λ (s : Slot). nat_lt s.message m) slots low c.partition_point-low.ensures.partitioned parted (λ a r q k. search rules) in
    λ k d h.
    let below : k < low = (let size = length-take low slots in omega (arith, h, size)) in
    let less : (get_or slots k d).message < m = ltb-true (get_or slots k d).message m (point.0 k d (omega arith) below) in
    rw (get_or-take low slots k d below) (ne_eqb (get_or slots k d).message m (λ same. omega (arith, same, less)))

pub returns-clause-after : goal.returns-clause-after
returns-clause-after c =
    let slots : List Slot = c.args.slots.now in
    let low : ℕ = c.partition_point-low.result in
    let high : ℕ = c.partition_point-high.result in
    let m : ℕ = c.args.message in
    let list : List Slot = take (length slots - low) (drop low slots) in
    let parted = IsPartitionedBy-leb (λ (s : Slot). s.message) list m (IsNonDecreasingBy-take (λ (s : Slot). s.message) (length slots - low) (drop low slots) (IsNonDecreasingBy-drop (λ (s : Slot). s.message) low slots c.requires)) in
    let point0 = IsPartitionPoint-from_clause (λ (s : Slot). nat_le s.message m) list high c.partition_point-high.ensures.partitioned parted (λ a r q k. search rules) in
    let point = rw (take_rest slots low) at point0 in
    λ k d h.
    let size = length-drop (low + high) slots in
    let rest = length-drop low slots in
    let inside : high + k < length (drop low slots) = omega (arith, h, size, rest) in
    let more : m < (get_or (drop low slots) (high + k) d).message = leb-false (get_or (drop low slots) (high + k) d).message m (point.1 (high + k) d (omega arith) inside) in
    let is : get_or (drop (low + high) slots) k d ≡ get_or (drop low slots) (high + k) d =
    get_or-drop (low + high) slots k d ∙ (ap (λ (j : ℕ). get_or slots j d) (omega arith) ∙ sym (get_or-drop low slots (high + k) d)) in
    rw is (ne_eqb (get_or (drop low slots) (high + k) d).message m (λ same. omega (arith, same, more)))
