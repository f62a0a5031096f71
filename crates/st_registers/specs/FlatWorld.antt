-- A flat world as data, and its tests.
use Rattle.std.specs.Prelude.{◌≡◌, ℕ, ◌==◌, ◌&&◌, Bool, List, []}
use Rattle.std.specs.List.{list_any}
use Rattle.st_words.specs.declared.value.Value.{Value}
use Rattle.st_counts.specs.Counts.{Has, numbers_below}
use Rattle.st_registers.specs.Advances.{IsWell}
use Rattle.st_registers.specs.Slots.{Table, slot_at, proposed_in, register_in, is_value, is_accepted, is_closed}
use Rattle.st_registers.specs.Steps.{FlatStep}
use Rattle.st_registers.specs.Tests.{Tests}
use Rattle.st_registers.specs.Values.{value_eq}
use Rattle.st_registers.specs.declared.ordered.Ordered.{Ordered}

-- the slots of the members, and the log
pub record FlatWorld : Type 0 where
  pub table : Table
  pub log : List Ordered

-- where nothing has happened
abbrev pub empty : ℕ → FlatWorld
empty members = record { table = record { members = members; slots = [] }; log = [] }

-- a table's tests of a number, with those of a log
abbrev pub tests_in : Table → ℕ → (Value → Bool) → Tests Value
tests_in table number logged =
    record {
      members = numbers_below table.members;
      proposed = λ view v. is_value v (proposed_in (slot_at table view number));
      accepted = λ member view v. is_value v (proposed_in (slot_at table view number)) && is_accepted (register_in (slot_at table view number) member);
      closed = λ member view. is_closed (register_in (slot_at table view number) member);
      logged = logged;
    }

-- the log has the value at the number
abbrev pub is_logged : List Ordered → ℕ → Value → Bool
is_logged log number v = list_any (λ o. o.number == number && value_eq o.value v) log

-- the tests of each number
abbrev pub tests_of : FlatWorld → ℕ → Tests Value
tests_of world number = tests_in world.table number (is_logged world.log number)

-- a flat step from one world to the next
abbrev pub Steps : FlatWorld → FlatWorld → Type 0
Steps old new = FlatStep (tests_of old) (tests_of new)

-- all pairs of a log have one value for one number
abbrev pub HasOneValue : List Ordered → Type 0
HasOneValue log = (a b : Ordered) → Has a log → Has b log → a.number ≡ b.number → a.value ≡ b.value

-- all pairs of the logs of a list of worlds do
abbrev pub OrdersOneValue : List FlatWorld → Type 0
OrdersOneValue worlds =
    (x y : FlatWorld) → Has x worlds → Has y worlds → (a b : Ordered) → Has a x.log → Has b y.log → a.number ≡ b.number → a.value ≡ b.value

-- what a flat world's steps keep, at each number
abbrev pub IsSound : FlatWorld → Type 0
IsSound world = (number : ℕ) → IsWell (tests_of world number)
