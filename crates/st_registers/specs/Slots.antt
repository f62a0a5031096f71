-- One view and number of a flat world, as data, and tables of these.
use Rattle.std.specs.Prelude.{◌≡◌, ℕ, ◌<◌, ◌*◌, ◌==◌, ◌&&◌, ◌||◌, Bool, true, false, nat_lt, IsTrue, IsSome, Option, Some, None, List, All, length, map, replicate, slice_index_or}
use Rattle.std.specs.List.{find, position_or_len}
use Rattle.st_words.specs.declared.value.Value.{Value}
use Rattle.st_counts.specs.Counts.{count, Distinct}
use Rattle.st_registers.specs.Values.{value_eq}
use Rattle.st_registers.specs.declared.slot.Register.{Register}
use Rattle.st_registers.specs.declared.slot.Register.TheVariants.{Unwritten, Accepted, Closed}
use Rattle.st_registers.specs.declared.slot.Slot.{Slot}

-- the slot is that of the view and number
abbrev pub is_at : ℕ → ℕ → Slot → Bool
is_at view number slot = slot.view == view && slot.number == number

-- where a slot stands: its view and number
abbrev pub place_of : Slot → ℕ × ℕ
place_of slot = (slot.view, slot.number)

-- the value that is proposed, where one is, is this one
abbrev pub is_value : Value → Option Value → Bool
is_value v None = false
is_value v (Some u) = value_eq u v

-- the register is accepted
abbrev pub is_accepted : Register → Bool
is_accepted Accepted = true
is_accepted _ = false

-- the register is closed
abbrev pub is_closed : Register → Bool
is_closed Closed = true
is_closed _ = false

-- the value that a slot has proposed; none where there is no slot
abbrev pub proposed_in : Option Slot → Option Value
proposed_in None = None
proposed_in (Some slot) = slot.proposed

-- a member's register in a slot; unwritten where there is no slot
abbrev pub register_in : Option Slot → ℕ → Register
register_in None member = Unwritten
register_in (Some slot) member = slice_index_or slot.registers member Unwritten

-- the slot has the value proposed, or a majority of its registers closed: it lets higher views have it
abbrev pub lets : ℕ → Value → Slot → Bool
lets members v slot = is_value v slot.proposed || nat_lt members (2 * count is_closed slot.registers)

-- a slot where nothing was said
abbrev pub unwritten : ℕ → ℕ → ℕ → Slot
unwritten members view number =
    record { view = view; number = number; proposed = None; registers = replicate members Unwritten }

-- the slot is of a lower view at the number, and lets higher ones have the value
abbrev pub is_safe_view : ℕ → ℕ → ℕ → Value → Slot → Bool
is_safe_view view number members v slot =
    nat_lt slot.view view && slot.number == number && lets members v slot

-- what a flat world holds for its members beside the log: the slots of which something was said
pub record Table : Type 0 where
  pub members : ℕ
  pub slots : List Slot

-- the slot of the view and number
abbrev pub slot_at : Table → ℕ → ℕ → Option Slot
slot_at table view number = find (is_at view number) table.slots

-- a slot has a register for each member, and accepted ones only where a value is proposed
pub record IsFull (members : ℕ) (slot : Slot) : Type 0 where
  pub registers : length slot.registers ≡ members
  pub backed : (m : ℕ) → IsTrue (is_accepted (slice_index_or slot.registers m Unwritten)) → IsSome slot.proposed

-- each view and number has one slot, and each slot is full
pub record IsTable (table : Table) : Type 0 where
  pub distinct : Distinct (map place_of table.slots)
  pub full : All (IsFull table.members) table.slots

-- the slot of the view and number stands at this place
pub record IsPlace (table : Table) (view number place : ℕ) : Type 0 where
  pub within : place < length table.slots
  pub first : place ≡ position_or_len (is_at view number) table.slots

-- The slots of all other views and numbers are as they were.
pub record KeepsOthers (old new : Table) (view number : ℕ) : Type 0 where
  pub members : new.members ≡ old.members
  pub others : (h n : ℕ) → ¬ ((h ≡ view) × (n ≡ number)) → slot_at new h n ≡ slot_at old h n

-- The slot of the view and number stands at this place, and nothing new is said there.
pub record Places (old new : Table) (view number place : ℕ) : Type 0 where
  pub keeps : KeepsOthers old new view number
  pub is_place : IsPlace new view number place
  pub proposed : proposed_in (slot_at new view number) ≡ proposed_in (slot_at old view number)
  pub registers : (m : ℕ) → register_in (slot_at new view number) m ≡ register_in (slot_at old view number) m

-- The value is proposed in the view at the number, where no register is accepted.
pub record SetsProposal (old new : Table) (view number : ℕ) (v : Value) : Type 0 where
  pub keeps : KeepsOthers old new view number
  pub proposed : proposed_in (slot_at new view number) ≡ Some v
  pub registers : (m : ℕ) → register_in (slot_at new view number) m ≡ register_in (slot_at old view number) m
  pub not_accepted : (m : ℕ) → is_accepted (register_in (slot_at old view number) m) ≡ false

-- The member's register of the view and number is written.
pub record SetsRegister (old new : Table) (member view number : ℕ) (register : Register) : Type 0 where
  pub keeps : KeepsOthers old new view number
  pub proposed : proposed_in (slot_at new view number) ≡ proposed_in (slot_at old view number)
  pub here : register_in (slot_at new view number) member ≡ register
  pub registers : (m : ℕ) → ¬ (m ≡ member) → register_in (slot_at new view number) m ≡ register_in (slot_at old view number) m
