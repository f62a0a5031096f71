-- The pairs in their places, in the order in which they were sent, and which of them wait.
use Rattle.std.specs.Prelude.{ℕ, ◌≡◌, ◌+◌, ◌<◌, ◌≤◌, ◌^◌, Bool, cond, nat_eq, nat_le, ◌&&◌, ◌||◌, not, false, List, [], ◌∷◌, length, drop}
use Rattle.std.specs.List.{All}
use Rattle.std.specs.List.Sorted.{IsNonDecreasingBy}
use Rattle.st_schedule.specs.declared.line.Dest.{Dest}
use Rattle.st_protocol.specs.World as model
use Rattle.st_protocol.specs.Schedule.{is_pair}
use Rattle.st_waiting.specs.declared.marks.Mark.{Mark}
use Rattle.st_waiting.specs.declared.slot.Slot.{Slot}
use Rattle.st_waiting.specs.declared.slot.Pair.{Pair}
use Rattle.st_waiting.specs.Destinations.{key_of, mark_at, starts_of}
use Rattle.st_waiting.specs.Passing.{passing, has_key}

-- a pair, as a world has it
abbrev pub pair_of : Pair → model.Pair
pair_of p = record { message = p.message; to = p.to }

-- the pair in a place
abbrev pub pair_in : Slot → model.Pair
pair_in s = record { message = s.message; to = s.to }

-- whether the pair in place i waits: it isn't gone, and stands where its destination's pairs wait
abbrev pub waits : (ℕ → ℕ) → ℕ → Slot → Bool
waits starts i s = not s.gone && nat_le (starts (key_of s.to)) i

-- the pairs that wait, of the places from i on
unfoldable pub pairs_from : (ℕ → ℕ) → ℕ → List Slot → List model.Pair
pairs_from starts i [] = []
pairs_from starts i (s ∷ ss) = cond (waits starts i s) (pair_in s ∷ pairs_from starts (i + 1) ss) (pairs_from starts (i + 1) ss)

-- the pairs that wait, where none does before a place
abbrev pub waiting_from : List Mark → ℕ → List Slot → List model.Pair
waiting_from marks i slots = pairs_from (starts_of marks) i (drop i slots)

-- a place whose pair is gone if it is that message to that destination
abbrev pub cleared : ℕ → Dest → Slot → Slot
cleared m to s = record s { gone = is_pair m to (pair_in s) || s.gone }

-- none of these places is of the message
abbrev pub NoneOf : ℕ → List Slot → Type 0
NoneOf m slots = All (λ (s : Slot). nat_eq s.message m ≡ false) slots

-- What holds of the places, and of what is noted of them. A place's number fits a mark. Each mark tells how many pairs to
-- its destination wait, so that all of them are lost in constant time. A message's places stand together, since messages
-- are put in by rising numbers, so that they are found without a look at all places.
pub record IsKept (slots : List Slot) (head total : ℕ) (marks : List Mark) (newest : ℕ) : Type 0 where
  pub few : length slots < 2 ^ 32
  pub inside : head ≤ length slots
  pub size : length marks ≡ 65792
  pub starts : (k : ℕ) → (mark_at marks k).start ≤ length slots
  pub counts : (k : ℕ) → k < 65792 → (mark_at marks k).count ≡ passing (has_key k) (waiting_from marks head slots)
  pub all : total ≡ length (waiting_from marks head slots)
  pub rising : IsNonDecreasingBy (λ (s : Slot). s.message) slots
  pub latest : All (λ (s : Slot). s.message ≤ newest) slots
