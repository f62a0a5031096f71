-- A table of slots, where one is added and where one is changed.
use Rattle.std.proofs.Common.{◌≡◌, ℕ, ◌+◌, ◌<◌, ◌≤◌, not, Bool, true, false, cond, IsTrue, List, [], ◌∷◌, ◌++◌, length, map, replicate, Option, Some, None, IsSome, is_some, refl, sym, ◌∙◌, ap, subst, ⊎_elim, arith, get_or, set, length-append, length-set, nat_lt, slice_get, slice_set}
use Rattle.std.specs.List.{find, position, position_or_len}
use Rattle.std.specs.Option.{option_or}
use Rattle.std.proofs.lemmas.Bool.{and_parts, and_from, eqb-true, eq-eqb, cases_lt, ltb-true, lt-ltb, cases_eq, false_from_ne_true}
use Rattle.std.proofs.lemmas.List.{map-append, length-replicate, get_or-replicate, get_or-set_same, get_or-set_other, get_or_past}
use Rattle.std.proofs.lemmas.List.Elements.{All-push, All-set, All-get_or}
use Rattle.std.proofs.lemmas.List.Folds.{find_at, find-set, find_past, find-append, position_or_len_push}
use Rattle.std.proofs.lemmas.List.Sums.{passes_at_first, prefix_len-le-length}
use Rattle.std.proofs.lemmas.Option.{slice_get-get_or, slice_get_past, slice_get_read, slice_get_within, get_or_from_slice_get}
use Rattle.std.proofs.Math.Seq.{map-set_same}
use Rattle.st_counts.specs.Counts.{Has, Distinct}
use Rattle.st_counts.proofs.MemberLaws.{distinct-push}
use Rattle.st_words.specs.declared.value.Value.{Value}
use Rattle.st_registers.specs.declared.slot.Register.{Register}
use Rattle.st_registers.specs.declared.slot.Register.TheVariants.{Unwritten}
use Rattle.st_registers.specs.declared.slot.Slot.{Slot}
use Rattle.st_registers.specs.Slots.{is_at, place_of, is_accepted, proposed_in, register_in, unwritten, Table, slot_at, IsFull, IsTable, IsPlace, KeepsOthers, Places, SetsProposal, SetsRegister}

-- a slot is at its own place
pub is_at-true : (view number : ℕ) (s : Slot) → IsTrue (is_at view number s) → (s.view ≡ view) × (s.number ≡ number)
is_at-true view number s at =
    let parts = and_parts _ _ at in
    (eqb-true _ _ parts.0, eqb-true _ _ parts.1)

-- the view and number are its place
pub is_at-from : (view number : ℕ) (s : Slot) → s.view ≡ view → s.number ≡ number → IsTrue (is_at view number s)
is_at-from view number s v n = and_from _ _ (eq-eqb _ _ v) (eq-eqb _ _ n)

-- and at no other
pub is_at-other : (view number h n : ℕ) (s : Slot) → IsTrue (is_at view number s) → ¬ ((h ≡ view) × (n ≡ number)) → is_at h n s ≡ false
is_at-other view number h n s at other =
    let here = is_at-true view number s at in
    false_from_ne_true _ (λ there. let place = is_at-true h n s there in other (sym place.0 ∙ here.0, sym place.1 ∙ here.1))

-- a position that is none, and one that is found
position-cases : {X : Type 0} (p : X → Bool) (xs : List X) (b : Bool) → nat_lt (position_or_len p xs) (length xs) ≡ b → (k : ℕ) → cond b (Some (position_or_len p xs)) None ≡ Some k → (k ≡ position_or_len p xs) × (k < length xs)
position-cases p xs true e k found =
    let same : position_or_len p xs ≡ k = cc in
    let within : position_or_len p xs < length xs = ltb-true _ _ e in
    (sym same, omega arith)
position-cases p xs false e k found = absurd (let no : None ≡ Some k = found in cc)

-- a position that is found is the first, and within the list
pub position-found : {X : Type 0} (p : X → Bool) (xs : List X) (k : ℕ) → position p xs ≡ Some k → (k ≡ position_or_len p xs) × (k < length xs)
position-found p xs k found = position-cases p xs _ refl k found

-- where there is no position nothing is found
pub position_none : {X : Type 0} (p : X → Bool) (xs : List X) → position p xs ≡ None → find p xs ≡ None
position_none p xs none =
    ⊎_elim
    (λ within. let some : position p xs ≡ Some (position_or_len p xs) = ap (λ b. cond b (Some (position_or_len p xs)) None) (lt-ltb _ _ within) in absurd (cc))
    (λ past. find_at p xs ∙ slice_get_past xs (position_or_len p xs) past)
    (cases_lt (position_or_len p xs) (length xs))

-- what isn't found has no place among the slots
pub none-fresh : (view number : ℕ) (slots : List Slot) → find (is_at view number) slots ≡ None → ¬ Has (view, number) (map place_of slots)
none-fresh view number [] none = λ among. among
none-fresh view number (s ∷ ss) none = by_test (is_at view number s) refl none (none-fresh view number ss)
  where
    by_test : (b : Bool) → is_at view number s ≡ b → cond b (Some s) (find (is_at view number) ss) ≡ None → ((find (is_at view number) ss ≡ None) → ¬ Has (view, number) (map place_of ss)) → ¬ Has (view, number) (map place_of (s ∷ ss))
    by_test true at found later = absurd (let no : Some s ≡ None = found in cc)
    by_test false at rest later =
        ⊎_elim
        (λ (same : (view, number) ≡ place_of s). let no : is_at view number s ≡ true = is_at-from view number s (sym (ap (λ (k : ℕ × ℕ). k.0) same)) (sym (ap (λ (k : ℕ × ℕ). k.1) same)) in cc)
        (later rest)

-- a register where nothing was said is unwritten
pub register-unwritten : (members view number m : ℕ) → get_or (unwritten members view number).registers m Unwritten ≡ Unwritten
register-unwritten members view number m =
    ⊎_elim
    (λ below. get_or-replicate members m Unwritten Unwritten below)
    (λ past. get_or_past (replicate members Unwritten) m Unwritten (omega (arith, length-replicate members Unwritten)))
    (cases_lt m members)

-- ---- a slot is added

-- the table with one slot more, where nothing was said
abbrev pub added : Table → ℕ → ℕ → Table
added table view number =
    record { members = table.members; slots = table.slots ++ unwritten table.members view number ∷ [] }

-- it is a table
pub added-table : (table : Table) (view number : ℕ) → IsTable table → slot_at table view number ≡ None → IsTable (added table view number)
added-table table view number is_table none =
    record {
      distinct =
          subst (λ places. Distinct places) (sym (map-append place_of table.slots (unwritten table.members view number ∷ [])))
          (distinct-push (view, number) (map place_of table.slots) is_table.distinct (none-fresh view number table.slots none));
      full = All-push (IsFull table.members) table.slots (unwritten table.members view number) is_table.full
          (record {
            registers = length-replicate table.members Unwritten;
            backed = λ m accepted. absurd (let no : false ≡ true = ap is_accepted (sym (register-unwritten table.members view number m)) ∙ accepted in cc);
          });
    }

-- a look-up past a slot of another place
lookup-other : (o : Option Slot) (b : Bool) (s : Slot) → b ≡ false → option_or o (cond b (Some s) None) ≡ o
lookup-other (Some x) b s other = refl
lookup-other None true s other = absurd (let no : true ≡ false = other in cc)
lookup-other None false s other = refl

-- a look-up that finds nothing, then the slot
lookup-here : (o : Option Slot) (b : Bool) (s : Slot) → o ≡ None → b ≡ true → option_or o (cond b (Some s) None) ≡ Some s
lookup-here o b s none here = subst (λ x. option_or x (cond b (Some s) None) ≡ Some s) (sym none) (ap (λ c. cond c (Some s) None) here)

-- the slot that was added is found
pub added-here : (table : Table) (view number : ℕ) → slot_at table view number ≡ None → slot_at (added table view number) view number ≡ Some (unwritten table.members view number)
added-here table view number none =
    let new : Slot = unwritten table.members view number in
    find-append (is_at view number) table.slots (new ∷ [])
    ∙ lookup-here (slot_at table view number) (is_at view number new) new none (is_at-from view number new refl refl)

-- and all others as before
pub added-keeps : (table : Table) (view number : ℕ) → KeepsOthers table (added table view number) view number
added-keeps table view number =
    let new : Slot = unwritten table.members view number in
    record {
      members = refl;
      others = λ h n other.
          find-append (is_at h n) table.slots (new ∷ [])
          ∙ lookup-other (slot_at table h n) (is_at h n new) new (is_at-other view number h n new (is_at-from view number new refl refl) other);
    }

-- what isn't found has no position
none-position : (p : Slot → Bool) (slots : List Slot) (d : Slot) → find p slots ≡ None → position_or_len p slots ≡ length slots
none-position p slots d none =
    let most : position_or_len p slots ≤ length slots = prefix_len-le-length (λ s. not (p s)) slots in
    ⊎_elim
    (λ within. absurd (let some : find p slots ≡ Some (get_or slots (position_or_len p slots) d) = find_at p slots ∙ slice_get-get_or slots (position_or_len p slots) d within in cc))
    (λ (past : length slots ≤ position_or_len p slots). omega arith)
    (cases_lt (position_or_len p slots) (length slots))

-- the place of the slot that was added
pub added-place : (table : Table) (view number : ℕ) → slot_at table view number ≡ None → IsPlace (added table view number) view number (length table.slots)
added-place table view number none =
    let new : Slot = unwritten table.members view number in
    record {
      within = omega (arith, length-append table.slots (new ∷ []));
      first = sym (position_or_len_push (is_at view number) table.slots new
          ∙ (ap (λ b. cond b (length table.slots + cond (is_at view number new) 0 1) (position_or_len (is_at view number) table.slots)) (eq-eqb _ _ (none-position (is_at view number) table.slots new none))
          ∙ (ap (λ b. length table.slots + cond b 0 1) (is_at-from view number new refl refl) ∙ omega arith)));
    }

-- it is added where there was none, and nothing new is said
pub added-places : (table : Table) (view number : ℕ) → slot_at table view number ≡ None → Places table (added table view number) view number (length table.slots)
added-places table view number none =
    record {
      keeps = added-keeps table view number;
      is_place = added-place table view number none;
      proposed = ap proposed_in (added-here table view number none) ∙ sym (ap proposed_in none);
      registers = λ m.
          ap (λ o. register_in o m) (added-here table view number none)
          ∙ (register-unwritten table.members view number m ∙ sym (ap (λ o. register_in o m) none));
    }

-- ---- a slot is changed

-- what was read at the place
pub read-at : (table : Table) (view number place : ℕ) (x : Slot) → IsPlace table view number place → x ≡ get_or table.slots place x → slice_get table.slots place ≡ Some x
read-at table view number place x is_place read = slice_get_read table.slots (length table.slots) place x refl is_place.within read

-- the slot at the first place is that of the look-up
pub place-found : (table : Table) (view number place : ℕ) (x : Slot) → IsPlace table view number place → slice_get table.slots place ≡ Some x → slot_at table view number ≡ Some x
place-found table view number place x is_place here =
    find_at (is_at view number) table.slots ∙ (ap (λ k. slice_get table.slots k) (sym is_place.first) ∙ here)

-- and it is at the view and number
pub place-is_at : (table : Table) (view number place : ℕ) (x : Slot) → IsPlace table view number place → slice_get table.slots place ≡ Some x → IsTrue (is_at view number x)
place-is_at table view number place x is_place here =
    let read : get_or table.slots place x ≡ x = get_or_from_slice_get table.slots place x x here in
    let within : position_or_len (is_at view number) table.slots < length table.slots = subst (λ k. k < length table.slots) is_place.first is_place.within in
    let passes : is_at view number (get_or table.slots (position_or_len (is_at view number) table.slots) x) ≡ true = passes_at_first (is_at view number) table.slots x within in
    subst (λ (s : Slot). IsTrue (is_at view number s)) read (subst (λ k. IsTrue (is_at view number (get_or table.slots k x))) (sym is_place.first) passes)

-- the table with another slot at the place
abbrev pub changed : Table → ℕ → Slot → Table
changed table place y = record { members = table.members; slots = slice_set table.slots place y }

-- What a change of the slot at a place leaves: x was there and y is.
pub record Changes (old new : Table) (view number : ℕ) (x y : Slot) : Type 0 where
  pub was : slot_at old view number ≡ Some x
  pub is : slot_at new view number ≡ Some y
  pub keeps : KeepsOthers old new view number
  pub table : IsTable new

-- a full slot of the same view and number may stand in the place of another
pub place-changes : (table : Table) (view number place : ℕ) (x y : Slot) → IsTable table → IsPlace table view number place → slice_get table.slots place ≡ Some x → y.view ≡ x.view → y.number ≡ x.number → IsFull table.members y → Changes table (changed table place y) view number x y
place-changes table view number place x y is_table is_place here same_view same_number full =
    let at_x : IsTrue (is_at view number x) = place-is_at table view number place x is_place here in
    let place_x : (x.view ≡ view) × (x.number ≡ number) = is_at-true view number x at_x in
    let at_y : IsTrue (is_at view number y) = is_at-from view number y (same_view ∙ place_x.0) (same_number ∙ place_x.1) in
    let read : get_or table.slots place x ≡ x = get_or_from_slice_get table.slots place x x here in
    record {
      was = place-found table view number place x is_place here;
      is = find-set (is_at view number) table.slots place y is_place.first is_place.within at_y;
      keeps = record {
        members = refl;
        others = λ h n other.
            find_past (is_at h n) table.slots place y x
            (ap (is_at h n) read ∙ is_at-other view number h n x at_x other)
            (is_at-other view number h n y at_y other);
      };
      table = record {
        distinct = subst (λ places. Distinct places)
            (sym (map-set_same place_of table.slots place y x ((λ i. (same_view i, same_number i)) ∙ ap place_of (sym read))))
            is_table.distinct;
        full = All-set (IsFull table.members) table.slots place y full is_table.full;
      };
    }

-- a slot of a table is full
pub full-at : (table : Table) (place : ℕ) (x : Slot) → IsTable table → slice_get table.slots place ≡ Some x → IsFull table.members x
full-at table place x is_table here =
    subst (λ (s : Slot). IsFull table.members s) (get_or_from_slice_get table.slots place x x here)
    (All-get_or (IsFull table.members) table.slots place x (slice_get_within table.slots place x here) is_table.full)

-- one change after a place was made
changes-after : (old mid new : Table) (view number : ℕ) (x y : Slot) → KeepsOthers old mid view number → Changes mid new view number x y → KeepsOthers old new view number
changes-after old mid new view number x y first second =
    record {
      members = second.keeps.members ∙ first.members;
      others = λ h n other. second.keeps.others h n other ∙ first.others h n other;
    }

-- ---- a value is proposed

-- the slot with the value proposed
abbrev pub with_proposed : Slot → Value → Slot
with_proposed x v = record x { proposed = Some v }

-- the table in which it is
pub proposal-changes : (old mid : Table) (view number place : ℕ) (x : Slot) (v : Value) → IsTable mid → Places old mid view number place → slice_get mid.slots place ≡ Some x → Changes mid (changed mid place (with_proposed x v)) view number x (with_proposed x v)
proposal-changes old mid view number place x v is_table places here =
    let full : IsFull mid.members x = full-at mid place x is_table here in
    place-changes mid view number place x (with_proposed x v) is_table places.is_place here refl refl
    (record { registers = full.registers; backed = λ m accepted. refl })

-- where no value is proposed no register is accepted
unbacked : (members : ℕ) (x : Slot) (m : ℕ) → IsFull members x → x.proposed ≡ None → is_accepted (get_or x.registers m Unwritten) ≡ false
unbacked members x m full none =
    false_from_ne_true _ (λ accepted. let backed : is_some x.proposed ≡ true = full.backed m accepted in
    let unbacked : is_some x.proposed ≡ false = ap is_some none in cc)

-- and what it says
pub proposal-sets : (old mid : Table) (view number place : ℕ) (x : Slot) (v : Value) → IsTable mid → Places old mid view number place → slice_get mid.slots place ≡ Some x → proposed_in (slot_at old view number) ≡ None → SetsProposal old (changed mid place (with_proposed x v)) view number v
proposal-sets old mid view number place x v is_table places here none =
    let change : Changes mid (changed mid place (with_proposed x v)) view number x (with_proposed x v) = proposal-changes old mid view number place x v is_table places here in
    let free : x.proposed ≡ None = ap proposed_in (sym change.was) ∙ (places.proposed ∙ none) in
    let registers : (m : ℕ) → get_or x.registers m Unwritten ≡ register_in (slot_at old view number) m =
    λ m. ap (λ o. register_in o m) (sym change.was) ∙ places.registers m in
    record {
      keeps = changes-after old mid (changed mid place (with_proposed x v)) view number x (with_proposed x v) places.keeps change;
      proposed = ap proposed_in change.is;
      registers = λ m. ap (λ o. register_in o m) change.is ∙ registers m;
      not_accepted = λ m. ap is_accepted (sym (registers m)) ∙ unbacked mid.members x m (full-at mid place x is_table here) free;
    }

-- ---- a register is written

-- the slot with the member's register written
abbrev pub with_register : Slot → ℕ → Register → Slot
with_register x member register = record x { registers = slice_set x.registers member register }

-- it stays full, where an accepted register has a value behind it
pub register-full : (members member : ℕ) (x : Slot) (register : Register) → member < members → IsFull members x → (IsTrue (is_accepted register) → IsSome x.proposed) → IsFull members (with_register x member register)
register-full members member x register within full backed =
    record {
      registers = length-set x.registers member register ∙ full.registers;
      backed = λ m accepted.
          ⊎_elim
          (λ (same : m ≡ member). backed (subst (λ (r : Register). IsTrue (is_accepted r))
          (get_or-set_same x.registers member register Unwritten (subst (λ k. member < k) (sym full.registers) within))
          (subst (λ k. IsTrue (is_accepted (get_or (set x.registers member register) k Unwritten))) same accepted)))
          (λ other. full.backed m (subst (λ (r : Register). IsTrue (is_accepted r)) (get_or-set_other x.registers member m register Unwritten other) accepted))
          (cases_eq m member);
    }

-- the table in which it is
pub register-changes : (old mid : Table) (member view number place : ℕ) (x : Slot) (register : Register) → IsTable mid → Places old mid view number place → slice_get mid.slots place ≡ Some x → member < old.members → (IsTrue (is_accepted register) → IsSome (proposed_in (slot_at old view number))) → Changes mid (changed mid place (with_register x member register)) view number x (with_register x member register)
register-changes old mid member view number place x register is_table places here within backed =
    let full : IsFull mid.members x = full-at mid place x is_table here in
    let within_mid : member < mid.members = subst (λ k. member < k) (sym places.keeps.members) within in
    let same : proposed_in (slot_at old view number) ≡ x.proposed =
    sym places.proposed ∙ ap proposed_in (place-found mid view number place x places.is_place here) in
    place-changes mid view number place x (with_register x member register) is_table places.is_place here refl refl
    (register-full mid.members member x register within_mid full (λ accepted. subst (λ o. IsSome o) same (backed accepted)))

-- and what it says
pub register-sets : (old mid : Table) (member view number place : ℕ) (x : Slot) (register : Register) → IsTable mid → Places old mid view number place → slice_get mid.slots place ≡ Some x → member < old.members → (IsTrue (is_accepted register) → IsSome (proposed_in (slot_at old view number))) → SetsRegister old (changed mid place (with_register x member register)) member view number register
register-sets old mid member view number place x register is_table places here within backed =
    let y : Slot = with_register x member register in
    let change : Changes mid (changed mid place y) view number x y = register-changes old mid member view number place x register is_table places here within backed in
    let full : IsFull mid.members x = full-at mid place x is_table here in
    let within_x : member < length x.registers = subst (λ k. member < k) (sym places.keeps.members ∙ sym full.registers) within in
    record {
      keeps = changes-after old mid (changed mid place y) view number x y places.keeps change;
      proposed = ap proposed_in change.is ∙ (ap proposed_in (sym change.was) ∙ places.proposed);
      here = ap (λ o. register_in o member) change.is ∙ get_or-set_same x.registers member register Unwritten within_x;
      registers = λ m other.
          ap (λ o. register_in o m) change.is
          ∙ (get_or-set_other x.registers member m register Unwritten other ∙ (ap (λ o. register_in o m) (sym change.was) ∙ places.registers m));
    }
