-- Majorities of a slot's registers, and safe values by a count of slots.
use Rattle.std.proofs.Common.{◌≡◌, ◌↔◌, ℕ, ◌*◌, ◌<◌, ◌≤◌, ◌⊎◌, Bool, true, false, not, cond, IsTrue, List, [], ◌∷◌, length, map, filter, Option, Some, None, IsSome, refl, sym, ◌∙◌, ap, subst, inl, inr, ⊎_elim, arith, get_or, nat_lt, leb}
use Rattle.std.specs.Bool.{MatchBool}
use Rattle.std.specs.List.{find}
use Rattle.std.proofs.lemmas.Bool.{and_parts, and_from, eqb-true, eq-eqb, ltb-true, lt-ltb, or_cases, or_left, or_right, both_ways, leb-true, leb-false, not-true}
use Rattle.std.proofs.lemmas.List.{length-map}
use Rattle.std.proofs.lemmas.List.Folds.{find_at}
use Rattle.st_counts.specs.Counts.{Has, Distinct, HasMajority, Found, count, numbers_below}
use Rattle.st_counts.proofs.CountLaws.{count-none, count-full, count-not, count-le, length-filter, found}
use Rattle.st_counts.proofs.MemberLaws.{count-places, length-numbers_below, numbers_below-lt, has-numbers_below, distinct-numbers_below, distinct-filter, distinct-le-count, has-filter, filter-has, has-map, map-has}
use Rattle.st_words.specs.declared.value.Value.{Value}
use Rattle.st_registers.specs.declared.slot.Register.{Register}
use Rattle.st_registers.specs.declared.slot.Register.TheVariants.{Unwritten}
use Rattle.st_registers.specs.declared.slot.Slot.{Slot}
use Rattle.st_registers.specs.Answers.{IsUnsafe}
use Rattle.st_registers.specs.FlatWorld.{tests_in}
use Rattle.st_registers.specs.Slots.{is_at, place_of, is_value, is_accepted, is_closed, proposed_in, register_in, lets, is_safe_view, Table, slot_at, IsFull, IsTable}
use Rattle.st_registers.specs.Tests.{Safe}
use Rattle.st_registers.proofs.TableLaws.{is_at-true, is_at-from, full-at}

-- ---- majorities

-- where nothing was said no majority has written
pub majority-nowhere : (members : ℕ) (p : Register → Bool) → p Unwritten ≡ false → ¬ HasMajority (numbers_below members) (λ m. p Unwritten)
majority-nowhere members p unwritten most =
    let none : count (λ m. p Unwritten) (numbers_below members) ≡ 0 = count-none (λ m. p Unwritten) (numbers_below members) (λ m among passes. both_ways (p Unwritten) unwritten passes) in
    omega (arith, most)

-- the members whose registers pass are as many as the registers that pass
pub majority-slot : (members : ℕ) (p : Register → Bool) (slot : Slot) → length slot.registers ≡ members → HasMajority (numbers_below members) (λ m. p (get_or slot.registers m Unwritten)) ↔ (members < 2 * count p slot.registers)
majority-slot members p slot full =
    let many : length (numbers_below members) ≡ members = length-numbers_below members in
    let same : count (λ m. p (get_or slot.registers m Unwritten)) (numbers_below members) ≡ count p slot.registers =
    subst (λ n. count (λ m. p (get_or slot.registers m Unwritten)) (numbers_below n) ≡ count p slot.registers) full (count-places p slot.registers Unwritten) in
    (λ most. omega (arith, most), λ most. omega (arith, most))

-- ---- look-ups

-- what is found is among the slots, at its place
pub find-has : (view number : ℕ) (slots : List Slot) (s : Slot) → find (is_at view number) slots ≡ Some s → Has s slots × IsTrue (is_at view number s)
find-has view number [] s found = absurd (let no : None ≡ Some s = found in cc)
find-has view number (x ∷ xs) s found = by_test (is_at view number x) refl (find-has view number xs s) found
  where
    by_test : (b : Bool) → is_at view number x ≡ b → ((find (is_at view number) xs ≡ Some s) → Has s xs × IsTrue (is_at view number s)) → cond b (Some x) (find (is_at view number) xs) ≡ Some s → ((s ≡ x) ⊎ Has s xs) × IsTrue (is_at view number s)
    by_test true at later here =
        let same : x ≡ s = cc in
        (inl (sym same), subst (λ (y : Slot). IsTrue (is_at view number y)) same at)
    by_test false at later rest = (inr (later rest).0, (later rest).1)

-- each of the slots is found at its place, since no other is there
pub has-find : (view number : ℕ) (slots : List Slot) (s : Slot) → Distinct (map place_of slots) → Has s slots → IsTrue (is_at view number s) → find (is_at view number) slots ≡ Some s
has-find view number [] s distinct among at = absurd among
has-find view number (x ∷ xs) s distinct (inl same) at =
    ap (λ b. cond b (Some x) (find (is_at view number) xs)) (subst (λ (y : Slot). IsTrue (is_at view number y)) same at) ∙ ap (λ y. Some y) (sym same)
has-find view number (x ∷ xs) s distinct (inr among) at = by_test (is_at view number x) refl (has-find view number xs s distinct.1 among at)
  where
    by_test : (b : Bool) → is_at view number x ≡ b → find (is_at view number) xs ≡ Some s → cond b (Some x) (find (is_at view number) xs) ≡ Some s
    by_test true at_x later =
        let here = is_at-true view number x at_x in
        let there = is_at-true view number s at in
        let same : place_of s ≡ place_of x = λ i. ((there.0 ∙ sym here.0) i, (there.1 ∙ sym here.1) i) in
        absurd (distinct.0 (subst (λ place. Has place (map place_of xs)) same (has-map place_of s xs among)))
    by_test false at_x later = later

-- a slot that is found is full
pub full-found : (table : Table) (view number : ℕ) (s : Slot) → IsTable table → slot_at table view number ≡ Some s → IsFull table.members s
full-found table view number s is_table at =
    full-at table _ s is_table (sym (find_at (is_at view number) table.slots) ∙ at)

-- ---- views that let higher ones have a value

-- the slot, if there is one, lets higher views have the value
abbrev pub lets_in : ℕ → Value → Option Slot → Bool
lets_in members v None = false
lets_in members v (Some slot) = lets members v slot

-- the views of the slots that do
abbrev pub safe_views : ℕ → ℕ → Table → Value → List ℕ
safe_views view number table v = map (λ s. s.view) (filter (is_safe_view view number table.members v) table.slots)

-- the parts of the test
safe_view-parts : (view number members : ℕ) (v : Value) (s : Slot) → IsTrue (is_safe_view view number members v s) → (s.view < view) × (s.number ≡ number) × IsTrue (lets members v s)
safe_view-parts view number members v s passes =
    let outer = and_parts _ _ passes in
    let inner = and_parts _ _ outer.0 in
    (ltb-true s.view view inner.0, eqb-true s.number number inner.1, outer.1)

-- the views of slots of one number are distinct
distinct-views : (view number members : ℕ) (v : Value) (slots : List Slot) → Distinct (map place_of slots) → Distinct (map (λ s. s.view) (filter (is_safe_view view number members v) slots))
distinct-views view number members v [] distinct = tt
distinct-views view number members v (s ∷ ss) distinct =
    by_test (is_safe_view view number members v s) refl (distinct-views view number members v ss distinct.1)
  where
    kept : List Slot
    kept = filter (is_safe_view view number members v) ss

    fresh : IsTrue (is_safe_view view number members v s) → ¬ Has s.view (map (λ (x : Slot). x.view) kept)
    fresh passes among =
        let image = map-has (λ (x : Slot). x.view) s.view kept among in
        let other : Has image.0 ss × IsTrue (is_safe_view view number members v image.0) = filter-has (is_safe_view view number members v) image.0 ss image.1.0 in
        let here = safe_view-parts view number members v s passes in
        let there = safe_view-parts view number members v image.0 other.1 in
        let same : place_of image.0 ≡ place_of s = λ i. (image.1.1 i, (there.1 ∙ sym here.1) i) in
        distinct.0 (subst (λ place. Has place (map place_of ss)) same (has-map place_of image.0 ss other.0))

    by_test : (b : Bool) → is_safe_view view number members v s ≡ b → Distinct (map (λ (x : Slot). x.view) kept) → Distinct (map (λ (x : Slot). x.view) (cond b (s ∷ kept) kept))
    by_test true passes rest = (fresh passes, rest)
    by_test false fails rest = rest

-- each of these views lets higher ones have the value
safe_views-let : (view number : ℕ) (table : Table) (v : Value) → IsTable table → (h : ℕ) → Has h (safe_views view number table v) → (h < view) × IsTrue (lets_in table.members v (slot_at table h number))
safe_views-let view number table v is_table h among =
    let image = map-has (λ (x : Slot). x.view) h (filter (is_safe_view view number table.members v) table.slots) among in
    let slot : Slot = image.0 in
    let kept = filter-has (is_safe_view view number table.members v) slot table.slots image.1.0 in
    let parts = safe_view-parts view number table.members v slot kept.1 in
    let at : slot_at table h number ≡ Some slot = has-find h number table.slots slot is_table.distinct kept.0 (is_at-from h number slot image.1.1 parts.1) in
    (subst (λ k. k < view) image.1.1 parts.0, subst (λ o. IsTrue (lets_in table.members v o)) (sym at) parts.2)

-- and each view below that does is one of them
let-safe_views : (view number : ℕ) (table : Table) (v : Value) (h : ℕ) → h < view → (o : Option Slot) → slot_at table h number ≡ o → IsTrue (lets_in table.members v o) → Has h (safe_views view number table v)
let-safe_views view number table v h below None at passes = absurd (let no : false ≡ true = passes in cc)
let-safe_views view number table v h below (Some slot) at passes =
    let here = find-has h number table.slots slot at in
    let place = is_at-true h number slot here.1 in
    let safe : IsTrue (is_safe_view view number table.members v slot) =
    and_from _ _ (and_from _ _ (lt-ltb slot.view view (subst (λ k. k < view) (sym place.0) below)) (eq-eqb slot.number number place.1)) passes in
    subst (λ k. Has k (safe_views view number table v)) place.0
    (has-map (λ (x : Slot). x.view) slot (filter (is_safe_view view number table.members v) table.slots)
    (has-filter (is_safe_view view number table.members v) slot table.slots safe here.0))

-- so the slots that pass are as many as the views that do
pub count-safe_views : (view number : ℕ) (table : Table) (v : Value) → IsTable table → count (is_safe_view view number table.members v) table.slots ≡ count (λ h. lets_in table.members v (slot_at table h number)) (numbers_below view)
count-safe_views view number table v is_table =
    let lets_at : ℕ → Bool = λ h. lets_in table.members v (slot_at table h number) in
    let views : List ℕ = safe_views view number table v in
    let many : length views ≡ count (is_safe_view view number table.members v) table.slots =
    length-map (filter (is_safe_view view number table.members v) table.slots) (λ (x : Slot). x.view) ∙ length-filter (is_safe_view view number table.members v) table.slots in
    let most : length views ≤ count lets_at (numbers_below view) =
    distinct-le-count lets_at views (numbers_below view) (distinct-views view number table.members v table.slots is_table.distinct)
    (λ h among. has-numbers_below h view (safe_views-let view number table v is_table h among).0)
    (λ h among. (safe_views-let view number table v is_table h among).1) in
    let passing : List ℕ = filter lets_at (numbers_below view) in
    let least : length passing ≤ count (λ h. true) views =
    distinct-le-count (λ h. true) passing views (distinct-filter lets_at (numbers_below view) (distinct-numbers_below view))
    (λ h among. let kept = filter-has lets_at h (numbers_below view) among in
    let-safe_views view number table v h (numbers_below-lt h view kept.0) (slot_at table h number) refl kept.1)
    (λ h among. refl) in
    let all : count (λ h. true) views ≤ length views = count-le (λ h. true) views in
    omega (arith, length-filter lets_at (numbers_below view))

-- ---- safe or not

-- what a slot lets: the value is proposed, or a majority of the registers closed
lets-parts : (members : ℕ) (v : Value) (o : Option Slot) → ((s : Slot) → o ≡ Some s → length s.registers ≡ members) → IsTrue (lets_in members v o) → IsTrue (is_value v (proposed_in o)) ⊎ HasMajority (numbers_below members) (λ m. is_closed (register_in o m))
lets-parts members v None full passes = absurd (let no : false ≡ true = passes in cc)
lets-parts members v (Some s) full passes =
    ⊎_elim (λ standing. inl standing)
    (λ most. inr ((majority-slot members is_closed s (full s refl)).1 (ltb-true members (2 * count is_closed s.registers) most)))
    (or_cases (is_value v s.proposed) (nat_lt members (2 * count is_closed s.registers)) passes)

-- and what it doesn't
lets-neither : (members : ℕ) (v : Value) (o : Option Slot) → ((s : Slot) → o ≡ Some s → length s.registers ≡ members) → lets_in members v o ≡ false → (¬ IsTrue (is_value v (proposed_in o))) × (¬ HasMajority (numbers_below members) (λ m. is_closed (register_in o m)))
lets-neither members v None full fails = (λ (no : false ≡ true). cc, majority-nowhere members is_closed refl)
lets-neither members v (Some s) full fails = (
  λ standing. both_ways (lets members v s) fails (or_left _ _ standing),
  λ most. both_ways (lets members v s) fails
      (or_right _ _ (lt-ltb members (2 * count is_closed s.registers) ((majority-slot members is_closed s (full s refl)).0 most))),
)

-- The value is safe where as many slots let it as there are lower views, and else unsafe.
pub safe_by_count : (view number : ℕ) (table : Table) (v : Value) → IsTable table → (b : Bool) → leb view (count (is_safe_view view number table.members v) table.slots) ≡ b → MatchBool b (Safe (tests_in table number (λ _. false)) view v) (IsUnsafe (tests_in table number (λ _. false)) view v)
safe_by_count view number table v is_table true enough =
    let lets_at : ℕ → Bool = λ h. lets_in table.members v (slot_at table h number) in
    let all : length (numbers_below view) ≤ count lets_at (numbers_below view) =
    omega (arith, leb-true _ _ enough, count-safe_views view number table v is_table, length-numbers_below view) in
    λ h below. lets-parts table.members v (slot_at table h number) (λ s at. (full-found table h number s is_table at).registers)
    (count-full lets_at (numbers_below view) all h (has-numbers_below h view below))
safe_by_count view number table v is_table false few =
    let lets_at : ℕ → Bool = λ h. lets_in table.members v (slot_at table h number) in
    let some : 0 < count (λ h. not (lets_at h)) (numbers_below view) =
    omega (arith, leb-false _ _ few, count-safe_views view number table v is_table, length-numbers_below view, count-not lets_at (numbers_below view)) in
    let lower : Found (λ h. not (lets_at h)) (numbers_below view) = found (λ h. not (lets_at h)) (numbers_below view) some in
    let neither = lets-neither table.members v (slot_at table lower.element number) (λ s at. (full-found table lower.element number s is_table at).registers) (not-true (lets_at lower.element) lower.passes) in
    record {
      lower = lower.element;
      below = numbers_below-lt lower.element view lower.among;
      not_proposed = neither.0;
      not_closed = neither.1;
    }

-- A majority of the members' registers passes where a majority of the slot's registers does.
pub majority_by_count : (p : Register → Bool) (table : Table) (view number : ℕ) (s : Slot) (b : Bool) → IsTable table → slot_at table view number ≡ Some s → b ≡ nat_lt table.members (2 * count p s.registers) → IsTrue b ↔ HasMajority (numbers_below table.members) (λ m. p (register_in (slot_at table view number) m))
majority_by_count p table view number s b is_table at same =
    let slot = majority-slot table.members p s (full-found table view number s is_table at).registers in
    subst (λ o. IsTrue b ↔ HasMajority (numbers_below table.members) (λ m. p (register_in o m))) (sym at)
    (λ passes. slot.1 (ltb-true _ _ (sym same ∙ passes)), λ most. same ∙ lt-ltb _ _ (slot.0 most))

-- where there is no slot it doesn't
pub no_majority : (p : Register → Bool) (table : Table) (view number : ℕ) → p Unwritten ≡ false → slot_at table view number ≡ None → IsTrue false ↔ HasMajority (numbers_below table.members) (λ m. p (register_in (slot_at table view number) m))
no_majority p table view number unwritten none =
    subst (λ o. IsTrue false ↔ HasMajority (numbers_below table.members) (λ m. p (register_in o m))) (sym none)
    (λ (no : false ≡ true). absurd (cc), λ most. absurd (majority-nowhere table.members p unwritten most))

-- an accepted register stands where a value is proposed
backed-in : (members : ℕ) (member : ℕ) (o : Option Slot) → ((s : Slot) → o ≡ Some s → IsFull members s) → IsTrue (is_accepted (register_in o member)) → IsSome (proposed_in o)
backed-in members member None full accepted = absurd (let no : false ≡ true = accepted in cc)
backed-in members member (Some s) full accepted = (full s refl).backed member accepted

-- the same, of a register that was read from a table
pub backed-at : (table : Table) (member view number : ℕ) (register : Register) → IsTable table → register ≡ register_in (slot_at table view number) member → IsTrue (is_accepted register) → IsSome (proposed_in (slot_at table view number))
backed-at table member view number register is_table same accepted =
    backed-in table.members member (slot_at table view number) (λ s at. full-found table view number s is_table at) (sym (ap is_accepted same) ∙ accepted)
