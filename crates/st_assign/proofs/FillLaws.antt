-- Laws on the fill: number by number, and that the tables take all that it makes.
use Rattle.std.proofs.Common.{◌≡◌, ◌∙◌, ap, sym, subst, ℕ, zero, suc, ◌+◌, ◌-◌, ◌<◌, ◌≤◌, min, Bool, true, false, cond, nat_eq, nat_lt, nat_le, add-one, Option, Some, None, List, [], ◌∷◌, ◌++◌, refl, arith}
use Rattle.std.proofs.lemmas.Bool.{eq-eqb, eqb-true}
use Rattle.std.specs.Prelude.{◌&&◌, not, is_some}
use Rattle.st_words.specs.declared.deployment.TheConstants.{WINDOW, LAST_NUMBER}
use Rattle.st_words.specs.declared.value.Value.{Value}
use Rattle.st_words.specs.declared.statement.Statement.{Statement}
use Rattle.st_message.specs.declared.change.Change.{Change}
use Rattle.st_message.specs.declared.change.Change.TheVariants.{EnterLocal, EnterGlobal, Made, Prepared, Accepted, Union, Executed}
use Rattle.st_message.specs.declared.change.Heard.{Heard}
use Rattle.st_message.specs.declared.step.Step.{Step}
use Rattle.st_tables.specs.Window.{in_window}
use Rattle.st_protocol.specs.Words.{Bytes, a_prepare}
use Rattle.st_protocol.specs.Keeping.{given, open_if, or_else}
use Rattle.st_protocol.specs.State.{Here, Slots, Sealing, Place, AtPrepare, AtProposal, AtAccept, Pended}
use Rattle.st_protocol.specs.Step.{idle, when, rep, leader}
use Rattle.st_protocol.specs.Forced.{Forced, waits}
use Rattle.st_protocol.specs.Assigning.{Filling, fill_value, fill_makes, fill_number, fills, fill, with_made}
use Rattle.st_protocol.specs.Growth.{here_after, slots_notes}
use Rattle.st_state.specs.declared.slots.Slots as code
use Rattle.st_state.specs.SlotsView.{slots_of, made_at}
use Rattle.st_state.proofs.SlotsLaws.{made_stays_at, prepared_stays, shares_stay}
use Rattle.st_assign.specs.FillView.{may_fill, all_filled}
use Rattle.st_state.specs.Placed.{is_placed, all_placed, here_after_all, Fits}

-- ---- number by number

pub fills_more : (h : Here) (pending : ℕ → Option Pended) (forced : Forced) (j k n : ℕ) (f next : Filling) → k ≡ j + 1 → fill_number h pending forced f n ≡ Some next
    → fills h pending forced k n f ≡ fills h pending forced j (n + 1) next
unfolding fills
fills_more h pending forced j k n f next is e =
    ap (λ m. fills h pending forced m n f) (is ∙ add-one j) ∙ ap (λ x. given x f (fills h pending forced j (n + 1))) e

pub fills_stop : (h : Here) (pending : ℕ → Option Pended) (forced : Forced) (k n : ℕ) (f : Filling) → fill_number h pending forced f n ≡ None
    → fills h pending forced k n f ≡ f
unfolding fills
fills_stop h pending forced zero n f e = refl
fills_stop h pending forced (suc k) n f e = ap (λ x. given x f (fills h pending forced k (n + 1))) e

pub fills_none : (h : Here) (pending : ℕ → Option Pended) (forced : Forced) (n : ℕ) (f : Filling) → fills h pending forced 0 n f ≡ f
unfolding fills
fills_none h pending forced n f = refl

-- ---- what the fill makes is taken

-- statements are made, and nothing else is changed
abbrev only_made : List Change → Bool
only_made [] = true
only_made (Made k s ∷ xs) = only_made xs
only_made (EnterLocal x q ∷ xs) = false
only_made (EnterGlobal y ws ∷ xs) = false
only_made (Prepared s q ∷ xs) = false
only_made (Accepted s q ∷ xs) = false
only_made (Union s q ∷ xs) = false
only_made (Executed n p ∷ xs) = false

made_append : (xs : List Change) (k : ℕ) (s : Statement) → only_made xs ≡ true → only_made (xs ++ Made k s ∷ []) ≡ true
made_append [] k s e = refl
made_append (Made j t ∷ xs) k s e = made_append xs k s e
made_append (EnterLocal x q ∷ xs) k s e = absurd (let no : false ≡ true = e in cc)
made_append (EnterGlobal y ws ∷ xs) k s e = absurd (let no : false ≡ true = e in cc)
made_append (Prepared t q ∷ xs) k s e = absurd (let no : false ≡ true = e in cc)
made_append (Accepted t q ∷ xs) k s e = absurd (let no : false ≡ true = e in cc)
made_append (Union t q ∷ xs) k s e = absurd (let no : false ≡ true = e in cc)
made_append (Executed n p ∷ xs) k s e = absurd (let no : false ≡ true = e in cc)

-- two tests that hold
both : (a b : Bool) → a ≡ true → b ≡ true → (a && b) ≡ true
both true b ea eb = eb
both false b ea eb = ea

first_of_both : (a b : Bool) → (a && b) ≡ true → a ≡ true
first_of_both true b e = refl
first_of_both false b e = e

second_of_both : (a b : Bool) → (a && b) ≡ true → b ≡ true
second_of_both true b e = e
second_of_both false b e = absurd (let no : false ≡ true = e in cc)

placed_append : (h : Here) (xs : List Change) (k : ℕ) (s : Statement) → only_made xs ≡ true → all_placed h xs ≡ true → is_placed (here_after_all h xs) (Made k s) ≡ true
    → all_placed h (xs ++ Made k s ∷ []) ≡ true
placed_append h [] k s e placed last = both (is_placed h (Made k s)) true last refl
placed_append h (Made j t ∷ xs) k s e placed last =
    let after : Here = record h { leaf = h.leaf + 1 } in
    both (is_placed h (Made j t)) (all_placed after (xs ++ Made k s ∷ [])) (first_of_both (is_placed h (Made j t)) (all_placed after xs) placed)
    (placed_append after xs k s e (second_of_both (is_placed h (Made j t)) (all_placed after xs) placed) last)
placed_append h (EnterLocal x q ∷ xs) k s e placed last = absurd (let no : false ≡ true = e in cc)
placed_append h (EnterGlobal y ws ∷ xs) k s e placed last = absurd (let no : false ≡ true = e in cc)
placed_append h (Prepared t q ∷ xs) k s e placed last = absurd (let no : false ≡ true = e in cc)
placed_append h (Accepted t q ∷ xs) k s e placed last = absurd (let no : false ≡ true = e in cc)
placed_append h (Union t q ∷ xs) k s e placed last = absurd (let no : false ≡ true = e in cc)
placed_append h (Executed n p ∷ xs) k s e placed last = absurd (let no : false ≡ true = e in cc)

after_append : (h : Here) (xs : List Change) (k : ℕ) (s : Statement) → here_after_all h (xs ++ Made k s ∷ []) ≡ record (here_after_all h xs) { leaf = (here_after_all h xs).leaf + 1 }
after_append h [] k s = refl
after_append h (x ∷ xs) k s = after_append (here_after x h) xs k s

-- The fill so far is taken, and its next leaf is the next one after what it made.
record IsTaken (h : Here) (f : Filling) : Type 0 where
  made : only_made f.step.changes ≡ true
  placed : all_placed h f.step.changes ≡ true
  after : here_after_all h f.step.changes ≡ record h { leaf = f.leaf }
  heard : f.step.heard ≡ []

no_leaf_short : (capacity leaf : ℕ) → nat_le capacity leaf ≡ false → nat_lt leaf capacity ≡ true
no_leaf_short capacity leaf e = grind (arith, e)

taken_makes : (h : Here) (f : Filling) (n : ℕ) (x : Value × Bytes) → IsTaken h f → in_window h.executed n ≡ true → nat_le h.seat.capacity f.leaf ≡ false
    → IsTaken h (fill_makes h f n x)
taken_makes h f n x taken inside left =
    let s : Statement = a_prepare h.seat.site h.view h.local n x.0 in
    let room : nat_lt f.leaf h.seat.capacity ≡ true = no_leaf_short h.seat.capacity f.leaf left in
    let last : is_placed (record h { leaf = f.leaf }) (Made f.leaf s) ≡ true = rw (eq-eqb f.leaf f.leaf refl, room, eq-eqb h.view h.view refl, eq-eqb h.local h.local refl, inside) refl in
    record {
      made = made_append f.step.changes f.leaf s taken.made;
      placed = placed_append h f.step.changes f.leaf s taken.made taken.placed (subst (λ (g : Here). is_placed g (Made f.leaf s) ≡ true) (sym taken.after) last);
      after = after_append h f.step.changes f.leaf s ∙ ap (λ (g : Here). record g { leaf = g.leaf + 1 }) taken.after;
      heard = ap (λ (xs : List Heard). xs ++ []) taken.heard;
    }

taken_number : (h : Here) (pending : ℕ → Option Pended) (forced : Forced) (f next : Filling) (n : ℕ) → IsTaken h f → in_window h.executed n ≡ true
    → fill_number h pending forced f n ≡ Some next → IsTaken h next
unfolding fill_number
taken_number h pending forced f next n taken inside e =
    by_tests (is_some (f.slots.made (AtPrepare h.view h.local n))) (nat_le h.seat.capacity f.leaf) refl (fill_value h f.slots pending forced n) e
  where
    by_tests : (b c : Bool) → nat_le h.seat.capacity f.leaf ≡ c → (v : Option (Value × Bytes))
        → cond b (Some f) (cond c None (given v None (λ x. Some (fill_makes h f n x)))) ≡ Some next → IsTaken h next
    by_tests true c is v same = let next_is : f ≡ next = cc in subst (IsTaken h) next_is taken
    by_tests false true is v same = absurd (let no : None ≡ Some next = same in cc)
    by_tests false false is None same = absurd (let no : None ≡ Some next = same in cc)
    by_tests false false is (Some x) same = let next_is : fill_makes h f n x ≡ next = cc in subst (IsTaken h) next_is (taken_makes h f n x taken inside is)

taken_fills : (h : Here) (pending : ℕ → Option Pended) (forced : Forced) (k n : ℕ) (f : Filling) → IsTaken h f → h.executed < n → (0 < k → n + k ≤ h.executed + 17)
    → IsTaken h (fills h pending forced k n f)
unfolding fills
taken_fills h pending forced zero n f taken above below = taken
taken_fills h pending forced (suc k) n f taken above below =
    let last = below (omega arith) in
    let inside : in_window h.executed n ≡ true = grind (arith, above, last) in
    by_turn (fill_number h pending forced f n) refl inside (λ next is. taken_fills h pending forced k (n + 1) next is (omega arith) (λ more. omega (arith, last)))
  where
    by_turn : (x : Option Filling) → fill_number h pending forced f n ≡ x → in_window h.executed n ≡ true
        → ((next : Filling) → IsTaken h next → IsTaken h (fills h pending forced k (n + 1) next))
        → IsTaken h (given x f (fills h pending forced k (n + 1)))
    by_turn None is inside more = taken
    by_turn (Some next) is inside more = more next (taken_number h pending forced f next n taken inside is)

taken_fits : (h : Here) (f : Filling) → IsTaken h f → Fits h f.step
taken_fits h f taken = record { placed = rw taken.placed refl; taken = rw taken.heard refl }

pub fill_fits : (h : Here) (slots : Slots) (pending : ℕ → Option Pended) (forced : Forced) → h.executed ≤ forced.base → Fits h (fill h slots pending forced)
unfolding fill
fill_fits h slots pending forced base =
    let first : Filling = record { step = idle; leaf = h.leaf; slots = slots } in
    let count : ℕ = min (h.executed + WINDOW) LAST_NUMBER - forced.base in
    let taken : IsTaken h (fills h pending forced count (forced.base + 1) first) =
    taken_fills h pending forced count (forced.base + 1) first (record { made = refl; placed = refl; after = refl; heard = refl }) (omega (arith, base)) (λ more. most h.executed forced.base more) in
    by_test (nat_eq h.seat.index (rep h) && nat_eq h.seat.site (leader h) && not (waits forced)) (taken_fits h (fills h pending forced count (forced.base + 1) first) taken)
  where
    most : (e b : ℕ) → 0 < min (e + 16) LAST_NUMBER - b → b + 1 + (min (e + 16) LAST_NUMBER - b) ≤ e + 17
    most e b more = grind (arith, more)

    by_test : (b : Bool) {step : Step} → Fits h step → Fits h (when b step)
    by_test true fits = fits
    by_test false fits = record { placed = refl; taken = refl }

-- ---- what is noted

-- a Prepare is made where none was
made_of_none : (view local e n g l k : ℕ) (old new : Option Sealing) → e < n → (view ≡ g → local ≡ l → n ≡ k → old ≡ None)
    → old ≡ open_if (nat_le view g && nat_le local l && nat_lt e k) (or_else old None)
    → open_if (nat_le view g && nat_le local l && nat_lt e k) (or_else old (cond (nat_eq g view && nat_eq l local && nat_eq k n) new None))
    ≡ cond (nat_eq view g && nat_eq local l && nat_eq n k) new old
made_of_none view local e n g l k old new above none stays = by_test (nat_eq view g) (nat_eq local l) (nat_eq n k) refl refl refl
  where
    by_test : (a b c : Bool) → nat_eq view g ≡ a → nat_eq local l ≡ b → nat_eq n k ≡ c
        → open_if (nat_le view g && nat_le local l && nat_lt e k) (or_else old (cond (nat_eq g view && nat_eq l local && nat_eq k n) new None))
        ≡ cond (nat_eq view g && nat_eq local l && nat_eq n k) new old
    by_test true true true ea eb ec =
        let va : view ≡ g = eqb-true view g ea in
        let vb : local ≡ l = eqb-true local l eb in
        let vc : n ≡ k = eqb-true n k ec in
        let gone : old ≡ None = none va vb vc in
        grind (arith, va, vb, vc, gone, above)
    by_test true true false ea eb ec = grind (arith, ea, eb, ec, stays)
    by_test true false c ea eb ec = grind (arith, ea, eb, stays)
    by_test false b c ea eb ec = grind (arith, ea, stays)

-- the answers of slots that note a statement made
abbrev pub noted : Here → ℕ → Statement → Slots → Slots
noted h leaf s slots = slots_notes (record h { leaf = h.leaf + 1 }) (Made leaf s) slots

-- the answers don't look at the next leaf
slots_at_leaf : (h : Here) (slots : code.Slots) (leaf : ℕ) → slots_of (record h { leaf = leaf }) slots ≡ slots_of h slots
unfolding slots_of
slots_at_leaf h slots leaf = λ i. record (slots_of h slots) { made = λ p. (made_same p) i; shares = λ p j. (shares_stay leaf h slots p j) i }
  where
    made_same : (p : Place) → made_at (record h { leaf = leaf }) slots p ≡ made_at h slots p
    made_same (AtPrepare g l n) = refl
    made_same (AtProposal g l n) = refl
    made_same (AtAccept g n) = refl

-- what slots answer that noted a Prepare where none was
noted_at : (h : Here) (slots : code.Slots) (leaf site n : ℕ) (v : Value) → h.executed < n → made_at h slots (AtPrepare h.view h.local n) ≡ None → (p : Place)
    → (noted h leaf (a_prepare site h.view h.local n v) (slots_of h slots)).made p
    ≡ (with_made (slots_of h slots) (AtPrepare h.view h.local n) (record { leaf = leaf; statement = a_prepare site h.view h.local n v })).made p
unfolding slots_of
noted_at h slots leaf site n v above none (AtPrepare g l k) =
    made_of_none h.view h.local h.executed n g l k (made_at h slots (AtPrepare g l k)) _ above
    (λ va vb vc. subst (λ (x : ℕ). made_at h slots (AtPrepare x l k) ≡ None) va (subst (λ (x : ℕ). made_at h slots (AtPrepare h.view x k) ≡ None) vb (subst (λ (x : ℕ). made_at h slots (AtPrepare h.view h.local x) ≡ None) vc none)))
    (made_stays_at h slots (AtPrepare g l k))
noted_at h slots leaf site n v above none (AtProposal g l k) = sym (made_stays_at h slots (AtProposal g l k))
noted_at h slots leaf site n v above none (AtAccept g k) = sym (made_stays_at h slots (AtAccept g k))

pub noted_is_made : (h : Here) (slots new : code.Slots) (leaf site n : ℕ) (v : Value) → h.executed < n → (slots_of h slots).made (AtPrepare h.view h.local n) ≡ None
    → slots_of (record h { leaf = h.leaf + 1 }) new ≡ noted h leaf (a_prepare site h.view h.local n v) (slots_of h slots)
    → slots_of h new ≡ with_made (slots_of h slots) (AtPrepare h.view h.local n) (record { leaf = leaf; statement = a_prepare site h.view h.local n v })
unfolding slots_of
noted_is_made h slots new leaf site n v above none is = sym (slots_at_leaf h new (h.leaf + 1)) ∙ (is ∙ noted_whole)
  where
    noted_whole : noted h leaf (a_prepare site h.view h.local n v) (slots_of h slots) ≡ with_made (slots_of h slots) (AtPrepare h.view h.local n) (record { leaf = leaf; statement = a_prepare site h.view h.local n v })
    noted_whole =
        λ i. record {
          made = λ p. (noted_at h slots leaf site n v above none p) i;
          prepared = λ k. sym (prepared_stays h.executed slots.prepared k) i;
          accepted = λ k. sym (prepared_stays h.executed slots.accepted k) i;
          shares = (slots_of h slots).shares;
        }

-- ---- how the code does it

-- a number without a Prepare, with a leaf left and a value
pub number_makes : (h : Here) (pending : ℕ → Option Pended) (forced : Forced) (f : Filling) (n : ℕ) (x : Value × Bytes)
    → f.slots.made (AtPrepare h.view h.local n) ≡ None → nat_le h.seat.capacity f.leaf ≡ false → fill_value h f.slots pending forced n ≡ Some x
    → fill_number h pending forced f n ≡ Some (fill_makes h f n x)
unfolding fill_number
number_makes h pending forced f n x none left value = rw (none, left, value) refl

-- the fill before it begins
abbrev pub not_begun : Here → Slots → Filling
not_begun h slots = record { step = idle; leaf = h.leaf; slots = slots }

pub fill_by : (h : Here) (slots : Slots) (pending : ℕ → Option Pended) (forced : Forced) → fill h slots pending forced ≡ when (may_fill h forced) (all_filled h pending forced (not_begun h slots))
unfolding fill may_fill all_filled
fill_by h slots pending forced = refl

pub fill_is_idle : (h : Here) (slots : Slots) (pending : ℕ → Option Pended) (forced : Forced) (step : Step) → may_fill h forced ≡ false → step ≡ idle → step ≡ fill h slots pending forced
fill_is_idle h slots pending forced step may is =
    is ∙ sym (fill_by h slots pending forced ∙ ap (λ (b : Bool). when b (all_filled h pending forced (not_begun h slots))) may)

pub fill_is_all : (h : Here) (slots : Slots) (pending : ℕ → Option Pended) (forced : Forced) (step : Step) (f : Filling) → may_fill h forced ≡ true → f ≡ not_begun h slots
    → step ≡ all_filled h pending forced f → step ≡ fill h slots pending forced
fill_is_all h slots pending forced step f may first is =
    is
    ∙ (ap (all_filled h pending forced) first
    ∙ sym (fill_by h slots pending forced ∙ ap (λ (b : Bool). when b (all_filled h pending forced (not_begun h slots))) may))

-- the last number, which the code knows
abbrev pub IsLast : Here → ℕ → Type 0
IsLast h last = last ≡ min (h.executed + WINDOW) LAST_NUMBER

-- where what is left comes to what was to be done, and nothing is left to do, that is the step
pub filled_all : (h : Here) (pending : ℕ → Option Pended) (forced : Forced) (last count n : ℕ) (first now : Filling) → IsLast h last
    → fills h pending forced count n now ≡ fills h pending forced (last - forced.base) (forced.base + 1) first
    → fills h pending forced count n now ≡ now
    → now.step ≡ all_filled h pending forced first
unfolding all_filled
filled_all h pending forced last count n first now is_last same done =
    ap (λ (f : Filling). f.step)
    (sym done ∙ (same ∙ ap (λ (m : ℕ). fills h pending forced (m - forced.base) (forced.base + 1) first) is_last))

pub fills_end : (h : Here) (pending : ℕ → Option Pended) (forced : Forced) (last k n : ℕ) (now : Filling) → last ≤ k → fills h pending forced (last - k) n now ≡ now
fills_end h pending forced last k n now ended =
    let none : last - k ≡ 0 = omega (arith, ended) in
    ap (λ (m : ℕ). fills h pending forced m n now) none ∙ fills_none h pending forced n now

pub fills_turn : (h : Here) (pending : ℕ → Option Pended) (forced : Forced) (last k : ℕ) (now next : Filling) → k < last → fill_number h pending forced now (k + 1) ≡ Some next
    → fills h pending forced (last - (k + 1)) (k + 1 + 1) next ≡ fills h pending forced (last - k) (k + 1) now
fills_turn h pending forced last k now next more e =
    let count : last - k ≡ last - (k + 1) + 1 = omega (arith, more) in
    sym (fills_more h pending forced (last - (k + 1)) (last - k) (k + 1) now next count e)
