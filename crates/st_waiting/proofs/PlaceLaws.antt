-- The pairs that wait in lists of places that are made of others.
use Rattle.std.proofs.Common.{◌≡◌, ◌≢◌, ◌∙◌, ap, sym, ℕ, suc, ◌+◌, ◌-◌, ◌<◌, ◌≤◌, Bool, true, false, cond, nat_eq, List, [], ◌∷◌, ◌++◌, length, take, drop, map, refl, arith, length-drop, subst}
use Rattle.std.specs.Prelude.{◌&&◌, ◌||◌, not, nat_le}
use Rattle.std.proofs.lemmas.Bool.{le-leb, lt-leb, and_left, and_right}
use Rattle.std.proofs.lemmas.List.{take-append-drop, drop-drop, drop-take, length-take-le}
use Rattle.std.proofs.lemmas.List.Elements.{All-head, All-tail, All-drop}
use Rattle.st_schedule.specs.declared.line.Dest.{Dest}
use Rattle.st_protocol.specs.World as model
use Rattle.st_protocol.specs.World.{same_dest}
use Rattle.st_protocol.specs.Schedule.{is_pair, without}
use Rattle.st_waiting.specs.declared.slot.Slot.{Slot}
use Rattle.st_waiting.specs.Destinations.{key_of}
use Rattle.st_waiting.specs.Passing.{passing, goes_to}
use Rattle.st_waiting.specs.Places.{pair_in, waits, pairs_from, cleared, NoneOf}
use Rattle.st_waiting.proofs.DestinationLaws.{same_key, other_key}
use Rattle.st_waiting.proofs.PassingLaws.{passing_append}

pub pairs_append : (starts : ℕ → ℕ) (i : ℕ) (xs ys : List Slot)
    → pairs_from starts i (xs ++ ys) ≡ pairs_from starts i xs ++ pairs_from starts (i + length xs) ys
unfolding pairs_from
pairs_append starts i [] ys = ap (λ k. pairs_from starts k ys) (omega arith)
pairs_append starts i (x ∷ xs) ys =
    by_test (waits starts i x)
    (pairs_append starts (i + 1) xs ys ∙ ap (λ k. pairs_from starts (i + 1) xs ++ pairs_from starts k ys) (omega arith))
  where
    by_test : (b : Bool) → pairs_from starts (i + 1) (xs ++ ys) ≡ pairs_from starts (i + 1) xs ++ pairs_from starts (i + suc (length xs)) ys
        → cond b (pair_in x ∷ pairs_from starts (i + 1) (xs ++ ys)) (pairs_from starts (i + 1) (xs ++ ys))
        ≡ cond b (pair_in x ∷ pairs_from starts (i + 1) xs) (pairs_from starts (i + 1) xs) ++ pairs_from starts (i + suc (length xs)) ys
    by_test true e = ap (λ (l : List model.Pair). pair_in x ∷ l) e
    by_test false e = e

-- no more wait than there are places
pub pairs_few : (starts : ℕ → ℕ) (i : ℕ) (ss : List Slot) → length (pairs_from starts i ss) ≤ length ss
unfolding pairs_from
pairs_few starts i [] = omega arith
pairs_few starts i (s ∷ ss) = by_test (waits starts i s) (pairs_few starts (i + 1) ss)
  where
    by_test : (b : Bool) → length (pairs_from starts (i + 1) ss) ≤ length ss
        → length (cond b (pair_in s ∷ pairs_from starts (i + 1) ss) (pairs_from starts (i + 1) ss)) ≤ suc (length ss)
    by_test true e = omega (arith, e)
    by_test false e = omega (arith, e)

-- a place that is put last, with a pair that waits
pub pairs_pushed : (starts : ℕ → ℕ) (i : ℕ) (ss : List Slot) (m : ℕ) (to : Dest) → starts (key_of to) ≤ i + length ss
    → pairs_from starts i (ss ++ record { message = m; to = to; gone = false } ∷ []) ≡ pairs_from starts i ss ++ record { message = m; to = to } ∷ []
unfolding pairs_from
pairs_pushed starts i ss m to early =
    pairs_append starts i ss (record { message = m; to = to; gone = false } ∷ [])
    ∙ ap (λ b. pairs_from starts i ss ++ cond b (record { message = m; to = to } ∷ []) []) (le-leb (starts (key_of to)) (i + length ss) early)

-- what waits where no pair to a destination does before a place past the end
pub pairs_lost : (starts new : ℕ → ℕ) (to : Dest) (i : ℕ) (ss : List Slot) → key_of to < 65792 → i + length ss ≤ new (key_of to)
    → ((k : ℕ) → k ≢ key_of to → new k ≡ starts k)
    → pairs_from new i ss ≡ without (goes_to to) (pairs_from starts i ss)
unfolding pairs_from without
pairs_lost starts new to i [] small past others = refl
pairs_lost starts new to i (s ∷ ss) small past others =
    by_tests (same_dest s.to to) (waits starts i s) refl refl
    (pairs_lost starts new to (i + 1) ss small (omega (arith, past)) others)
  where
    gone : same_dest s.to to ≡ true → waits new i s ≡ false
    gone is = and_right (not s.gone) (nat_le (new (key_of s.to)) i) (lt-leb (new (key_of s.to)) i (rw (same_key s.to to is) (omega (arith, past))))

    stays : same_dest s.to to ≡ false → waits new i s ≡ waits starts i s
    stays is = ap (λ k. not s.gone && nat_le k i) (others (key_of s.to) (other_key s.to to small is))

    by_tests : (t w : Bool) → same_dest s.to to ≡ t → waits starts i s ≡ w
        → pairs_from new (i + 1) ss ≡ without (goes_to to) (pairs_from starts (i + 1) ss)
        → cond (waits new i s) (pair_in s ∷ pairs_from new (i + 1) ss) (pairs_from new (i + 1) ss)
        ≡ without (goes_to to) (cond w (pair_in s ∷ pairs_from starts (i + 1) ss) (pairs_from starts (i + 1) ss))
    by_tests true true is w e = let no : waits new i s ≡ false = gone is in rw (no, is) e
    by_tests true false is w e = let no : waits new i s ≡ false = gone is in rw no e
    by_tests false true is w e =
        let yes : waits new i s ≡ true = stays is ∙ w in rw (yes, is) (ap (λ (l : List model.Pair). pair_in s ∷ l) e)
    by_tests false false is w e = let no : waits new i s ≡ false = stays is ∙ w in rw no e

-- what waits where a message's places to a destination are cleared
pub pairs_cleared : (starts : ℕ → ℕ) (m : ℕ) (to : Dest) (i : ℕ) (ss : List Slot)
    → pairs_from starts i (map (cleared m to) ss) ≡ without (is_pair m to) (pairs_from starts i ss)
unfolding pairs_from without
pairs_cleared starts m to i [] = refl
pairs_cleared starts m to i (s ∷ ss) =
    by_tests (is_pair m to (pair_in s)) (waits starts i s) refl refl (pairs_cleared starts m to (i + 1) ss)
  where
    by_tests : (t w : Bool) → is_pair m to (pair_in s) ≡ t → waits starts i s ≡ w
        → pairs_from starts (i + 1) (map (cleared m to) ss) ≡ without (is_pair m to) (pairs_from starts (i + 1) ss)
        → cond (not (t || s.gone) && nat_le (starts (key_of s.to)) i) (pair_in s ∷ pairs_from starts (i + 1) (map (cleared m to) ss)) (pairs_from starts (i + 1) (map (cleared m to) ss))
        ≡ without (is_pair m to) (cond w (pair_in s ∷ pairs_from starts (i + 1) ss) (pairs_from starts (i + 1) ss))
    by_tests true true is w e = rw is e
    by_tests true false is w e = e
    by_tests false true is w e = rw (w, is) (ap (λ (l : List model.Pair). pair_in s ∷ l) e)
    by_tests false false is w e = rw w e

-- places of other messages hold no pair of the message
pub none_passing : (starts : ℕ → ℕ) (m : ℕ) (to : Dest) (i : ℕ) (ss : List Slot) → NoneOf m ss
    → passing (is_pair m to) (pairs_from starts i ss) ≡ 0
unfolding pairs_from passing
none_passing starts m to i [] none = refl
none_passing starts m to i (s ∷ ss) none =
    by_test (waits starts i s) (All-head (λ (x : Slot). nat_eq x.message m ≡ false) s ss none)
    (none_passing starts m to (i + 1) ss (All-tail (λ (x : Slot). nat_eq x.message m ≡ false) s ss none))
  where
    by_test : (w : Bool) → nat_eq s.message m ≡ false → passing (is_pair m to) (pairs_from starts (i + 1) ss) ≡ 0
        → passing (is_pair m to) (cond w (pair_in s ∷ pairs_from starts (i + 1) ss) (pairs_from starts (i + 1) ss)) ≡ 0
    by_test true other e = rw other e
    by_test false other e = e

-- a place of another message stays as it is
pub cleared_other : (m : ℕ) (to : Dest) (s : Slot) → is_pair m to (pair_in s) ≡ false → cleared m to s ≡ s
cleared_other m to s other = λ i. record { message = s.message; to = s.to; gone = other i || s.gone }

-- and so does a list of such
pub all_other : (m : ℕ) (to : Dest) (ss : List Slot) → NoneOf m ss → map (cleared m to) ss ≡ ss
all_other m to [] none = refl
all_other m to (s ∷ ss) none =
    let first : nat_eq s.message m ≡ false = All-head (λ (x : Slot). nat_eq x.message m ≡ false) s ss none in
    let same : cleared m to s ≡ s = cleared_other m to s (and_left (nat_eq s.message m) (same_dest s.to to) first) in
    λ i. same i ∷ (all_other m to ss (All-tail (λ (x : Slot). nat_eq x.message m ≡ false) s ss none)) i

-- from a later place on there are as many, where none between is of the message
pub passing_later : (starts : ℕ → ℕ) (m : ℕ) (to : Dest) (head low : ℕ) (ss : List Slot) → head ≤ low → low ≤ length ss → NoneOf m (take low ss)
    → passing (is_pair m to) (pairs_from starts low (drop low ss)) ≡ passing (is_pair m to) (pairs_from starts head (drop head ss))
passing_later starts m to head low ss order inside none =
    let gap : ℕ = low - head in
    let is : head + gap ≡ low = omega (arith, order) in
    let parts : take gap (drop head ss) ++ drop low ss ≡ drop head ss =
    ap (λ (k : ℕ). take gap (drop head ss) ++ drop k ss) (sym is)
    ∙ (ap (λ (l : List Slot). take gap (drop head ss) ++ l) (sym (drop-drop gap head ss)) ∙ take-append-drop gap (drop head ss)) in
    let between : NoneOf m (take gap (drop head ss)) =
    subst (λ (l : List Slot). NoneOf m l) (ap (λ (k : ℕ). drop head (take k ss)) (sym is) ∙ drop-take head gap ss) (All-drop (λ (x : Slot). nat_eq x.message m ≡ false) head (take low ss) none) in
    let size : length (take gap (drop head ss)) ≡ gap = length-take-le gap (drop head ss) (rw length-drop (omega (arith, order, inside))) in
    let split : pairs_from starts head (drop head ss) ≡ pairs_from starts head (take gap (drop head ss)) ++ pairs_from starts low (drop low ss) =
    ap (λ (l : List Slot). pairs_from starts head l) (sym parts)
    ∙ (pairs_append starts head (take gap (drop head ss)) (drop low ss)
    ∙ ap (λ (k : ℕ). pairs_from starts head (take gap (drop head ss)) ++ pairs_from starts k (drop low ss)) (ap (λ (k : ℕ). head + k) size ∙ is)) in
    let count = passing_append (is_pair m to) (pairs_from starts head (take gap (drop head ss))) (pairs_from starts low (drop low ss)) in
    let no = none_passing starts m to head (take gap (drop head ss)) between in
    sym (ap (λ (l : List model.Pair). passing (is_pair m to) l) split ∙ (count ∙ omega (arith, no)))
