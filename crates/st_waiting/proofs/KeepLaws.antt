-- What each call leaves of the places, and of what is noted of them.
use Rattle.std.proofs.Common.{◌≡◌, ◌∙◌, ap, sym, ℕ, zero, suc, ◌+◌, ◌-◌, ◌<◌, ◌≤◌, ◌^◌, Bool, true, false, cond, nat_eq, Some, None, List, [], ◌∷◌, ◌++◌, length, drop, map, refl, arith, length-drop}
use Rattle.std.specs.Prelude.{slice_get}
use Rattle.std.proofs.lemmas.Bool.{eqb-true, eqb-false, eq-eqb}
use Rattle.std.proofs.lemmas.List.{drop-append-le, drop-map, drop_all, length_push, length-map, get_or-map}
use Rattle.std.proofs.lemmas.List.Elements.{All-push, All-weaker, All-map, All-nil}
use Rattle.std.proofs.lemmas.List.Sorted.{IsNonDecreasingBy-push, IsNonDecreasingBy-short}
use Rattle.st_schedule.specs.declared.line.Dest.{Dest}
use Rattle.st_protocol.specs.World as model
use Rattle.st_protocol.specs.Schedule.{is_pair, without}
use Rattle.st_waiting.specs.declared.marks.Mark.{Mark}
use Rattle.st_waiting.specs.declared.slot.Slot.{Slot}
use Rattle.st_waiting.specs.Destinations.{key_of, no_mark, mark_at, starts_of, SetsMark}
use Rattle.st_waiting.specs.Passing.{passing, goes_to, has_key}
use Rattle.st_waiting.specs.Places.{pair_in, waits, pairs_from, waiting_from, cleared, IsKept}
use Rattle.st_waiting.proofs.PassingLaws.{passing_length, passing_one, passing_first, pair_out, dest_out, by_key}
use Rattle.st_waiting.proofs.PlaceLaws.{pairs_few, pairs_pushed, pairs_lost, pairs_cleared}

-- ---- marks

-- where a mark keeps its start, all do
starts_same : (old new : List Mark) (key : ℕ) (mark : Mark) → SetsMark old new key mark → mark.start ≡ (mark_at old key).start → starts_of new ≡ starts_of old
starts_same old new key mark sets same = λ i k. (by_test k (nat_eq k key) refl) i
  where
    by_test : (k : ℕ) (b : Bool) → nat_eq k key ≡ b → (mark_at new k).start ≡ (mark_at old k).start
    by_test k true e =
        let is : k ≡ key = eqb-true k key e in
        ap (λ (j : ℕ). (mark_at new j).start) is
        ∙ (ap (λ (x : Mark). x.start) sets.here ∙ (same ∙ ap (λ (j : ℕ). (mark_at old j).start) (sym is)))
    by_test k false e = ap (λ (x : Mark). x.start) (sets.others k (eqb-false k key e))

-- the counts once a mark is written
counts_of : (old new : List Mark) (key : ℕ) (mark : Mark) (k : ℕ) → SetsMark old new key mark → (mark_at new k).count ≡ cond (nat_eq key k) mark.count (mark_at old k).count
counts_of old new key mark k sets = by_test (nat_eq key k) refl
  where
    by_test : (b : Bool) → nat_eq key k ≡ b → (mark_at new k).count ≡ cond b mark.count (mark_at old k).count
    by_test true e = ap (λ (j : ℕ). (mark_at new j).count) (sym (eqb-true key k e)) ∙ ap (λ (x : Mark). x.count) sets.here
    by_test false e = ap (λ (x : Mark). x.count) (sets.others k (λ same. eqb-false key k e (sym same)))

-- all starts are below a bound where the written one is
starts_below : (old new : List Mark) (key : ℕ) (mark : Mark) (k n : ℕ) → SetsMark old new key mark → mark.start ≤ n → (mark_at old k).start ≤ n → (mark_at new k).start ≤ n
starts_below old new key mark k n sets here there = by_test (nat_eq k key) refl
  where
    by_test : (b : Bool) → nat_eq k key ≡ b → (mark_at new k).start ≤ n
    by_test true e =
        let is : (mark_at new k).start ≡ mark.start = ap (λ (j : ℕ). (mark_at new j).start) (eqb-true k key e) ∙ ap (λ (x : Mark). x.start) sets.here in
        omega (arith, is, here)
    by_test false e =
        let is : (mark_at new k).start ≡ (mark_at old k).start = ap (λ (x : Mark). x.start) (sets.others k (eqb-false k key e)) in
        omega (arith, is, there)

-- a count that grew, and one that fell
more : (b : Bool) (x y : ℕ) → (b ≡ true → x ≡ y) → cond b (x + 1) y ≡ y + cond b 1 0
more true x y same = ap (λ (n : ℕ). n + 1) (same refl)
more false x y same = omega arith

fewer : (b : Bool) (x y z n : ℕ) → (b ≡ true → x ≡ y) → z + cond b n 0 ≡ y → cond b (x - n) y ≡ z
fewer true x y z n same e = let is : x ≡ y = same refl in omega (arith, is, e)
fewer false x y z n same e = omega (arith, e)

-- one mark's count is the number's, where both are one
own_count : (marks : List Mark) (key k : ℕ) → nat_eq key k ≡ true → (mark_at marks key).count ≡ (mark_at marks k).count
own_count marks key k e = ap (λ (j : ℕ). (mark_at marks j).count) (eqb-true key k e)

-- ---- the first place, and the next

pub none_waits : (marks : List Mark) → waiting_from marks 0 [] ≡ []
unfolding pairs_from
none_waits marks = refl

pub none_kept : (marks : List Mark) → length marks ≡ 65792 → ((k : ℕ) → mark_at marks k ≡ no_mark) → IsKept [] 0 0 marks 0
unfolding pairs_from passing
none_kept marks size none =
    record {
      few = omega arith;
      inside = omega arith;
      size = size;
      starts = λ k. (let is : (mark_at marks k).start ≡ 0 = ap (λ (x : Mark). x.start) (none k) in omega (arith, is));
      counts = λ k small. ap (λ (x : Mark). x.count) (none k);
      all = refl;
      rising = IsNonDecreasingBy-short (λ (s : Slot). s.message) [] (omega arith);
      latest = All-nil (λ (s : Slot). s.message ≤ 0);
    }

-- a place that is read stands before the next ones
pub place_read : (slots : List Slot) (i : ℕ) (s : Slot) → slice_get slots i ≡ Some s → drop i slots ≡ s ∷ drop (i + 1) slots
place_read slots i s is = read slots i (i + 1) s (omega arith) is
  where
    read : (xs : List Slot) (k j : ℕ) (x : Slot) → j ≡ suc k → slice_get xs k ≡ Some x → drop k xs ≡ x ∷ drop j xs
    read [] k j x next e = cc
    read (y ∷ xs) zero j x next e = let same : y ≡ x = cc in rw next (ap (λ (z : Slot). z ∷ xs) same)
    read (y ∷ xs) (suc k) j x next e = rw next (read xs k (suc k) x refl e)

-- what waits from a place on, by whether its pair does
pub next_place : (starts : ℕ → ℕ) (i : ℕ) (slots : List Slot) (s : Slot) → slice_get slots i ≡ Some s
    → pairs_from starts i (drop i slots)
    ≡ cond (waits starts i s) (pair_in s ∷ pairs_from starts (i + 1) (drop (i + 1) slots)) (pairs_from starts (i + 1) (drop (i + 1) slots))
unfolding pairs_from
next_place starts i slots s is = ap (λ (l : List Slot). pairs_from starts i l) (place_read slots i s is)

-- a place is passed whose pair doesn't wait
pub skip_place : (starts : ℕ → ℕ) (i : ℕ) (slots : List Slot) (s : Slot) → slice_get slots i ≡ Some s → waits starts i s ≡ false
    → pairs_from starts (i + 1) (drop (i + 1) slots) ≡ pairs_from starts i (drop i slots)
skip_place starts i slots s is passed =
    sym
    (next_place starts i slots s is
    ∙ ap (λ (b : Bool). cond b (pair_in s ∷ pairs_from starts (i + 1) (drop (i + 1) slots)) (pairs_from starts (i + 1) (drop (i + 1) slots))) passed)

-- what is read is a place, and what isn't is none
pub read_inside : (slots : List Slot) (i : ℕ) (s : Slot) → slice_get slots i ≡ Some s → i < length slots
read_inside [] i s e = cc
read_inside (x ∷ xs) zero s e = omega arith
read_inside (x ∷ xs) (suc i) s e = let more = read_inside xs i s e in omega (arith, more)

pub read_past : (slots : List Slot) (i : ℕ) → slice_get slots i ≡ None → length slots ≤ i
read_past [] i e = omega arith
read_past (x ∷ xs) zero e = cc
read_past (x ∷ xs) (suc i) e = let more = read_past xs i e in omega (arith, more)

-- past the end nothing waits
pub past_places : (starts : ℕ → ℕ) (i : ℕ) (slots : List Slot) → length slots ≤ i → pairs_from starts i (drop i slots) ≡ []
unfolding pairs_from
past_places starts i slots past = ap (λ (l : List Slot). pairs_from starts i l) (drop_all i slots past)

-- ---- one pair more

module _ (slots : List Slot) (head total : ℕ) (marks : List Mark) (newest : ℕ) (kept : IsKept slots head total marks newest) where
  -- a count is at most that of all
  pub count_most : (k : ℕ) → k < 65792 → (mark_at marks k).count ≤ total
  count_most k small =
      let all = passing_length (has_key k) (waiting_from marks head slots) in
      omega (arith, kept.counts k small, kept.all, all)

  -- which is at most as many as there are places
  pub total_most : total ≤ length slots
  total_most =
      let most = pairs_few (starts_of marks) head (drop head slots) in
      let size : length (drop head slots) ≤ length slots = rw length-drop (omega arith) in
      omega (arith, kept.all, most, size)

  pub pushed_pairs : (new : List Mark) (m : ℕ) (to : Dest)
      → SetsMark marks new (key_of to) (record { start = (mark_at marks (key_of to)).start; count = (mark_at marks (key_of to)).count + 1 })
      → waiting_from new head (slots ++ record { message = m; to = to; gone = false } ∷ []) ≡ waiting_from marks head slots ++ record { message = m; to = to } ∷ []
  pushed_pairs new m to sets =
      let same = starts_same marks new (key_of to) (record { start = (mark_at marks (key_of to)).start; count = (mark_at marks (key_of to)).count + 1 }) sets refl in
      let slot : Slot = record { message = m; to = to; gone = false } in
      let start = kept.starts (key_of to) in
      let early : (mark_at marks (key_of to)).start ≤ head + length (drop head slots) = rw length-drop (omega (arith, start, kept.inside)) in
      ap (λ (f : ℕ → ℕ). pairs_from f head (drop head (slots ++ slot ∷ []))) same
      ∙ (ap (λ (l : List Slot). pairs_from (starts_of marks) head l) (drop-append-le head slots (slot ∷ []) kept.inside)
      ∙ pairs_pushed (starts_of marks) head (drop head slots) m to early)

  pub pushed_kept : (new : List Mark) (m : ℕ) (to : Dest)
      → SetsMark marks new (key_of to) (record { start = (mark_at marks (key_of to)).start; count = (mark_at marks (key_of to)).count + 1 })
      → length new ≡ 65792 → newest ≤ m → length slots + 1 < 2 ^ 32
      → IsKept (slots ++ record { message = m; to = to; gone = false } ∷ []) head (total + 1) new m
  pushed_kept new m to sets size order few =
      let slot : Slot = record { message = m; to = to; gone = false } in
      let mark : Mark = record { start = (mark_at marks (key_of to)).start; count = (mark_at marks (key_of to)).count + 1 } in
      let same : starts_of new ≡ starts_of marks = starts_same marks new (key_of to) mark sets refl in
      let pairs = pushed_pairs new m to sets in
      let longer : length (slots ++ slot ∷ []) ≡ length slots + 1 = length_push slots slot in
      record {
        few = rw longer few;
        inside = rw longer (omega (arith, kept.inside));
        size = size;
        starts = λ k. (let is : (mark_at new k).start ≡ (mark_at marks k).start = λ i. same i k in rw (longer, is) (omega (arith, kept.starts k)));
        counts = λ k small.
            counts_of marks new (key_of to) mark k sets
            ∙ (more (nat_eq (key_of to) k) (mark_at marks (key_of to)).count (mark_at marks k).count (own_count marks (key_of to) k)
            ∙ (ap (λ (n : ℕ). n + cond (nat_eq (key_of to) k) 1 0) (kept.counts k small)
            ∙ (sym (passing_one (has_key k) (waiting_from marks head slots) (record { message = m; to = to }))
            ∙ ap (λ (l : List model.Pair). passing (has_key k) l) (sym pairs))));
        all = rw pairs (omega (arith, kept.all, length_push (waiting_from marks head slots) (record { message = m; to = to })));
        rising = IsNonDecreasingBy-push (λ (s : Slot). s.message) slots slot kept.rising
            (λ d some. (let last = kept.latest (length slots - 1) d (omega (arith, some)) in omega (arith, last, order)));
        latest = All-push (λ (s : Slot). s.message ≤ m) slots slot
            (All-weaker (λ (s : Slot). s.message ≤ newest) (λ (s : Slot). s.message ≤ m) (λ s below. omega (arith, below, order)) slots kept.latest) (omega arith);
      }

  -- ---- the oldest pair

  pub moved_kept : (place : ℕ) → place ≤ length slots → waiting_from marks place slots ≡ waiting_from marks head slots → IsKept slots place total marks newest
  moved_kept place inside same =
      record {
        few = kept.few;
        inside = inside;
        size = kept.size;
        starts = kept.starts;
        counts = λ k small. kept.counts k small ∙ ap (λ (l : List model.Pair). passing (has_key k) l) (sym same);
        all = kept.all ∙ ap length (sym same);
        rising = kept.rising;
        latest = kept.latest;
      }

  -- the first place's pair and the others
  first_pairs : (s : Slot) → slice_get slots head ≡ Some s → waits (starts_of marks) head s ≡ true
      → waiting_from marks head slots ≡ pair_in s ∷ waiting_from marks (head + 1) slots
  first_pairs s is first =
      next_place (starts_of marks) head slots s is
      ∙ ap (λ (b : Bool). cond b (pair_in s ∷ waiting_from marks (head + 1) slots) (waiting_from marks (head + 1) slots)) first

  -- so something is noted of its destination
  pub popped_count : (s : Slot) → slice_get slots head ≡ Some s → waits (starts_of marks) head s ≡ true → key_of s.to < 65792
      → 1 ≤ (mark_at marks (key_of s.to)).count
  popped_count s is first small =
      let key : ℕ = key_of s.to in
      let one : ℕ = 1 in
      let own : cond (nat_eq key key) one 0 ≡ one = ap (λ (b : Bool). cond b one 0) (eq-eqb key key refl) in
      let count = passing_first (has_key key) (pair_in s) (waiting_from marks (head + 1) slots) in
      let pairs = ap (λ (l : List model.Pair). passing (has_key key) l) (first_pairs s is first) in
      omega (arith, kept.counts key small, pairs, count, own)

  pub popped_pairs : (s : Slot) (new : List Mark) (n : ℕ) → slice_get slots head ≡ Some s → waits (starts_of marks) head s ≡ true
      → SetsMark marks new (key_of s.to) (record { start = (mark_at marks (key_of s.to)).start; count = n })
      → waiting_from marks head slots ≡ pair_in s ∷ waiting_from new (head + 1) slots
  popped_pairs s new n is first sets =
      let same = starts_same marks new (key_of s.to) (record { start = (mark_at marks (key_of s.to)).start; count = n }) sets refl in
      first_pairs s is first ∙ ap (λ (f : ℕ → ℕ). pair_in s ∷ pairs_from f (head + 1) (drop (head + 1) slots)) (sym same)

  pub popped_kept : (s : Slot) (new : List Mark) → slice_get slots head ≡ Some s → waits (starts_of marks) head s ≡ true → head < length slots
      → SetsMark marks new (key_of s.to) (record { start = (mark_at marks (key_of s.to)).start; count = (mark_at marks (key_of s.to)).count - 1 })
      → length new ≡ 65792
      → IsKept slots (head + 1) (total - 1) new newest
  popped_kept s new is first inside sets size =
      let key : ℕ = key_of s.to in
      let mark : Mark = record { start = (mark_at marks key).start; count = (mark_at marks key).count - 1 } in
      let pairs = popped_pairs s new ((mark_at marks key).count - 1) is first sets in
      let rest : List model.Pair = waiting_from new (head + 1) slots in
      record {
        few = kept.few;
        inside = omega (arith, inside);
        size = size;
        starts = λ k. starts_below marks new key mark k (length slots) sets (kept.starts key) (kept.starts k);
        counts = λ k small.
            counts_of marks new key mark k sets
            ∙ fewer (nat_eq key k) (mark_at marks key).count (mark_at marks k).count (passing (has_key k) rest) 1 (own_count marks key k)
            (sym (kept.counts k small ∙ (ap (λ (l : List model.Pair). passing (has_key k) l) pairs ∙ passing_first (has_key k) (pair_in s) rest)));
        all = (let longer : length (waiting_from marks head slots) ≡ suc (length rest) = ap length pairs in omega (arith, kept.all, longer));
        rising = kept.rising;
        latest = kept.latest;
      }

  -- ---- all pairs to a destination

  pub lost_pairs : (new : List Mark) (to : Dest) → key_of to < 65792 → SetsMark marks new (key_of to) (record { start = length slots; count = 0 })
      → waiting_from new head slots ≡ without (goes_to to) (waiting_from marks head slots)
  lost_pairs new to small sets =
      let start : (mark_at new (key_of to)).start ≡ length slots = ap (λ (x : Mark). x.start) sets.here in
      let past : head + length (drop head slots) ≤ (mark_at new (key_of to)).start = rw (length-drop, start) (omega (arith, kept.inside)) in
      pairs_lost (starts_of marks) (starts_of new) to head (drop head slots) small past (λ k other. ap (λ (x : Mark). x.start) (sets.others k other))

  -- as many as were noted of it
  pub lost_count : (new : List Mark) (to : Dest) → key_of to < 65792 → SetsMark marks new (key_of to) (record { start = length slots; count = 0 })
      → (mark_at marks (key_of to)).count + length (waiting_from new head slots) ≡ total
  lost_count new to small sets =
      let pairs = ap length (lost_pairs new to small sets) in
      let left = passing_length (goes_to to) (waiting_from marks head slots) in
      let own = by_key to (waiting_from marks head slots) small in
      omega (arith, kept.all, kept.counts (key_of to) small, pairs, left, own)

  pub lost_kept : (new : List Mark) (to : Dest) → key_of to < 65792 → SetsMark marks new (key_of to) (record { start = length slots; count = 0 })
      → length new ≡ 65792 → IsKept slots head (total - (mark_at marks (key_of to)).count) new newest
  lost_kept new to small sets size =
      let mark : Mark = record { start = length slots; count = 0 } in
      record {
        few = kept.few;
        inside = kept.inside;
        size = size;
        starts = λ k. starts_below marks new (key_of to) mark k (length slots) sets (omega arith) (kept.starts k);
        counts = λ k below.
            counts_of marks new (key_of to) mark k sets
            ∙ (ap (λ (n : ℕ). cond (nat_eq (key_of to) k) 0 n) (kept.counts k below)
            ∙ (sym (dest_out to k (waiting_from marks head slots) small)
            ∙ ap (λ (l : List model.Pair). passing (has_key k) l) (sym (lost_pairs new to small sets))));
        all = (let count = lost_count new to small sets in omega (arith, count));
        rising = kept.rising;
        latest = kept.latest;
      }

  -- ---- a message to a destination

  pub removed_pairs : (new : List Mark) (m : ℕ) (to : Dest) (n : ℕ) → SetsMark marks new (key_of to) (record { start = (mark_at marks (key_of to)).start; count = n })
      → waiting_from new head (map (cleared m to) slots) ≡ without (is_pair m to) (waiting_from marks head slots)
  removed_pairs new m to n sets =
      let same = starts_same marks new (key_of to) (record { start = (mark_at marks (key_of to)).start; count = n }) sets refl in
      ap (λ (f : ℕ → ℕ). pairs_from f head (drop head (map (cleared m to) slots))) same
      ∙ (ap (λ (l : List Slot). pairs_from (starts_of marks) head l) (drop-map (cleared m to) head slots)
      ∙ pairs_cleared (starts_of marks) m to head (drop head slots))

  -- no more than were noted of it
  pub removed_most : (m : ℕ) (to : Dest) → key_of to < 65792 → passing (is_pair m to) (waiting_from marks head slots) ≤ (mark_at marks (key_of to)).count
  removed_most m to small =
      let key : ℕ = key_of to in
      let n : ℕ = passing (is_pair m to) (waiting_from marks head slots) in
      let own : cond (nat_eq key key) n 0 ≡ n = ap (λ (b : Bool). cond b n 0) (eq-eqb key key refl) in
      omega (arith, pair_out m to key (waiting_from marks head slots), own, kept.counts key small)

  pub removed_kept : (new : List Mark) (m : ℕ) (to : Dest) (n : ℕ) → n ≡ passing (is_pair m to) (waiting_from marks head slots)
      → SetsMark marks new (key_of to) (record { start = (mark_at marks (key_of to)).start; count = (mark_at marks (key_of to)).count - n })
      → length new ≡ 65792 → IsKept (map (cleared m to) slots) head (total - n) new newest
  removed_kept new m to n is sets size =
      let key : ℕ = key_of to in
      let mark : Mark = record { start = (mark_at marks key).start; count = (mark_at marks key).count - n } in
      let same : length (map (cleared m to) slots) ≡ length slots = length-map slots (cleared m to) in
      let pairs = removed_pairs new m to ((mark_at marks key).count - n) sets in
      let rest : List model.Pair = without (is_pair m to) (waiting_from marks head slots) in
      record {
        few = rw same kept.few;
        inside = rw same kept.inside;
        size = size;
        starts = λ k. rw same (starts_below marks new key mark k (length slots) sets (kept.starts key) (kept.starts k));
        counts = λ k small.
            counts_of marks new key mark k sets
            ∙ (fewer (nat_eq key k) (mark_at marks key).count (mark_at marks k).count (passing (has_key k) rest) n (own_count marks key k)
            (ap (λ (z : ℕ). passing (has_key k) rest + cond (nat_eq key k) z 0) is ∙ (pair_out m to k (waiting_from marks head slots) ∙ sym (kept.counts k small)))
            ∙ ap (λ (l : List model.Pair). passing (has_key k) l) (sym pairs));
        all = (let left = passing_length (is_pair m to) (waiting_from marks head slots) in let size : length (waiting_from new head (map (cleared m to) slots)) ≡ length rest = ap length pairs in omega (arith, kept.all, left, is, size));
        rising = λ i j d order inside.
            (let in_j : j < length slots = omega (arith, inside, same) in
            let at_i = get_or-map (cleared m to) slots i d d (omega (arith, in_j, order)) in
            let at_j = get_or-map (cleared m to) slots j d d in_j in
            rw (at_i, at_j) (kept.rising i j d order in_j));
        latest = All-map (λ (s : Slot). s.message ≤ newest) (cleared m to) slots kept.latest;
      }
