-- What is picked of the two lists is what the answers grow to; so one body more, and one thing heard more, is one step.
use Rattle.std.proofs.Common.{◌≡◌, ℕ, ◌+◌, ◌-◌, Bool, true, false, cond, zero, suc, nat_eq, nat_lt, List, [], ◌∷◌, ◌++◌, length, refl, sym, ◌∙◌, ap, subst, arith, append_assoc, append-nil}
use Rattle.std.specs.Prelude.{Option, Some, None, max, slice_get}
use Rattle.std.proofs.lemmas.Bool.Decides.{nat_tests}
use Rattle.st_message.specs.declared.change.Change.{Change}
use Rattle.st_message.specs.declared.change.Change.TheVariants.{EnterLocal, EnterGlobal, Made, Prepared, Accepted, Union, Executed}
use Rattle.st_message.specs.declared.change.Heard.{Heard}
use Rattle.st_message.specs.declared.message.SiteWord.{SiteWord}
use Rattle.st_message.specs.declared.message.Proof.{Proof}
use Rattle.st_protocol.specs.Words.{Quorum}
use Rattle.st_protocol.specs.Keeping.{given, greatest, open_if, from, gathered, joined, numbered}
use Rattle.st_protocol.specs.State.{Seat, Here, Answers, Asked, KeptViews, backed_view, backed_local, pended_time, vote_view, asked_view, word_view, word_height, completed_view, completed_local, open_place, open_term, open_vc, open_number, open_at, at_place, at_vc, at_report, at_union, at_reply}
use Rattle.st_protocol.specs.Questions.{view_entered, local_entered, is_made, is_executed, Entered, entered_view, entering, entering_local, sealing_in, prepared_in, accepted_in, held_in, proofs_in, executed_in, run_on, no_run, taken, owned, share_in, local_vote_in, global_vote_in, asked_in, update_in, report_in, own_report_in, word_in, taken_height, proof_in, completed_in, is_global_vc, is_proposal_at, is_accept_at, here_of, questions}
use Rattle.st_protocol.specs.Growth.{here_after, words_after, notes, takes, cuts, nothing, notes_all, takes_all, grown, after_all, hears, hears_all}
use Rattle.st_protocol.proofs.GatherLaws.{Gathers, firsts, lasts, greatests, last_greatests, highers, mosts, sums, fold-gathered, fold-keeps}
use Rattle.st_protocol.proofs.GrowthLaws.{Rises, rises, open-step, place-rises, term-rises, vc-rises, number-rises, grown_body, grown_heard}

-- ---- what is recorded and cut at each change is gathered and cut once

-- nothing is dropped of nothing
none-open : {A : Type 0} (b : Bool) → open_if {A = A} b None ≡ None
none-open true = refl
none-open false = refl

-- recording leaves a server nowhere below
up : (q : Answers) (x : Change) → Rises q.here (notes q x).here
unfolding notes
up q x = rises x q.here

module _ {A : Type 0} {join : Option A → Option A → Option A} (g : Gathers join None) (get : Answers → Option A) (open_ : Here → Bool) (pick : Change → Option A)
    (step : (q : Answers) (x : Change) → get (notes q x) ≡ open_if (open_ (notes q x).here) (join (get q) (pick x)))
    (rise : (h k : Here) → Rises h k → (z : Option A) → open_if (open_ k) z ≡ open_if (open_ k) (open_if (open_ h) z)) where
  -- one change
  cut_step : (q : Answers) (x : Change) (z : Option A) → get q ≡ open_if (open_ q.here) z → get (notes q x) ≡ open_if (open_ (notes q x).here) (join z (pick x))
  cut_step q x z h =
      step q x
      ∙ ap (λ y. open_if (open_ (notes q x).here) (join y (pick x))) h
      ∙ open-step (open_ (notes q x).here) (λ y. join y (pick x)) (open_if (open_ q.here) z)
      ∙ ap (λ y. open_if (open_ (notes q x).here) (join y (pick x))) (sym (rise q.here (notes q x).here (up q x) z))
      ∙ sym (open-step (open_ (notes q x).here) (λ y. join y (pick x)) z)

  -- changes in order
  cut_once : (q : Answers) (z : Option A) (xs : List Change) → get q ≡ open_if (open_ q.here) z →
      get (notes_all q xs) ≡ open_if (open_ (notes_all q xs).here) (join z (gathered join None pick xs))
  unfolding gathered
  cut_once q z [] h = h ∙ ap (open_if (open_ q.here)) (sym (g.right z))
  cut_once q z (x ∷ xs) h =
      cut_once (notes q x) (join z (pick x)) xs (cut_step q x z h)
      ∙ ap (open_if (open_ (notes_all (notes q x) xs).here)) (g.assoc z (pick x) (gathered join None pick xs))

-- ---- where the records leave the server

-- a change raises the view to the one that it enters
view-step : (h : Here) (x : Change) → (here_after x h).view ≡ max h.view (view_entered x)
view-step h (EnterLocal y q) = omega arith
view-step h (EnterGlobal y ws) = omega arith
view-step h (Made k s) = omega arith
view-step h (Prepared s q) = omega arith
view-step h (Accepted s q) = omega arith
view-step h (Union s q) = omega arith
view-step h (Executed n p) = omega arith

-- and the local view
local-step : (h : Here) (x : Change) → (here_after x h).local ≡ max h.local (local_entered x)
local-step h (EnterLocal y q) = omega arith
local-step h (EnterGlobal y ws) = omega arith
local-step h (Made k s) = omega arith
local-step h (Prepared s q) = omega arith
local-step h (Accepted s q) = omega arith
local-step h (Union s q) = omega arith
local-step h (Executed n p) = omega arith

-- it counts an executed number
executed-step : (h : Here) (x : Change) → (here_after x h).executed ≡ h.executed + cond (is_executed x) 1 0
executed-step h (EnterLocal y q) = omega arith
executed-step h (EnterGlobal y ws) = omega arith
executed-step h (Made k s) = omega arith
executed-step h (Prepared s q) = omega arith
executed-step h (Accepted s q) = omega arith
executed-step h (Union s q) = omega arith
executed-step h (Executed n p) = omega arith

-- and a leaf
leaf-step : (h : Here) (x : Change) → (here_after x h).leaf ≡ h.leaf + cond (is_made x) 1 0
leaf-step h (EnterLocal y q) = omega arith
leaf-step h (EnterGlobal y ws) = omega arith
leaf-step h (Made k s) = omega arith
leaf-step h (Prepared s q) = omega arith
leaf-step h (Accepted s q) = omega arith
leaf-step h (Union s q) = omega arith
leaf-step h (Executed n p) = omega arith

-- it leaves the seat
seat-step : (h : Here) (x : Change) → (here_after x h).seat ≡ h.seat
seat-step h (EnterLocal y q) = refl
seat-step h (EnterGlobal y ws) = refl
seat-step h (Made k s) = refl
seat-step h (Prepared s q) = refl
seat-step h (Accepted s q) = refl
seat-step h (Union s q) = refl
seat-step h (Executed n p) = refl

-- Where changes leave a server is counted over them.
pub here_is : (seat : Seat) (xs : List Change) → (notes_all (nothing seat) xs).here ≡ here_of seat xs
unfolding notes nothing here_of
here_is seat xs = λ i.
    record {
      seat = fold-keeps (λ (q : Answers). q.here.seat) notes (λ q x. seat-step q.here x) (nothing seat) xs i;
      view = fold-gathered mosts (λ (q : Answers). q.here.view) notes view_entered (λ q x. view-step q.here x) (nothing seat) refl xs i;
      local = fold-gathered mosts (λ (q : Answers). q.here.local) notes local_entered (λ q x. local-step q.here x) (nothing seat) refl xs i;
      executed = fold-gathered sums (λ (q : Answers). q.here.executed) notes (λ x. cond (is_executed x) 1 0) (λ q x. executed-step q.here x) (nothing seat) refl xs i;
      leaf = fold-gathered sums (λ (q : Answers). q.here.leaf) notes (λ x. cond (is_made x) 1 0) (λ q x. leaf-step q.here x) (nothing seat) refl xs i;
    }

-- ---- the log

-- the log is the run of the executed values
run_is : (q : Answers) (xs : List Change) → (notes_all q xs).log.run ≡ run_on q.here.seat.serve q.log.run (executed_in xs)
unfolding notes executed_in
run_is q [] = refl
run_is q (EnterLocal y w ∷ xs) = run_is (notes q (EnterLocal y w)) xs
run_is q (EnterGlobal y w ∷ xs) = run_is (notes q (EnterGlobal y w)) xs
run_is q (Made k s ∷ xs) = run_is (notes q (Made k s)) xs
run_is q (Prepared s w ∷ xs) = run_is (notes q (Prepared s w)) xs
run_is q (Accepted s w ∷ xs) = run_is (notes q (Accepted s w)) xs
run_is q (Union s w ∷ xs) = run_is (notes q (Union s w)) xs
run_is q (Executed n p ∷ xs) = run_is (notes q (Executed n p)) xs

-- an element of a list with one more
slice_get-push : {A : Type 0} (xs : List A) (x : A) (k : ℕ) → slice_get (xs ++ x ∷ []) k ≡ cond (nat_eq (length xs) k) (Some x) (slice_get xs k)
slice_get-push [] x zero = refl
slice_get-push [] x (suc k) = grind (arith, nat_tests)
slice_get-push (y ∷ ys) x zero = grind (arith, nat_tests)
slice_get-push (y ∷ ys) x (suc k) = slice_get-push ys x k ∙ grind (arith, nat_tests)

-- the same from 1
numbered-push : {A : Type 0} (xs : List A) (x : A) (n : ℕ) → numbered (xs ++ x ∷ []) n ≡ cond (nat_eq (length xs + 1) n) (Some x) (numbered xs n)
numbered-push xs x n = let e = slice_get-push xs x (n - 1) in grind (arith, nat_tests)

-- the length of a list with one more
length-push : {A : Type 0} (xs : List A) (x : A) → length (xs ++ x ∷ []) ≡ length xs + 1
length-push [] x = refl
length-push (y ∷ ys) x = let e = length-push ys x in omega (arith, e)

-- A state's proofs are those of its numbers so far.
record HasProofs (q : Answers) (ps : List Proof) : Type 0 where
  count : q.here.executed ≡ length ps
  each : (n : ℕ) → q.log.proof n ≡ numbered ps n

-- one number more
proof_more : (q : Answers) (ps : List Proof) (k : ℕ) (p : Proof) → q.here.executed ≡ k → k ≡ length ps → ((n : ℕ) → q.log.proof n ≡ numbered ps n) → (n : ℕ) →
    cond (nat_eq (q.here.executed + 1) n) (Some p) (q.log.proof n) ≡ numbered (ps ++ p ∷ []) n
proof_more q ps k p a b each n =
    ap (λ m. cond (nat_eq (m + 1) n) (Some p) (q.log.proof n)) (a ∙ b)
    ∙ ap (λ z. cond (nat_eq (length ps + 1) n) (Some p) z) (each n)
    ∙ sym (numbered-push ps p n)

-- numbers in order, from any state on
proofs_are : (q : Answers) (ps : List Proof) (xs : List Change) → HasProofs q ps → (n : ℕ) → (notes_all q xs).log.proof n ≡ numbered (ps ++ proofs_in xs) n
unfolding notes proofs_in
proofs_are q ps [] h n = h.each n ∙ ap (λ z. numbered z n) (sym (append-nil ps))
proofs_are q ps (EnterLocal y w ∷ xs) h n = proofs_are (notes q (EnterLocal y w)) ps xs (record { count = h.count; each = h.each }) n
proofs_are q ps (EnterGlobal y w ∷ xs) h n = proofs_are (notes q (EnterGlobal y w)) ps xs (record { count = h.count; each = h.each }) n
proofs_are q ps (Made k s ∷ xs) h n = proofs_are (notes q (Made k s)) ps xs (record { count = h.count; each = h.each }) n
proofs_are q ps (Prepared s w ∷ xs) h n = proofs_are (notes q (Prepared s w)) ps xs (record { count = h.count; each = h.each }) n
proofs_are q ps (Accepted s w ∷ xs) h n = proofs_are (notes q (Accepted s w)) ps xs (record { count = h.count; each = h.each }) n
proofs_are q ps (Union s w ∷ xs) h n = proofs_are (notes q (Union s w)) ps xs (record { count = h.count; each = h.each }) n
proofs_are q ps (Executed m p ∷ xs) h n =
    proofs_are (notes q (Executed m p)) (ps ++ p ∷ []) xs
    (record { count = (let c = h.count in let l = length-push ps p in omega (arith, c, l)); each = proof_more q ps (length ps) p h.count refl h.each }) n
    ∙ ap (λ z. numbered z n) (append_assoc ps (p ∷ []) (proofs_in xs))

-- each number's proof
log_is : (seat : Seat) (xs : List Change) (n : ℕ) → (notes_all (nothing seat) xs).log.proof n ≡ numbered (proofs_in xs) n
unfolding nothing
log_is seat xs n = proofs_are (nothing seat) [] xs (record { count = refl; each = λ n. none_numbered n }) n
  where
    none_numbered : (n : ℕ) → None ≡ numbered {A = Proof} [] n
    none_numbered zero = refl
    none_numbered (suc m) = grind (arith, nat_tests)

-- ---- why views were entered

module _ {E V : Type 0} (view : E → ℕ) (value : E → V) where
  -- the value of what was entered, if anything was
  value_by : Option E → Option V
  value_by z = given (from view 1 z) None (λ e. Some (value e))

  -- of what was entered the greatest stands: its view, and its value
  record HasEntered (l : ℕ) (w : Option V) (z : Option E) : Type 0 where
    at : l ≡ given z 0 view
    word : w ≡ value_by z

  -- something is entered
  enters : (l : ℕ) (w : Option V) (z : Option E) (e : E) → HasEntered l w z → HasEntered (max l (view e)) (cond (nat_lt l (view e)) (Some (value e)) w) (greatest view z (Some e))
  unfolding value_by
  enters l w None e h = let a = h.at in let b = h.word in record { at = grind (arith, nat_tests); word = grind (arith, nat_tests) }
  enters l w (Some x) e h = let a = h.at in let b = h.word in record { at = grind (arith, nat_tests); word = grind (arith, nat_tests) }

  -- nothing is entered
  rests : (l : ℕ) (w : Option V) (z : Option E) → HasEntered l w z → HasEntered l w (greatest view z None)
  rests l w None h = h
  rests l w (Some x) h = h

-- why a local view was entered
asked_quorum : Asked → Quorum
asked_quorum a = a.quorum

-- why a view was entered
entered_sites : Entered → List SiteWord
entered_sites e = e.sites

-- a change, for local views
local_words : (h : Here) (kept : KeptViews) (z : Option Asked) (x : Change) → HasEntered asked_view asked_quorum h.local kept.local z →
    HasEntered asked_view asked_quorum (here_after x h).local (words_after x h kept).local (greatest asked_view z (entering_local x))
unfolding asked_quorum
local_words h kept z (EnterLocal y q) e = enters asked_view asked_quorum h.local kept.local z (record { view = y.0; quorum = q }) e
local_words h kept z (EnterGlobal y ws) e = rests asked_view asked_quorum h.local kept.local z e
local_words h kept z (Made k s) e = rests asked_view asked_quorum h.local kept.local z e
local_words h kept z (Prepared s q) e = rests asked_view asked_quorum h.local kept.local z e
local_words h kept z (Accepted s q) e = rests asked_view asked_quorum h.local kept.local z e
local_words h kept z (Union s q) e = rests asked_view asked_quorum h.local kept.local z e
local_words h kept z (Executed n p) e = rests asked_view asked_quorum h.local kept.local z e

-- a change, for views
view_words : (h : Here) (kept : KeptViews) (z : Option Entered) (x : Change) → HasEntered entered_view entered_sites h.view kept.view z →
    HasEntered entered_view entered_sites (here_after x h).view (words_after x h kept).view (greatest entered_view z (entering x))
unfolding entered_sites
view_words h kept z (EnterLocal y q) e = rests entered_view entered_sites h.view kept.view z e
view_words h kept z (EnterGlobal y ws) e = enters entered_view entered_sites h.view kept.view z (record { view = y.0; sites = ws }) e
view_words h kept z (Made k s) e = rests entered_view entered_sites h.view kept.view z e
view_words h kept z (Prepared s q) e = rests entered_view entered_sites h.view kept.view z e
view_words h kept z (Accepted s q) e = rests entered_view entered_sites h.view kept.view z e
view_words h kept z (Union s q) e = rests entered_view entered_sites h.view kept.view z e
view_words h kept z (Executed n p) e = rests entered_view entered_sites h.view kept.view z e

-- What was entered last stands, whatever was recorded.
module _ {E V : Type 0} (view : E → ℕ) (value : E → V) (pick : Change → Option E) (height : Here → ℕ) (word : KeptViews → Option V)
    (step : (h : Here) (kept : KeptViews) (z : Option E) (x : Change) → HasEntered view value (height h) (word kept) z →
    HasEntered view value (height (here_after x h)) (word (words_after x h kept)) (greatest view z (pick x))) where
  -- from any state on
  entered_from : (q : Answers) (z : Option E) (xs : List Change) → HasEntered view value (height q.here) (word q.words) z →
      HasEntered view value (height (notes_all q xs).here) (word (notes_all q xs).words) (greatest view z (gathered (greatest view) None pick xs))
  unfolding notes gathered
  entered_from q z [] h = rests view value (height q.here) (word q.words) z h
  entered_from q z (x ∷ xs) h =
      subst (HasEntered view value (height (notes_all (notes q x) xs).here) (word (notes_all (notes q x) xs).words))
      ((greatests view).assoc z (pick x) (gathered (greatest view) None pick xs))
      (entered_from (notes q x) (greatest view z (pick x)) xs (step q.here q.words z x h))

-- why the local view was entered
local_is : (seat : Seat) (xs : List Change) → (notes_all (nothing seat) xs).words.local ≡ given (from asked_view 1 (gathered (greatest asked_view) None entering_local xs)) None (λ a. Some a.quorum)
unfolding nothing value_by asked_quorum
local_is seat xs = (entered_from asked_view asked_quorum entering_local (λ h. h.local) (λ k. k.local) local_words (nothing seat) None xs (record { at = refl; word = refl })).word

-- why the view was entered
view_is : (seat : Seat) (xs : List Change) → (notes_all (nothing seat) xs).words.view ≡ given (from entered_view 1 (gathered (greatest entered_view) None entering xs)) None (λ e. Some e.sites)
unfolding nothing value_by entered_sites
view_is seat xs = (entered_from entered_view entered_sites entering (λ h. h.view) (λ k. k.view) view_words (nothing seat) None xs (record { at = refl; word = refl })).word

-- ---- both lists

-- the answers before anything is dropped of what was heard
abbrev all_noted : Seat → List Change → List Heard → Answers
all_noted seat xs heard = takes_all (notes_all (nothing seat) xs) heard

-- hearing leaves where a server stands
here_stays : (seat : Seat) (xs : List Change) (heard : List Heard) → here_of seat xs ≡ (all_noted seat xs heard).here
unfolding takes
here_stays seat xs heard = sym (fold-keeps (λ (q : Answers). q.here) takes (λ q m. refl) (notes_all (nothing seat) xs) heard ∙ here_is seat xs)

-- what is recorded, cut by the present state
module _ {A : Type 0} {join : Option A → Option A → Option A} (g : Gathers join None) (get : Answers → Option A) (open_ : Here → Bool) (pick : Change → Option A)
    (step : (q : Answers) (x : Change) → get (notes q x) ≡ open_if (open_ (notes q x).here) (join (get q) (pick x)))
    (rise : (h k : Here) → Rises h k → (z : Option A) → open_if (open_ k) z ≡ open_if (open_ k) (open_if (open_ h) z))
    (begun : (seat : Seat) → get (nothing seat) ≡ None)
    (apart : (q : Answers) (m : Heard) → get (takes q m) ≡ get q) where
  -- a question of the records
  recorded : (seat : Seat) (xs : List Change) (heard : List Heard) → open_if (open_ (here_of seat xs)) (gathered join None pick xs) ≡ get (all_noted seat xs heard)
  recorded seat xs heard =
      sym
      (fold-keeps get takes apart (notes_all (nothing seat) xs) heard
      ∙ cut_once g get open_ pick step rise (nothing seat) None xs (begun seat ∙ sym (none-open (open_ (nothing seat).here)))
      ∙ ap (open_if (open_ (notes_all (nothing seat) xs).here)) (g.left (gathered join None pick xs))
      ∙ ap (λ h. open_if (open_ h) (gathered join None pick xs)) (here_is seat xs))

-- what is recorded for good
module _ {A : Type 0} {join : Option A → Option A → Option A} (g : Gathers join None) (get : Answers → Option A) (pick : Change → Option A)
    (step : (q : Answers) (x : Change) → get (notes q x) ≡ join (get q) (pick x))
    (begun : (seat : Seat) → get (nothing seat) ≡ None)
    (apart : (q : Answers) (m : Heard) → get (takes q m) ≡ get q) where
  -- a question of the records that nothing cuts
  recorded_for_good : (seat : Seat) (xs : List Change) (heard : List Heard) → gathered join None pick xs ≡ get (all_noted seat xs heard)
  recorded_for_good seat xs heard =
      sym (fold-keeps get takes apart (notes_all (nothing seat) xs) heard ∙ fold-gathered g get notes pick step (nothing seat) (begun seat) xs)

-- what is heard
module _ {A : Type 0} {join : A → A → A} {none : A} (g : Gathers join none) (get : Answers → A) (pick : Heard → A)
    (step : (q : Answers) (m : Heard) → get (takes q m) ≡ join (get q) (pick m))
    (begun : (seat : Seat) → get (nothing seat) ≡ none)
    (apart : (q : Answers) (x : Change) → get (notes q x) ≡ get q) where
  -- a question of what was heard
  heard_is : (seat : Seat) (xs : List Change) (heard : List Heard) → gathered join none pick heard ≡ get (all_noted seat xs heard)
  heard_is seat xs heard =
      sym (fold-gathered g get takes pick step (notes_all (nothing seat) xs) (fold-keeps get notes apart (nothing seat) xs ∙ begun seat) heard)

-- the run that the log has
last_is : (seat : Seat) (xs : List Change) (heard : List Heard) → run_on seat.serve no_run (executed_in xs) ≡ (all_noted seat xs heard).log.run
unfolding takes nothing
last_is seat xs heard = sym (fold-keeps (λ (q : Answers). q.log.run) takes (λ q m. refl) (notes_all (nothing seat) xs) heard ∙ run_is (nothing seat) xs)

-- What is picked of the two lists is what the answers grow to.
pub questions_grow : (seat : Seat) (records : List (List Change)) (heard : List Heard) → questions seat records heard ≡ grown seat records heard
unfolding questions grown notes takes cuts nothing
questions_grow seat records heard =
    let xs : List Change = joined records in
    λ i.
    record {
      here = here_stays seat xs heard i;
      slots =
          record {
            made = λ p. recorded firsts (λ (q : Answers). q.slots.made p) (λ h. open_place h p) (sealing_in (at_place p)) (λ q x. refl) (λ h k r z. place-rises h k r p z) (λ s. refl) (λ q m. refl) seat xs heard i;
            prepared = λ n. recorded (highers backed_view backed_local) (λ (q : Answers). q.slots.prepared n) (λ h. open_number h n) (prepared_in n) (λ q x. refl) (λ h k r z. number-rises h k r n z) (λ s. refl) (λ q m. refl) seat xs heard i;
            accepted = λ n. recorded (highers backed_view backed_local) (λ (q : Answers). q.slots.accepted n) (λ h. open_number h n) (accepted_in n) (λ q x. refl) (λ h k r z. number-rises h k r n z) (λ s. refl) (λ q m. refl) seat xs heard i;
            shares = λ p j. open_if (open_place (here_stays seat xs heard i) p) (heard_is firsts (λ (q : Answers). q.slots.shares p j) (taken (share_in (at_place p) j)) (λ q m. refl) (λ s. refl) (λ q x. refl) seat xs heard i);
          };
      making =
          record {
            vc = λ t. recorded firsts (λ (q : Answers). q.making.vc t) (λ h. open_vc h t) (sealing_in (at_vc t)) (λ q x. refl) (λ h k r z. vc-rises h k r t z) (λ s. refl) (λ q m. refl) seat xs heard i;
            report = λ t. recorded firsts (λ (q : Answers). q.making.report t) (λ h. open_term h t) (sealing_in (at_report t)) (λ q x. refl) (λ h k r z. term-rises h k r t z) (λ s. refl) (λ q m. refl) seat xs heard i;
            union = λ t. recorded firsts (λ (q : Answers). q.making.union t) (λ h. open_term h t) (sealing_in (at_union t)) (λ q x. refl) (λ h k r z. term-rises h k r t z) (λ s. refl) (λ q m. refl) seat xs heard i;
            reply = λ n. recorded_for_good firsts (λ (q : Answers). q.making.reply n) (sealing_in (at_reply n)) (λ q x. refl) (λ s. refl) (λ q m. refl) seat xs heard i;
          };
      log =
          record {
            run = last_is seat xs heard i;
            proof = λ n. sym (fold-keeps (λ (q : Answers). q.log.proof n) takes (λ q m. refl) (notes_all (nothing seat) xs) heard ∙ log_is seat xs n) i;
          };
      pending = λ c.
          from pended_time ((last_is seat xs heard i).last c + 1)
          (heard_is (greatests pended_time) (λ (q : Answers). q.pending c) (taken (update_in c)) (λ q m. refl) (λ s. refl) (λ q x. refl) seat xs heard i);
      votes =
          record {
            local = λ j. from vote_view ((here_stays seat xs heard i).local + 1) (heard_is (greatests vote_view) (λ (q : Answers). q.votes.local j) (taken (local_vote_in j)) (λ q m. refl) (λ s. refl) (λ q x. refl) seat xs heard i);
            global = λ j. from vote_view ((here_stays seat xs heard i).view + 1) (heard_is (greatests vote_view) (λ (q : Answers). q.votes.global j) (taken (global_vote_in j)) (λ q m. refl) (λ s. refl) (λ q x. refl) seat xs heard i);
            unions = λ t j. open_if (open_term (here_stays seat xs heard i) t) (heard_is firsts (λ (q : Answers). q.votes.unions t j) (taken (share_in (at_union t) j)) (λ q m. refl) (λ s. refl) (λ q x. refl) seat xs heard i);
            asked = λ s. from asked_view ((here_stays seat xs heard i).view + 1) (heard_is (greatests asked_view) (λ (q : Answers). q.votes.asked s) (taken (asked_in s)) (λ q m. refl) (λ s. refl) (λ q x. refl) seat xs heard i);
          };
      unions = λ t s. recorded firsts (λ (q : Answers). q.unions t s) (λ h. open_term h t) (held_in t s) (λ q x. refl) (λ h k r z. term-rises h k r t z) (λ s. refl) (λ q m. refl) seat xs heard i;
      reports = λ t j. open_if (open_term (here_stays seat xs heard i) t) (heard_is firsts (λ (q : Answers). q.reports t j) (taken (report_in t j)) (λ q m. refl) (λ s. refl) (λ q x. refl) seat xs heard i);
      hand =
          record {
            highest = λ n. cond (open_number (here_stays seat xs heard i) n) (heard_is mosts (λ (q : Answers). q.hand.highest n) (taken_height n) (λ q m. refl) (λ s. refl) (λ q x. refl) seat xs heard i) 0;
            word = λ n s.
                open_if (open_number (here_stays seat xs heard i) n)
                (from word_height (heard_is mosts (λ (q : Answers). q.hand.highest n) (taken_height n) (λ q m. refl) (λ s. refl) (λ q x. refl) seat xs heard i)
                (heard_is (greatests word_view) (λ (q : Answers). q.hand.word n s) (taken (word_in n s)) (λ q m. refl) (λ s. refl) (λ q x. refl) seat xs heard i));
            proof = λ n. open_if (open_number (here_stays seat xs heard i) n) (heard_is firsts (λ (q : Answers). q.hand.proof n) (taken (proof_in n)) (λ q m. refl) (λ s. refl) (λ q x. refl) seat xs heard i);
          };
      words =
          record {
            local = sym (fold-keeps (λ (q : Answers). q.words.local) takes (λ q m. refl) (notes_all (nothing seat) xs) heard ∙ local_is seat xs) i;
            view = sym (fold-keeps (λ (q : Answers). q.words.view) takes (λ q m. refl) (notes_all (nothing seat) xs) heard ∙ view_is seat xs) i;
          };
      own =
          record {
            report = λ t. open_if (open_term (here_stays seat xs heard i) t) (heard_is firsts (λ (q : Answers). q.own.report t) (owned (own_report_in t)) (λ q m. refl) (λ s. refl) (λ q x. refl) seat xs heard i);
            vc = from completed_view ((here_stays seat xs heard i).view + 1) (heard_is (last_greatests completed_view) (λ (q : Answers). q.own.vc) (owned (completed_in is_global_vc)) (λ q m. refl) (λ s. refl) (λ q x. refl) seat xs heard i);
            union = λ t. open_if (open_term (here_stays seat xs heard i) t) (heard_is lasts (λ (q : Answers). q.own.union t) (owned (completed_in (at_union t))) (λ q m. refl) (λ s. refl) (λ q x. refl) seat xs heard i);
            proposal = λ g n. open_if (open_at (here_stays seat xs heard i) g n) (heard_is (last_greatests completed_local) (λ (q : Answers). q.own.proposal g n) (owned (completed_in (is_proposal_at g n))) (λ q m. refl) (λ s. refl) (λ q x. refl) seat xs heard i);
            accept = λ g n. open_if (open_at (here_stays seat xs heard i) g n) (heard_is lasts (λ (q : Answers). q.own.accept g n) (owned (completed_in (is_accept_at g n))) (λ q m. refl) (λ s. refl) (λ q x. refl) seat xs heard i);
          };
    }

-- ---- the laws

-- One body more.
pub one_body : (seat : Seat) (records : List (List Change)) (heard : List Heard) (body : List Change) →
    questions seat (records ++ body ∷ []) heard ≡ after_all (questions seat records heard) body
one_body seat records heard body =
    questions_grow seat (records ++ body ∷ []) heard
    ∙ grown_body seat records heard body
    ∙ ap (λ q. after_all q body) (sym (questions_grow seat records heard))

-- One thing heard more.
pub one_heard : (seat : Seat) (records : List (List Change)) (heard : List Heard) (m : Heard) →
    questions seat records (heard ++ m ∷ []) ≡ hears (questions seat records heard) m
one_heard seat records heard m =
    questions_grow seat records (heard ++ m ∷ [])
    ∙ grown_heard seat records heard m
    ∙ ap (λ q. hears q m) (sym (questions_grow seat records heard))

-- More things heard.
pub more_heard : (seat : Seat) (records : List (List Change)) (heard others : List Heard) →
    questions seat records (heard ++ others) ≡ hears_all (questions seat records heard) others
more_heard seat records heard [] = ap (questions seat records) (append-nil heard)
more_heard seat records heard (m ∷ ms) =
    ap (questions seat records) (sym (append_assoc heard (m ∷ []) ms))
    ∙ more_heard seat records (heard ++ m ∷ []) ms
    ∙ ap (λ q. hears_all q ms) (one_heard seat records heard m)
