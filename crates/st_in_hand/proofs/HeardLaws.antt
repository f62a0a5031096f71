-- What all that was heard orders, before anything of it is dropped: a server has in hand just that, of numbers that it didn't execute.
use Rattle.std.proofs.Common.{◌≡◌, ℕ, ◌+◌, ◌<◌, Bool, true, false, cond, zero, suc, List, [], ◌∷◌, ◌++◌, refl, sym, ◌∙◌, ap, arith}
use Rattle.std.specs.Prelude.{Option, None, not}
use Rattle.std.specs.List.{filter}
use Rattle.std.proofs.lemmas.Bool.{lt-ltb, not-false}
use Rattle.std.proofs.lemmas.List.Elements.{filter-append}
use Rattle.st_message.specs.declared.message.Message.{Message}
use Rattle.st_message.specs.declared.message.Proof.{Proof}
use Rattle.st_message.specs.declared.change.Change.{Change}
use Rattle.st_message.specs.declared.change.Heard.{Heard}
use Rattle.st_protocol.specs.Keeping.{or_else, open_if, from, gathered, first_of, greatest_of, most_of, joined}
use Rattle.st_protocol.specs.State.{Seat, Here, Word, Hand, Answers, word_view, word_height, open_number}
use Rattle.st_protocol.specs.Questions.{taken, word_in, height_in, taken_height, proof_in, here_of, hand_of, questions}
use Rattle.st_protocol.specs.Growth.{fresh_here}
use Rattle.st_protocol.specs.Step.{first_below}
use Rattle.st_protocol.specs.Ordering.{words_proof, in_hand}
use Rattle.st_protocol.proofs.GatherLaws.{Gathers, firsts, greatests, mosts, gathered-append}
use Rattle.st_in_hand.specs.InHand.{in_hand_at, IsUpToDate}

-- ---- what was heard, with nothing dropped

-- the word of a site on a number that all of this leaves
abbrev heard_word : List Heard → ℕ → ℕ → Option Word
heard_word heard n s = from word_height (most_of (taken_height n) heard) (greatest_of word_view (taken (word_in n s)) heard)

-- The proof of a number that all of this gives.
unfoldable pub heard_proof : Seat → List Heard → ℕ → Option Proof
heard_proof seat heard n = or_else (first_of (taken (proof_in n)) heard) (first_below (words_proof (fresh_here seat) (heard_word heard n)) seat.sites)

-- what is in hand comes of a number's proof and of its words
hand_by : (here : Here) (hand : Hand) (n : ℕ) (proof : Option Proof) (word : ℕ → Option Word) → hand.proof n ≡ proof → hand.word n ≡ word →
    in_hand here hand n ≡ or_else proof (first_below (words_proof here word) here.seat.sites)
unfolding in_hand
hand_by here hand n proof word e f = λ i. or_else (e i) (first_below (words_proof here (f i)) here.seat.sites)

-- Of a number that isn't executed, that is in hand which all that was heard gives.
pub in_hand-open : (seat : Seat) (records : List (List Change)) (heard : List Heard) (n : ℕ) → (questions seat records heard).here.executed < n →
    in_hand_at (questions seat records heard) n ≡ heard_proof seat heard n
unfolding heard_proof questions here_of
in_hand-open seat records heard n above =
    let open_here : open_number (here_of seat (joined records)) n ≡ true = lt-ltb _ _ above in
    hand_by (here_of seat (joined records)) (hand_of (here_of seat (joined records)) heard) n (first_of (taken (proof_in n)) heard) (heard_word heard n)
    (ap (λ b. open_if b (first_of (taken (proof_in n)) heard)) open_here)
    (λ i s. open_if (open_here i) (heard_word heard n s))

-- ---- what doesn't matter

-- It orders nothing for this number.
pub record IsSilent (n : ℕ) (m : Heard) : Type 0 where
  pub height : taken_height n m ≡ 0
  pub word : (s : ℕ) → taken (word_in n s) m ≡ None
  pub proof : taken (proof_in n) m ≡ None

-- another server's message
abbrev pub is_other : Heard → Bool
is_other m = not m.own

-- what other servers said
abbrev pub others : List Heard → List Heard
others heard = filter is_other heard

-- None of these orders anything for this number.
abbrev pub AreSilent : ℕ → List Heard → Type 0
AreSilent n [] = Unit {0}
AreSilent n (m ∷ ms) = IsSilent n m × AreSilent n ms

-- what picks nothing of any gathers nothing
gathered_nothing : {X A : Type 0} {join : A → A → A} {none : A} → Gathers join none → (pick : X → A) (x : X) (xs : List X) → pick x ≡ none → gathered join none pick xs ≡ none →
    gathered join none pick (x ∷ xs) ≡ none
unfolding gathered
gathered_nothing {join = join} {none = none} g pick x xs e f = (λ i. join (e i) (f i)) ∙ g.left none

-- nor does it add anything to what was gathered
gathered_still : {X A : Type 0} {join : A → A → A} {none : A} → Gathers join none → (pick : X → A) (xs more : List X) → gathered join none pick more ≡ none →
    gathered join none pick (xs ++ more) ≡ gathered join none pick xs
gathered_still {join = join} {none = none} g pick xs more e =
    gathered-append g pick xs more ∙ ap (join (gathered join none pick xs)) e ∙ g.right (gathered join none pick xs)

-- what picks nothing where a test fails may be gathered from those that pass
gathered_filter : {X A : Type 0} {join : A → A → A} {none : A} → Gathers join none → (pick : X → A) (test : X → Bool) → ((x : X) → test x ≡ false → pick x ≡ none) → (xs : List X) →
    gathered join none pick (filter test xs) ≡ gathered join none pick xs
unfolding gathered
gathered_filter g pick test nothing [] = refl
gathered_filter {join = join} {none = none} g pick test nothing (x ∷ xs) = by_test (test x) refl (gathered_filter g pick test nothing xs)
  where
    by_test : (b : Bool) → test x ≡ b → gathered join none pick (filter test xs) ≡ gathered join none pick xs
        → gathered join none pick (cond b (x ∷ filter test xs) (filter test xs)) ≡ join (pick x) (gathered join none pick xs)
    by_test true e more = ap (join (pick x)) more
    by_test false e more = more ∙ sym (g.left (gathered join none pick xs)) ∙ ap (λ a. join a (gathered join none pick xs)) (sym (nothing x e))

-- what no silent message says
silent_height : (n : ℕ) (ms : List Heard) → AreSilent n ms → most_of (taken_height n) ms ≡ 0
unfolding gathered
silent_height n [] h = refl
silent_height n (m ∷ ms) h = gathered_nothing mosts (taken_height n) m ms h.0.height (silent_height n ms h.1)

silent_word : (n s : ℕ) (ms : List Heard) → AreSilent n ms → greatest_of word_view (taken (word_in n s)) ms ≡ None
unfolding gathered
silent_word n s [] h = refl
silent_word n s (m ∷ ms) h = gathered_nothing (greatests word_view) (taken (word_in n s)) m ms (h.0.word s) (silent_word n s ms h.1)

silent_proof : (n : ℕ) (ms : List Heard) → AreSilent n ms → first_of (taken (proof_in n)) ms ≡ None
unfolding gathered
silent_proof n [] h = refl
silent_proof n (m ∷ ms) h = gathered_nothing firsts (taken (proof_in n)) m ms h.0.proof (silent_proof n ms h.1)

-- two lists with the same proof and the same words of a number order the same for it
proof_by : (seat : Seat) (some more : List Heard) (n : ℕ) → first_of (taken (proof_in n)) more ≡ first_of (taken (proof_in n)) some → most_of (taken_height n) more ≡ most_of (taken_height n) some
    → ((s : ℕ) → greatest_of word_view (taken (word_in n s)) more ≡ greatest_of word_view (taken (word_in n s)) some) → heard_proof seat more n ≡ heard_proof seat some n
unfolding heard_proof
proof_by seat some more n e f g = λ i. or_else (e i) (first_below (words_proof (fresh_here seat) (λ s. from word_height (f i) (g s i))) seat.sites)

-- Silent messages order nothing more.
pub heard_proof-silent : (seat : Seat) (heard more : List Heard) (n : ℕ) → AreSilent n more → heard_proof seat (heard ++ more) n ≡ heard_proof seat heard n
heard_proof-silent seat heard more n h =
    proof_by seat heard (heard ++ more) n
    (gathered_still firsts (taken (proof_in n)) heard more (silent_proof n more h))
    (gathered_still mosts (taken_height n) heard more (silent_height n more h))
    (λ s. gathered_still (greatests word_view) (taken (word_in n s)) heard more (silent_word n s more h))

-- what a server itself sent doesn't matter
own_picks_nothing : {A : Type 0} (pick : Message → Option A) (m : Heard) → is_other m ≡ false → taken pick m ≡ None
own_picks_nothing pick m e = ap (λ b. cond b None (pick m.message)) (not-false m.own e)

own_is_no_height : (n : ℕ) (m : Heard) → is_other m ≡ false → taken_height n m ≡ 0
own_is_no_height n m e = ap (λ b. cond b 0 (height_in n m.message)) (not-false m.own e)

-- Of what was heard only what other servers said orders numbers.
pub heard_proof-others : (seat : Seat) (heard : List Heard) (n : ℕ) → heard_proof seat (others heard) n ≡ heard_proof seat heard n
heard_proof-others seat heard n =
    proof_by seat heard (others heard) n
    (gathered_filter firsts (taken (proof_in n)) is_other (own_picks_nothing (proof_in n)) heard)
    (gathered_filter mosts (taken_height n) is_other (own_is_no_height n) heard)
    (λ s. gathered_filter (greatests word_view) (taken (word_in n s)) is_other (own_picks_nothing (word_in n s)) heard)

-- So two that add the same of other servers' order the same.
pub heard_proof-same : (seat : Seat) (heard some more : List Heard) (n : ℕ) → others more ≡ others some → heard_proof seat (heard ++ more) n ≡ heard_proof seat (heard ++ some) n
heard_proof-same seat heard some more n e =
    sym (heard_proof-others seat (heard ++ more) n)
    ∙ ap (λ ms. heard_proof seat ms n) (filter-append is_other heard more ∙ ap (λ ms. others heard ++ ms) e ∙ sym (filter-append is_other heard some))
    ∙ heard_proof-others seat (heard ++ some) n

-- ---- a server that heard nothing

-- no site's word is kept
no_words : (here : Here) (k : ℕ) → first_below (words_proof here (λ s. None)) k ≡ None
unfolding first_below
no_words here zero = refl
no_words here (suc k) = ap (λ o. or_else o None) (no_words here k)

-- Nothing heard orders nothing.
pub heard_proof-nothing : (seat : Seat) (n : ℕ) → heard_proof seat [] n ≡ None
unfolding heard_proof gathered
heard_proof-nothing seat n = no_words (fresh_here seat) seat.sites

-- Such a server is up to date.
pub up_to_date_at_first : (seat : Seat) (records : List (List Change)) → IsUpToDate (questions seat records [])
up_to_date_at_first seat records =
    let state : Answers = questions seat records [] in
    record {
      next = in_hand-open seat records [] (state.here.executed + 1) (omega arith) ∙ heard_proof-nothing seat (state.here.executed + 1);
      beyond = λ n above. in_hand-open seat records [] n (omega arith) ∙ heard_proof-nothing seat n;
    }
