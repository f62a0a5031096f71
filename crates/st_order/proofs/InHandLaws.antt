-- Laws on what is in hand: a number's proof is that of its words, and numbers are executed as far as they are in hand.
use Rattle.std.proofs.Common.{◌≡◌, ◌∙◌, ap, sym, ℕ, zero, suc, ◌+◌, Some, None, List, [], ◌∷◌, ◌++◌, append-nil, append_assoc, refl}
use Rattle.st_message.specs.declared.here as code
use Rattle.st_message.specs.declared.message.Proof.{Proof}
use Rattle.st_message.specs.declared.change.Change.{Change}
use Rattle.st_message.specs.declared.change.Change.TheVariants.{Executed}
use Rattle.st_tables.specs.Window.{kept}
use Rattle.st_protocol.specs.State as state
use Rattle.st_protocol.specs.State.{Here}
use Rattle.st_protocol.specs.Step.{first_below}
use Rattle.st_protocol.specs.Ordering.{words_proof, in_hand, executions}
use Rattle.st_state.specs.declared.hand.Hand.{Hand}
use Rattle.st_state.specs.HereView.{Serve, here_of}
use Rattle.st_state.specs.HandView.{word_of, hand_of}
use Rattle.st_order.specs.Words.{bare, proof_in}

-- a number's proof is that of its words
pub in_hand_by : (clients : ℕ) (serve : Serve) (here : code.Here.Here) (hand : Hand) (n : ℕ)
    → in_hand (here_of clients serve here) (hand_of (here_of clients serve here) hand) n ≡ proof_in (bare here) (kept here.executed hand.numbers n)
unfolding in_hand hand_of
in_hand_by clients serve here hand n = refl

-- no words give no proof
none_in : (here : Here) → proof_in here None ≡ None
unfolding first_below
none_in here = none_below here.seat.sites
  where
    none_below : (k : ℕ) → first_below (words_proof here (word_of None)) k ≡ None
    none_below zero = refl
    none_below (suc k) = rw (none_below k) refl

-- a number of which no words are kept isn't in hand
pub not_in_hand : (clients : ℕ) (serve : Serve) (here : code.Here.Here) (hand : Hand) (n : ℕ)
    → None ≡ kept here.executed hand.numbers n → None ≡ in_hand (here_of clients serve here) (hand_of (here_of clients serve here) hand) n
not_in_hand clients serve here hand n none = sym (in_hand_by clients serve here hand n ∙ (ap (proof_in (bare here)) (sym none) ∙ none_in (bare here)))

-- ---- numbers are executed

-- a number that is in hand is executed, and then those after it
pub executes_next : (h : Here) (hand : state.Hand) (all done : List Change) (k j n m : ℕ) (p : Proof)
    → all ≡ done ++ executions h hand k n → k ≡ suc j → n + 1 ≡ m → Some p ≡ in_hand h hand n
    → all ≡ (done ++ Executed (record { 0 = n }) p ∷ []) ++ executions h hand j m
unfolding executions
executes_next h hand all done k j n m p so more next here =
    let first : executions h hand k n ≡ Executed (record { 0 = n }) p ∷ executions h hand j m = rw more (rw (← here) (rw next refl)) in
    so ∙ (ap (λ xs. done ++ xs) first ∙ sym (append_assoc done (Executed (record { 0 = n }) p ∷ []) (executions h hand j m)))

-- none is executed after one that isn't in hand
pub executes_no_more : (h : Here) (hand : state.Hand) (all done : List Change) (k j n : ℕ)
    → all ≡ done ++ executions h hand k n → k ≡ suc j → None ≡ in_hand h hand n → done ≡ all
unfolding executions
executes_no_more h hand all done k j n so more here =
    let none : executions h hand k n ≡ [] = rw more (rw (← here) refl) in
    sym (so ∙ (ap (λ xs. done ++ xs) none ∙ append-nil done))

-- so many are executed
pub executes_all : (h : Here) (hand : state.Hand) (all done : List Change) (k n : ℕ) → all ≡ done ++ executions h hand k n → k ≡ 0 → done ≡ all
unfolding executions
executes_all h hand all done k n so end =
    let none : executions h hand k n ≡ [] = rw end refl in
    sym (so ∙ (ap (λ xs. done ++ xs) none ∙ append-nil done))

-- before the first
pub executes_none_yet : (h : Here) (hand : state.Hand) (k n m : ℕ) → n ≡ m → executions h hand k n ≡ [] ++ executions h hand k m
executes_none_yet h hand k n m same = ap (executions h hand k) same
