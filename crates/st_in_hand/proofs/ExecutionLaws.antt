-- Numbers that are executed one by one, up to the first that has no proof.
use Rattle.std.proofs.Common.{◌≡◌, ℕ, ◌+◌, ◌≤◌, Bool, true, false, cond, zero, suc, List, [], ◌∷◌, ◌++◌, length, refl, sym, ◌∙◌, ap, arith}
use Rattle.std.specs.Prelude.{Option, Some, None, nat_eq}
use Rattle.st_message.specs.declared.message.Proof.{Proof}
use Rattle.st_message.specs.declared.change.Change.{Change}
use Rattle.st_message.specs.declared.change.Change.TheVariants.{Executed}
use Rattle.st_message.specs.declared.change.Heard.{Heard}
use Rattle.st_protocol.specs.Keeping.{given, count_of, gathered, joined}
use Rattle.st_protocol.specs.State.{Seat, Here, Hand}
use Rattle.st_protocol.specs.Questions.{is_executed, here_of, questions}
use Rattle.st_protocol.specs.Ordering.{in_hand, executions}
use Rattle.st_protocol.proofs.GatherLaws.{sums, gathered-append, joined-push}
use Rattle.st_in_hand.specs.InHand.{ExecutesFrom, executing}

-- Only one list executes them.
pub executes_one : (proof : ℕ → Option Proof) (n : ℕ) (xs ys : List Change) → ExecutesFrom proof n xs → ExecutesFrom proof n ys → xs ≡ ys
unfolding ExecutesFrom
executes_one proof n [] [] h k = refl
executes_one proof n [] (y ∷ ys) h k = absurd (let no : None ≡ Some k.0 = sym h ∙ k.1 in cc)
executes_one proof n (x ∷ xs) [] h k = absurd (let no : None ≡ Some h.0 = sym k ∙ h.1 in cc)
executes_one proof n (x ∷ xs) (y ∷ ys) h k =
    let same : Some h.0 ≡ Some k.0 = sym h.1 ∙ k.1 in
    let proof_same : h.0 ≡ k.0 = cc in
    let first : x ≡ y = h.2 ∙ ap (Executed (record { 0 = n })) proof_same ∙ sym k.2 in
    λ i. first i ∷ executes_one proof (n + 1) xs ys h.3 k.3 i

-- two numbers that have proofs, before one that has none
pub executes_two : (p q : Proof) →
    ExecutesFrom (λ n. cond (nat_eq n 1) (Some p) (cond (nat_eq n 2) (Some q) None)) 1 (Executed (record { 0 = 1 }) p ∷ Executed (record { 0 = 2 }) q ∷ [])
unfolding ExecutesFrom
executes_two p q = (p, refl, refl, (q, refl, refl, refl))

-- where two say the same from a number on, the same is executed
pub executes_same : (some more : ℕ → Option Proof) (n : ℕ) (xs : List Change) → ((k : ℕ) → n ≤ k → some k ≡ more k) → ExecutesFrom some n xs → ExecutesFrom more n xs
unfolding ExecutesFrom
executes_same some more n [] same h = sym (same n (omega arith)) ∙ h
executes_same some more n (x ∷ xs) same h =
    (h.0, sym (same n (omega arith)) ∙ h.1, h.2, executes_same some more (n + 1) xs (λ k above. same k (omega arith)) h.3)

-- the first number that isn't executed has no proof
pub executes_until : (proof : ℕ → Option Proof) (n : ℕ) (xs : List Change) → ExecutesFrom proof n xs → proof (n + length xs) ≡ None
unfolding ExecutesFrom
executes_until proof n [] h =
    let same : n + 0 ≡ n = omega arith in
    ap proof same ∙ h
executes_until proof n (x ∷ xs) h =
    let same : n + suc (length xs) ≡ n + 1 + length xs = omega arith in
    ap proof same ∙ executes_until proof (n + 1) xs h.3

-- so many at most are executed, and the next after these isn't in hand
pub executions_execute : (here : Here) (hand : Hand) (k n : ℕ) → in_hand here hand (n + k) ≡ None → ExecutesFrom (in_hand here hand) n (executing (executions here hand k n))
unfolding ExecutesFrom executions
executions_execute here hand zero n none =
    let same : n + 0 ≡ n = omega arith in
    sym (ap (in_hand here hand) same) ∙ none
executions_execute here hand (suc k) n none = by_proof (in_hand here hand n) refl (executions_execute here hand k (n + 1) (ap (in_hand here hand) same ∙ none))
  where
    same : n + 1 + k ≡ n + suc k
    same = omega arith

    by_proof : (p : Option Proof) → in_hand here hand n ≡ p → ExecutesFrom (in_hand here hand) (n + 1) (executing (executions here hand k (n + 1))) →
        ExecutesFrom (in_hand here hand) n (executing (given p [] (λ q. Executed (record { 0 = n }) q ∷ executions here hand k (n + 1))))
    by_proof None e more = e
    by_proof (Some q) e more = (q, e, refl, more)

-- executed numbers are counted
count_executing : (xs : List Change) → count_of is_executed xs ≡ length (executing xs)
unfolding gathered
count_executing [] = refl
count_executing (x ∷ xs) = by_test (is_executed x) (count_executing xs)
  where
    by_test : (b : Bool) → count_of is_executed xs ≡ length (executing xs) → cond b 1 0 + count_of is_executed xs ≡ length (cond b (x ∷ executing xs) (executing xs))
    by_test true e = omega (arith, e)
    by_test false e = omega (arith, e)

-- A body more executes its numbers more.
pub executed_more : (seat : Seat) (records : List (List Change)) (body : List Change) (heard more : List Heard) →
    (questions seat (records ++ body ∷ []) more).here.executed ≡ (questions seat records heard).here.executed + length (executing body)
unfolding questions here_of
executed_more seat records body heard more =
    ap (count_of is_executed) (joined-push records body)
    ∙ gathered-append sums (λ x. cond (is_executed x) 1 0) (joined records) body
    ∙ ap (λ n. count_of is_executed (joined records) + n) (count_executing body)
