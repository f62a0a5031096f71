-- What the rules of the parts come to: quorums that are enough, unions that are waited for, reports that leave nothing out,
-- records that a restart keeps.
use Rattle.std.proofs.Common.{◌≡◌, ◌∙◌, ap, sym, subst, ℕ, ◌+◌, ◌*◌, ◌<◌, ◌≤◌, Bool, true, false, cond, zero, suc, List, [], ◌∷◌, ◌++◌, length, append-nil, refl, arith}
use Rattle.std.proofs.lemmas.Bool.{leb-true, ltb-true, ltb-false, eqb-true, eqb-false}
use Rattle.std.proofs.lemmas.List.{length-append}
use Rattle.std.proofs.lemmas.List.Elements.{Contains-append_left, Contains-append_right}
use Rattle.std.specs.Prelude.{◌&&◌, not, nat_eq, nat_lt, Option, Some, None, is_none}
use Rattle.std.specs.List.{Contains}
use Rattle.st_words.specs.declared.deployment.TheConstants.{WINDOW}
use Rattle.st_words.specs.declared.value.Value.{Value}
use Rattle.st_words.specs.declared.statement.Statement.{Statement}
use Rattle.st_seal.specs.declared.quorum.Signed.{Signed}
use Rattle.st_message.specs.declared.change.Change.{Change}
use Rattle.st_message.specs.declared.reason.Reason.{Reason}
use Rattle.st_message.specs.declared.step.Step.{Step}
use Rattle.st_protocol.specs.Words.{Bytes, same_statement}
use Rattle.st_protocol.specs.Keeping.{given}
use Rattle.st_protocol.specs.State.{AtPrepare, Here, Backed, Share, Slots, Pended}
use Rattle.st_protocol.specs.Step.{Refused, Steps, idle, when, decides, count_below, all_below, servers, quorum, rep, leader, says, agreeing, with_share, signed_at, quorum_of, completes, completed}
use Rattle.st_protocol.specs.Part.{first_reason, answer_by}
use Rattle.st_protocol.specs.Forced.{Forced, waits}
use Rattle.st_protocol.specs.Collecting.{in_window}
use Rattle.st_protocol.specs.Assigning.{assign_reasons, assign_step, on_assign, fill}
use Rattle.st_protocol.specs.World.{Running, Deployment, Node}
use Rattle.st_protocol.specs.Schedule.{restarted}
use Rattle.st_protocol.proofs.PartLaws.{NoneTrue, none_true, decides_by}

-- ---- quorums

-- a server's seal counts for one where its share is over the statement
one_long : (s : Statement) (i : ℕ) (x : Option Share) → length {A = Signed} (given x [] (λ y. cond (same_statement y.statement s) (record { index = i; seal = y.seal } ∷ []) [])) ≡ cond (says s x) 1 0
one_long s i None = refl
one_long s i (Some x) = by (same_statement x.statement s)
  where
    by : (b : Bool) → length {A = Signed} (cond b (record { index = i; seal = x.seal } ∷ []) []) ≡ cond b 1 0
    by true = refl
    by false = refl

-- as many seals stand together as shares are over the statement
as_many : (s : Statement) (shares : ℕ → Option Share) (k : ℕ) → length (all_below (signed_at s shares) k) ≡ count_below (λ i. says s (shares i)) k
unfolding all_below count_below
as_many s shares zero = refl
as_many s shares (suc k) =
    let both = length-append (all_below (signed_at s shares) k) (signed_at s shares k) in
    let more = as_many s shares k in
    let one = one_long s k (shares k) in
    omega (arith, both, more, one)

-- What completes a slot is a quorum.
pub completed_many : (here : Here) (shares : ℕ → Option Share) (s : Statement) (signed : Signed) → completes here shares s signed ≡ true → 2 * here.seat.f + 1 ≤ length (completed here shares s signed)
unfolding agreeing quorum_of
completed_many here shares s signed e =
    let many = leb-true (quorum here) (agreeing here (with_share shares s signed) s) e in
    let same = as_many s (with_share shares s signed) (servers here) in
    omega (arith, many, same)

-- ---- unions

-- where a step is answered, no reason's test is true
none_refused : (ts : List (Bool × Reason)) (step done : Step) → decides ts step ≡ Steps done → NoneTrue ts
none_refused ts step done e = none_true ts (by (first_reason ts) (sym (decides_by ts step) ∙ e))
  where
    by : (r : Option Reason) → answer_by r step ≡ Steps done → r ≡ None
    by None is = refl
    by (Some reason) is = absurd (let no : Refused reason ≡ Steps done = is in cc)

-- An assignment to a free slot waits for unions.
pub assign_waits : (here : Here) (slots : Slots) (forced : Forced) (view local n : ℕ) (value : Value) (client_seal : Bytes) (signed : Signed) (step : Step) →
    on_assign here slots forced view local n value client_seal signed ≡ Steps step → slots.made (AtPrepare view local n) ≡ None → waits forced ≡ false
assign_waits here slots forced view local n value client_seal signed step e free =
    let none = none_refused (assign_reasons here slots forced view local n value client_seal signed) (assign_step here slots view local n value signed) step e in
    second (is_none (slots.made (AtPrepare view local n))) (waits forced) (ap is_none free) none.1.1.1.1.1.0
  where
    second : (a b : Bool) → a ≡ true → (a && b) ≡ false → b ≡ false
    second true b is both = both
    second false b is both = absurd (let no : false ≡ true = is in cc)

-- So does the fill.
pub fill_waits : (here : Here) (slots : Slots) (pending : ℕ → Option Pended) (forced : Forced) → waits forced ≡ true → fill here slots pending forced ≡ idle
unfolding fill
fill_waits here slots pending forced e = by (nat_eq here.seat.index (rep here) && nat_eq here.seat.site (leader here)) (waits forced) _ e
  where
    by : (a b : Bool) (step : Step) → b ≡ true → when (a && not b) step ≡ idle
    by true true step is = refl
    by false true step is = refl
    by a false step is = absurd (let no : false ≡ true = is in cc)

-- ---- reports

-- below the next number, and not this one
below_others : (k n : ℕ) → k < suc n → nat_eq k n ≡ false → k < n
below_others k n below other = by (nat_lt k n) refl
  where
    by : (b : Bool) → nat_lt k n ≡ b → k < n
    by true less = ltb-true k n less
    by false over = absurd (eqb-false k n other (let high = ltb-false k n over in omega (arith, high, below)))

-- what stands alone at one number is among what is put together
among : {A : Type 0} (f : ℕ → List A) (x : A) (n k : ℕ) → k < n → f k ≡ x ∷ [] → Contains (all_below f n) x
unfolding all_below
among f x zero k below is = absurd (omega (arith, below))
among f x (suc n) k below is = by (nat_eq k n) refl (λ less. among f x n k less is)
  where
    by : (b : Bool) → nat_eq k n ≡ b → (k < n → Contains (all_below f n) x) → Contains (all_below f n ++ f n) x
    by true same more = Contains-append_right (all_below f n) (f n) x (subst (λ xs. Contains xs x) (sym (ap f (sym (eqb-true k n same)) ∙ is)) (0, omega arith, refl))
    by false other more = Contains-append_left (all_below f n) (f n) x (more (below_others k n below other))

-- What is kept of a number of the window is among the list.
pub in_window_has : {A : Type 0} (here : Here) (kept : ℕ → Option Backed) (f : ℕ → Backed → A) (k : ℕ) (b : Backed) → k < WINDOW → kept (here.executed + 1 + k) ≡ Some b → Contains (in_window here kept f) (f (here.executed + 1 + k) b)
in_window_has here kept f k b below is = among (λ k. given (kept (here.executed + 1 + k)) [] (λ b. f (here.executed + 1 + k) b ∷ [])) (f (here.executed + 1 + k) b) WINDOW k below (ap (λ x. given x [] (λ b. f (here.executed + 1 + k) b ∷ [])) is)

-- ---- restarts

-- A restart keeps every record.
pub restart_keeps : {Wire : Type 0} (d : Deployment Wire) (node : Node) (kept : Bool) → (more : List (List Change)) × ((restarted d node kept).bodies ≡ node.bodies ++ more)
restart_keeps d node kept = by (cond kept node.apart None)
  where
    by : (x : Option (List Change)) → (more : List (List Change)) × ((given {B = Node} x
        (record { bodies = node.bodies; heard = []; stand = Running; stop = 0; apart = None; bytes = node.bytes })
        (λ changes. record { bodies = node.bodies ++ changes ∷ []; heard = []; stand = Running; stop = 0; apart = None; bytes = node.bytes + d.formats.body_size changes })).bodies ≡ node.bodies ++ more)
    by None = ([], sym (append-nil node.bodies))
    by (Some changes) = (changes ∷ [], refl)
