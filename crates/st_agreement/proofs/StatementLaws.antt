-- The tests of statements find just what they are named for.
use Rattle.std.proofs.Common.{◌≡◌, ℕ, true, false, IsTrue, refl}
use Rattle.std.proofs.lemmas.Bool.{and_parts, and_from, eqb-true, eq-eqb}
use Rattle.st_words.specs.declared.value.Value.{Value}
use Rattle.st_words.specs.declared.statement.Statement.{Statement}
use Rattle.st_words.specs.declared.statement.Statement.TheVariants.{Prepare, Proposal, Accept}
use Rattle.st_registers.proofs.ValueLaws.{value_eq-true, value_eq-refl}
use Rattle.st_agreement.specs.Statements.{prepare, proposal, accept, is_prepare, is_proposal, is_proposal_at, is_accept, is_accept_at}

-- a Prepare that passes is this one
pub is_prepare-true : (s g l n : ℕ) (v : Value) (t : Statement) → IsTrue (is_prepare s g l n v t) → t ≡ prepare s g l n v
is_prepare-true s g l n v (Prepare s2 g2 l2 n2 v2) passes =
    let value = and_parts _ _ passes in
    let number = and_parts _ _ value.0 in
    let local = and_parts _ _ number.0 in
    let view = and_parts _ _ local.0 in
    let s_is = eqb-true s2.0 s view.0 in
    let g_is = eqb-true g2.0 g view.1 in
    let l_is = eqb-true l2.0 l local.1 in
    let n_is = eqb-true n2.0 n number.1 in
    let v_is = value_eq-true v2 v value.1 in
    λ i. prepare (s_is i) (g_is i) (l_is i) (n_is i) (v_is i)
is_prepare-true s g l n v _ passes = absurd (let no : false ≡ true = passes in cc)

-- it passes its own test
pub is_prepare-refl : (s g l n : ℕ) (v : Value) → IsTrue (is_prepare s g l n v (prepare s g l n v))
is_prepare-refl s g l n v =
    and_from _ _ (and_from _ _ (and_from _ _ (and_from _ _ (eq-eqb s s refl) (eq-eqb g g refl)) (eq-eqb l l refl)) (eq-eqb n n refl)) (value_eq-refl v)

-- a Proposal that passes is this one
pub is_proposal-true : (s g l n : ℕ) (v : Value) (t : Statement) → IsTrue (is_proposal s g l n v t) → t ≡ proposal s g l n v
is_proposal-true s g l n v (Proposal s2 g2 l2 n2 v2) passes =
    let value = and_parts _ _ passes in
    let number = and_parts _ _ value.0 in
    let local = and_parts _ _ number.0 in
    let view = and_parts _ _ local.0 in
    let s_is = eqb-true s2.0 s view.0 in
    let g_is = eqb-true g2.0 g view.1 in
    let l_is = eqb-true l2.0 l local.1 in
    let n_is = eqb-true n2.0 n number.1 in
    let v_is = value_eq-true v2 v value.1 in
    λ i. proposal (s_is i) (g_is i) (l_is i) (n_is i) (v_is i)
is_proposal-true s g l n v _ passes = absurd (let no : false ≡ true = passes in cc)

-- it passes its own test
pub is_proposal-refl : (s g l n : ℕ) (v : Value) → IsTrue (is_proposal s g l n v (proposal s g l n v))
is_proposal-refl s g l n v =
    and_from _ _ (and_from _ _ (and_from _ _ (and_from _ _ (eq-eqb s s refl) (eq-eqb g g refl)) (eq-eqb l l refl)) (eq-eqb n n refl)) (value_eq-refl v)

-- a Proposal in the slot is one of some value
pub is_proposal_at-true : (s g l n : ℕ) (t : Statement) → IsTrue (is_proposal_at s g l n t) → (v : Value) × (t ≡ proposal s g l n v)
is_proposal_at-true s g l n (Proposal s2 g2 l2 n2 v2) passes =
    let number = and_parts _ _ passes in
    let local = and_parts _ _ number.0 in
    let view = and_parts _ _ local.0 in
    let s_is = eqb-true s2.0 s view.0 in
    let g_is = eqb-true g2.0 g view.1 in
    let l_is = eqb-true l2.0 l local.1 in
    let n_is = eqb-true n2.0 n number.1 in
    (v2, λ i. proposal (s_is i) (g_is i) (l_is i) (n_is i) v2)
is_proposal_at-true s g l n _ passes = absurd (let no : false ≡ true = passes in cc)

-- an Accept that passes is this one
pub is_accept-true : (s g n : ℕ) (v : Value) (t : Statement) → IsTrue (is_accept s g n v t) → t ≡ accept s g n v
is_accept-true s g n v (Accept s2 g2 n2 v2) passes =
    let value = and_parts _ _ passes in
    let number = and_parts _ _ value.0 in
    let view = and_parts _ _ number.0 in
    let s_is = eqb-true s2.0 s view.0 in
    let g_is = eqb-true g2.0 g view.1 in
    let n_is = eqb-true n2.0 n number.1 in
    let v_is = value_eq-true v2 v value.1 in
    λ i. accept (s_is i) (g_is i) (n_is i) (v_is i)
is_accept-true s g n v _ passes = absurd (let no : false ≡ true = passes in cc)

-- it passes its own test
pub is_accept-refl : (s g n : ℕ) (v : Value) → IsTrue (is_accept s g n v (accept s g n v))
is_accept-refl s g n v =
    and_from _ _ (and_from _ _ (and_from _ _ (eq-eqb s s refl) (eq-eqb g g refl)) (eq-eqb n n refl)) (value_eq-refl v)

-- an Accept in the slot is one of some value
pub is_accept_at-true : (s g n : ℕ) (t : Statement) → IsTrue (is_accept_at s g n t) → (v : Value) × (t ≡ accept s g n v)
is_accept_at-true s g n (Accept s2 g2 n2 v2) passes =
    let number = and_parts _ _ passes in
    let view = and_parts _ _ number.0 in
    let s_is = eqb-true s2.0 s view.0 in
    let g_is = eqb-true g2.0 g view.1 in
    let n_is = eqb-true n2.0 n number.1 in
    (v2, λ i. accept (s_is i) (g_is i) (n_is i) v2)
is_accept_at-true s g n _ passes = absurd (let no : false ≡ true = passes in cc)

-- an Accept of a value is one in its slot
pub is_accept-at : (s g n : ℕ) (v : Value) (t : Statement) → IsTrue (is_accept s g n v t) → IsTrue (is_accept_at s g n t)
is_accept-at s g n v (Accept s2 g2 n2 v2) passes = (and_parts _ _ passes).0
is_accept-at s g n v _ passes = passes

-- a Proposal of a value is one in its slot
pub is_proposal-at : (s g l n : ℕ) (v : Value) (t : Statement) → IsTrue (is_proposal s g l n v t) → IsTrue (is_proposal_at s g l n t)
is_proposal-at s g l n v (Proposal s2 g2 l2 n2 v2) passes = (and_parts _ _ passes).0
is_proposal-at s g l n v _ passes = passes
