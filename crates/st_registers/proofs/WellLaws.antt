-- In a well world one value is chosen at a number.
use Rattle.std.proofs.Common.{◌≡◌, ℕ, ◌<◌, IsTrue, sym, subst, ⊎_elim}
use Rattle.std.proofs.lemmas.Bool.{cases_order}
use Rattle.st_counts.specs.Counts.{HasMajority, Found, Shared}
use Rattle.st_counts.proofs.QuorumLaws.{majority-found, majorities-share}
use Rattle.st_registers.specs.Tests.{Tests, IsChosen}
use Rattle.st_registers.specs.Advances.{IsWell}

-- what a majority has accepted in a view is proposed there
pub accepted-proposed : {V : Type 0} (t : Tests V) (view : ℕ) (v : V) → IsWell t → HasMajority t.members (λ m. t.accepted m view v) → IsTrue (t.proposed view v)
accepted-proposed t view v well most =
    let member : Found (λ m. t.accepted m view v) t.members = majority-found t.members (λ m. t.accepted m view v) most in
    well.accepts member.element view v member.among member.passes

-- A majority that accepted and a majority that closed would share a register. So what a majority has
-- accepted in a view, each value proposed in a higher view equals.
pub later-same : {V : Type 0} (t : Tests V) (low high : ℕ) (u v : V) → IsWell t → low < high → HasMajority t.members (λ m. t.accepted m low u) → IsTrue (t.proposed high v) → u ≡ v
later-same t low high u v well below most standing =
    ⊎_elim
    (λ same. well.one_proposed low u v (accepted-proposed t low u well most) same)
    (λ closing. let both : Shared (λ m. t.accepted m low u) (λ m. t.closed m low) t.members =
    majorities-share t.members (λ m. t.accepted m low u) (λ m. t.closed m low) most closing in
    absurd (well.exclusive both.element low u both.among both.first both.second))
    (well.safe high v standing low below)

-- one value is chosen
pub one-chosen : {V : Type 0} (t : Tests V) (u v : V) → IsWell t → IsChosen t u → IsChosen t v → u ≡ v
one-chosen t u v well first second =
    ⊎_elim
    (λ same. well.one_proposed second.0 u v (subst (λ view. IsTrue (t.proposed view u)) same (accepted-proposed t first.0 u well first.1)) (accepted-proposed t second.0 v well second.1))
    (⊎_elim
    (λ below. later-same t first.0 second.0 u v well below first.1 (accepted-proposed t second.0 v well second.1))
    (λ above. sym (later-same t second.0 first.0 v u well above second.1 (accepted-proposed t first.0 u well first.1))))
    (cases_order first.0 second.0)

-- one value is in the log
pub one-logged : {V : Type 0} (t : Tests V) (u v : V) → IsWell t → IsTrue (t.logged u) → IsTrue (t.logged v) → u ≡ v
one-logged t u v well first second = one-chosen t u v well (well.orders u first) (well.orders v second)
