-- What flat steps keep, whichever they are: tests only grow, and are well.
use Rattle.std.specs.Prelude.{◌≡◌, ℕ, IsTrue}
use Rattle.st_counts.specs.Counts.{Has}
use Rattle.st_registers.specs.Tests.{Tests, Safe, IsChosen}

-- What holds at a number in every reachable flat world.
pub record IsWell {V : Type 0} (t : Tests V) : Type 0 where
  pub one_proposed : (view : ℕ) (u v : V) → IsTrue (t.proposed view u) → IsTrue (t.proposed view v) → u ≡ v
  pub safe : (view : ℕ) (v : V) → IsTrue (t.proposed view v) → Safe t view v
  pub accepts : (m view : ℕ) (v : V) → Has m t.members → IsTrue (t.accepted m view v) → IsTrue (t.proposed view v)
  pub exclusive : (m view : ℕ) (v : V) → Has m t.members → IsTrue (t.accepted m view v) → ¬ IsTrue (t.closed m view)
  pub orders : (v : V) → IsTrue (t.logged v) → IsChosen t v

-- Nothing that stood is lost.
pub record Grows {V : Type 0} (old new : Tests V) : Type 0 where
  pub members : new.members ≡ old.members
  pub proposed : (view : ℕ) (v : V) → IsTrue (old.proposed view v) → IsTrue (new.proposed view v)
  pub accepted : (m view : ℕ) (v : V) → Has m old.members → IsTrue (old.accepted m view v) → IsTrue (new.accepted m view v)
  pub closed : (m view : ℕ) → Has m old.members → IsTrue (old.closed m view) → IsTrue (new.closed m view)
  pub logged : (v : V) → IsTrue (old.logged v) → IsTrue (new.logged v)

-- What any list of flat steps leaves of a well world, said without the list: nothing is lost and all is
-- well. So a register that was written never changes, and each new proposal is safe.
pub record Advances {V : Type 0} (old new : Tests V) : Type 0 where
  pub grows : Grows old new
  pub well : IsWell new
