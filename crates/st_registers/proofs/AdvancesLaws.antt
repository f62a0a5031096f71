-- Growth keeps what is safe and chosen; advances compose.
use Rattle.std.proofs.Common.{◌≡◌, ℕ, Bool, IsTrue, List, refl, sym, ◌∙◌, subst, inl, inr, ⊎_elim}
use Rattle.st_counts.specs.Counts.{HasMajority, Has}
use Rattle.st_counts.proofs.QuorumLaws.{majority-mono}
use Rattle.st_registers.specs.Tests.{Tests, Safe, IsChosen}
use Rattle.st_registers.specs.Advances.{IsWell, Grows, Advances}
use Rattle.st_registers.proofs.WellLaws.{one-logged}

-- a majority of members that stay the same, for a test that only grows
pub majority-kept : (old new : List ℕ) (p q : ℕ → Bool) → new ≡ old → ((m : ℕ) → Has m old → IsTrue (p m) → IsTrue (q m)) → HasMajority old p → HasMajority new q
majority-kept old new p q same grows most = subst (λ members. HasMajority members q) (sym same) (majority-mono old p q grows most)

-- what is safe stays safe
pub safe-kept : {V : Type 0} (old new : Tests V) (view : ℕ) (v : V) → Grows old new → Safe old view v → Safe new view v
safe-kept old new view v grows safe = λ lower below.
    ⊎_elim
    (λ standing. inl (grows.proposed lower v standing))
    (λ most. inr (majority-kept old.members new.members (λ m. old.closed m lower) (λ m. new.closed m lower) grows.members (λ m. grows.closed m lower) most))
    (safe lower below)

-- what is chosen stays chosen
pub chosen-kept : {V : Type 0} (old new : Tests V) (v : V) → Grows old new → IsChosen old v → IsChosen new v
chosen-kept old new v grows chosen =
    (chosen.0, majority-kept old.members new.members (λ m. old.accepted m chosen.0 v) (λ m. new.accepted m chosen.0 v) grows.members (λ m. grows.accepted m chosen.0 v) chosen.1)

-- nothing is lost where nothing happens
pub grows-refl : {V : Type 0} (t : Tests V) → Grows t t
grows-refl t =
    record {
      members = refl;
      proposed = λ view v h. h;
      accepted = λ m view v among h. h;
      closed = λ m view among h. h;
      logged = λ v h. h;
    }

-- nothing is lost in two turns where nothing is lost in each
pub grows-trans : {V : Type 0} (a b c : Tests V) → Grows a b → Grows b c → Grows a c
grows-trans a b c first second =
    let member : (m : ℕ) → Has m a.members → Has m b.members = λ m. subst (λ members. Has m members) (sym first.members) in
    record {
      members = second.members ∙ first.members;
      proposed = λ view v h. second.proposed view v (first.proposed view v h);
      accepted = λ m view v among h. second.accepted m view v (member m among) (first.accepted m view v among h);
      closed = λ m view among h. second.closed m view (member m among) (first.closed m view among h);
      logged = λ v h. second.logged v (first.logged v h);
    }

-- a well world goes on to itself
pub advances-refl : {V : Type 0} (t : Tests V) → IsWell t → Advances t t
advances-refl t well = record { grows = grows-refl t; well = well }

-- two advances are one
pub advances-trans : {V : Type 0} (a b c : Tests V) → Advances a b → Advances b c → Advances a c
advances-trans a b c first second = record { grows = grows-trans a b c first.grows second.grows; well = second.well }

-- a value once in the log and one in it later are the same
pub advances-one_value : {V : Type 0} (old new : Tests V) (u v : V) → Advances old new → IsTrue (old.logged u) → IsTrue (new.logged v) → u ≡ v
advances-one_value old new u v step early late = one-logged new u v step.well (step.grows.logged u early) late
