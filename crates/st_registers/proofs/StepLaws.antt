-- Each flat step from a well world loses nothing and leaves a well world.
use Rattle.std.proofs.Common.{◌≡◌, ℕ, ◌⊎◌, Bool, true, false, IsTrue, List, refl, sym, ◌∙◌, subst, inl, inr, ⊎_elim}
use Rattle.st_registers.specs.Tests.{Tests, start, Safe, IsChosen}
use Rattle.st_registers.specs.Steps.{Proposes, Accepts, Closes, Orders}
use Rattle.st_registers.specs.Advances.{IsWell, Grows, Advances}
use Rattle.st_registers.proofs.AdvancesLaws.{safe-kept, chosen-kept}

-- a world in which nothing has happened is well
pub start-well : {V : Type 0} (members : List ℕ) → IsWell (start {V = V} members)
start-well members =
    record {
      one_proposed = λ view u v h. absurd (let no : false ≡ true = h in cc);
      safe = λ view v h. absurd (let no : false ≡ true = h in cc);
      accepts = λ m view v among h. absurd (let no : false ≡ true = h in cc);
      exclusive = λ m view v among h. absurd (let no : false ≡ true = h in cc);
      orders = λ v h. absurd (let no : false ≡ true = h in cc);
    }

-- what was proposed and what is now are one value, since nothing was proposed in the view
one_proposed-added : {V : Type 0} (old : Tests V) (view : ℕ) (v : V) → IsWell old → ((u : V) → ¬ IsTrue (old.proposed view u)) → (h : ℕ) (a b : V) → IsTrue (old.proposed h a) ⊎ ((h ≡ view) × (a ≡ v)) → IsTrue (old.proposed h b) ⊎ ((h ≡ view) × (b ≡ v)) → a ≡ b
one_proposed-added old view v well free h a b (inl first) (inl second) = well.one_proposed h a b first second
one_proposed-added old view v well free h a b (inl first) (inr now) = absurd (free a (subst (λ x. IsTrue (old.proposed x a)) now.0 first))
one_proposed-added old view v well free h a b (inr now) (inl second) = absurd (free b (subst (λ x. IsTrue (old.proposed x b)) now.0 second))
one_proposed-added old view v well free h a b (inr first) (inr second) = first.1 ∙ sym second.1

-- a proposal advances
pub proposes-advances : {V : Type 0} (old new : Tests V) (view : ℕ) (v : V) → IsWell old → Proposes old new view v → Advances old new
proposes-advances {V} old new view v well step =
    subst (λ t. Advances old t) (sym step.others)
    (let next : Tests V = record old { proposed = new.proposed } in
    let grows : Grows old next =
    record {
      members = refl;
      proposed = λ h u standing. (step.proposed h u).1 (inl standing);
      accepted = λ m h u among standing. standing;
      closed = λ m h among standing. standing;
      logged = λ u standing. standing;
    } in
    record {
      grows = grows;
      well = record {
        one_proposed = λ h a b first second.
            one_proposed-added old view v well step.free h a b ((step.proposed h a).0 first) ((step.proposed h b).0 second);
        safe = λ h u standing.
            ⊎_elim (λ was. safe-kept old next h u grows (well.safe h u was))
            (λ now. subst (λ (x : ℕ). Safe next x u) (sym now.0) (subst (λ (y : V). Safe next view y) (sym now.1) (safe-kept old next view v grows step.safe)))
            ((step.proposed h u).0 standing);
        accepts = λ m h u among standing. grows.proposed h u (well.accepts m h u among standing);
        exclusive = well.exclusive;
        orders = λ u standing. chosen-kept old next u grows (well.orders u standing);
      };
    })

-- an acceptance advances
pub accepts-advances : {V : Type 0} (old new : Tests V) (member view : ℕ) (v : V) → IsWell old → Accepts old new member view v → Advances old new
accepts-advances {V} old new member view v well step =
    subst (λ t. Advances old t) (sym step.others)
    (let next : Tests V = record old { accepted = new.accepted } in
    let grows : Grows old next =
    record {
      members = refl;
      proposed = λ h u standing. standing;
      accepted = λ m h u among standing. (step.accepted m h u).1 (inl standing);
      closed = λ m h among standing. standing;
      logged = λ u standing. standing;
    } in
    record {
      grows = grows;
      well = record {
        one_proposed = well.one_proposed;
        safe = λ h u standing. safe-kept old next h u grows (well.safe h u standing);
        accepts = λ m h u among standing.
            ⊎_elim (λ was. well.accepts m h u among was)
            (λ now. subst (λ (x : ℕ). IsTrue (old.proposed x u)) (sym now.1) (subst (λ (y : V). IsTrue (old.proposed view y)) (sym now.2) step.is_proposed))
            ((step.accepted m h u).0 standing);
        exclusive = λ m h u among standing.
            ⊎_elim (λ was. well.exclusive m h u among was)
            (λ now. subst (λ (x : ℕ). ¬ IsTrue (old.closed x h)) (sym now.0) (subst (λ (y : ℕ). ¬ IsTrue (old.closed member y)) (sym now.1) step.unwritten.not_closed))
            ((step.accepted m h u).0 standing);
        orders = λ u standing. chosen-kept old next u grows (well.orders u standing);
      };
    })

-- closings advance
pub closes-advances : {V : Type 0} (old new : Tests V) (is_closing : ℕ → ℕ → Bool) → IsWell old → Closes old new is_closing → Advances old new
closes-advances {V} old new is_closing well step =
    subst (λ t. Advances old t) (sym step.others)
    (let next : Tests V = record old { closed = new.closed } in
    let grows : Grows old next =
    record {
      members = refl;
      proposed = λ h u standing. standing;
      accepted = λ m h u among standing. standing;
      closed = λ m h among standing. (step.closed m h).1 (inl standing);
      logged = λ u standing. standing;
    } in
    record {
      grows = grows;
      well = record {
        one_proposed = well.one_proposed;
        safe = λ h u standing. safe-kept old next h u grows (well.safe h u standing);
        accepts = well.accepts;
        exclusive = λ m h u among standing closing.
            ⊎_elim (λ was. well.exclusive m h u among standing was) (λ now. (step.unwritten m h now).not_accepted u standing) ((step.closed m h).0 closing);
        orders = λ u standing. chosen-kept old next u grows (well.orders u standing);
      };
    })

-- an order advances
pub orders-advances : {V : Type 0} (old new : Tests V) (v : V) → IsWell old → Orders old new v → Advances old new
orders-advances {V} old new v well step =
    subst (λ t. Advances old t) (sym step.others)
    (let next : Tests V = record old { logged = new.logged } in
    let grows : Grows old next =
    record {
      members = refl;
      proposed = λ h u standing. standing;
      accepted = λ m h u among standing. standing;
      closed = λ m h among standing. standing;
      logged = λ u standing. (step.logged u).1 (inl standing);
    } in
    record {
      grows = grows;
      well = record {
        one_proposed = well.one_proposed;
        safe = λ h u standing. safe-kept old next h u grows (well.safe h u standing);
        accepts = well.accepts;
        exclusive = well.exclusive;
        orders = λ u standing.
            ⊎_elim (λ was. chosen-kept old next u grows (well.orders u was))
            (λ now. subst (λ (y : V). IsChosen next y) (sym now) (chosen-kept old next v grows step.chosen))
            ((step.logged u).0 standing);
      };
    })
