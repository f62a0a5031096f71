-- What a change of a flat world's table or log is: one flat step.
use Rattle.std.proofs.Common.{◌≡◌, ◌↔◌, ℕ, ◌<◌, ◌⊎◌, ◌==◌, ◌&&◌, ◌||◌, ◌++◌, Bool, true, false, IsTrue, List, [], ◌∷◌, map, Option, Some, None, IsSome, refl, sym, ◌∙◌, ap, subst, inl, inr, ⊎_elim}
use Rattle.std.proofs.lemmas.Bool.{cases_eq, and_parts, and_from, and_left, and_right, eqb-true, eq-eqb, ne_eqb, or_cases, or_left, or_right, both_ways}
use Rattle.std.proofs.lemmas.List.Folds.{list_any-append}
use Rattle.st_words.specs.declared.value.Value.{Value}
use Rattle.st_counts.specs.Counts.{Has, HasMajority, numbers_below}
use Rattle.st_counts.proofs.MemberLaws.{has-numbers_below, has-map, any-from}
use Rattle.st_counts.proofs.QuorumLaws.{majority-mono, majority-found}
use Rattle.st_registers.specs.declared.ordered.Ordered.{Ordered}
use Rattle.st_registers.specs.declared.slot.Register.{Register}
use Rattle.st_registers.specs.declared.slot.Register.TheVariants.{Unwritten, Accepted, Closed}
use Rattle.st_registers.specs.declared.slot.Slot.{Slot}
use Rattle.st_registers.specs.FlatWorld.{FlatWorld, tests_in, tests_of, is_logged, IsSound, Steps, HasOneValue, OrdersOneValue}
use Rattle.st_registers.specs.Slots.{is_value, is_accepted, is_closed, proposed_in, register_in, Table, slot_at, KeepsOthers, SetsProposal, SetsRegister}
use Rattle.st_registers.specs.Steps.{At, Proposes, Accepts, Closes, Orders, FlatStep, IsRun}
use Rattle.st_registers.specs.Tests.{Tests, Safe, IsChosen, IsUnwritten}
use Rattle.st_registers.specs.Values.{value_eq}
use Rattle.st_registers.specs.Advances.{Advances}
use Rattle.st_registers.specs.Answers.{IsChosenIn, IsProposed, IsTaken}
use Rattle.st_registers.proofs.RunLaws.{at-advances, run-one_value}
use Rattle.st_registers.proofs.WellLaws.{one-logged}
use Rattle.st_registers.proofs.ValueLaws.{value_eq-true, value_eq-refl, value_eq-Decides}

-- the tests of a number whose slots stay are as they were
pub tests-kept : (old new : Table) (number : ℕ) (logged : Value → Bool) → new.members ≡ old.members → ((h : ℕ) → slot_at new h number ≡ slot_at old h number) → tests_in new number logged ≡ tests_in old number logged
tests-kept old new number logged members slots =
    λ i. record {
      members = numbers_below (members i);
      proposed = λ h v. is_value v (proposed_in (slots h i));
      accepted = λ m h v. is_value v (proposed_in (slots h i)) && is_accepted (register_in (slots h i) m);
      closed = λ m h. is_closed (register_in (slots h i) m);
      logged = logged;
    }

-- a change at one view and number leaves all other numbers
pub others-kept : (old new : Table) (view number : ℕ) → KeepsOthers old new view number → (n : ℕ) (logged : Value → Bool) → ¬ (n ≡ number) → tests_in new n logged ≡ tests_in old n logged
others-kept old new view number keeps n logged other =
    tests-kept old new n logged keeps.members (λ h. keeps.others h n (λ same. other same.1))

-- a change at one view leaves the slots of all other views
views-kept : (old new : Table) (view number : ℕ) → KeepsOthers old new view number → (h : ℕ) → ¬ (h ≡ view) → slot_at new h number ≡ slot_at old h number
views-kept old new view number keeps h other = keeps.others h number (λ same. other same.0)

-- ---- a proposal

-- what is proposed now was, or is the value in the view
proposed-now : (old new : Table) (view number : ℕ) (v : Value) → SetsProposal old new view number v → proposed_in (slot_at old view number) ≡ None → (h : ℕ) (u : Value) → IsTrue (is_value u (proposed_in (slot_at new h number))) ↔ (IsTrue (is_value u (proposed_in (slot_at old h number))) ⊎ ((h ≡ view) × (u ≡ v)))
proposed-now old new view number v sets none h u = by_view (cases_eq h view)
  where
    new_at : ℕ → Bool
    new_at k = is_value u (proposed_in (slot_at new k number))

    old_at : ℕ → Bool
    old_at k = is_value u (proposed_in (slot_at old k number))

    now : new_at view ≡ value_eq v u
    now = ap (is_value u) sets.proposed

    before : old_at view ≡ false
    before = ap (is_value u) none

    by_view : (h ≡ view) ⊎ (¬ (h ≡ view)) → IsTrue (new_at h) ↔ (IsTrue (old_at h) ⊎ ((h ≡ view) × (u ≡ v)))
    by_view (inl same) =
        subst (λ k. IsTrue (new_at k) ↔ (IsTrue (old_at k) ⊎ ((k ≡ view) × (u ≡ v)))) (sym same) (
          λ standing. inr (refl, sym (value_eq-true v u (sym now ∙ standing))),
          ⊎_elim (λ was. absurd (both_ways (old_at view) before was)) (λ is. now ∙ (value_eq-Decides v u).1 (sym is.1)),
        )
    by_view (inr other) =
        let same : new_at h ≡ old_at h = ap (λ o. is_value u (proposed_in o)) (views-kept old new view number sets.keeps h other) in
        (λ standing. inl (sym same ∙ standing), ⊎_elim (λ was. same ∙ was) (λ is. absurd (other is.0)))

-- no register changes where a value is proposed
proposal-keeps_accepted : (old new : Table) (view number : ℕ) (v : Value) → SetsProposal old new view number v → (m h : ℕ) (u : Value) → (is_value u (proposed_in (slot_at new h number)) && is_accepted (register_in (slot_at new h number) m)) ≡ (is_value u (proposed_in (slot_at old h number)) && is_accepted (register_in (slot_at old h number) m))
proposal-keeps_accepted old new view number v sets m h u =
    let accepted : Option Slot → Bool = λ o. is_value u (proposed_in o) && is_accepted (register_in o m) in
    let now : is_accepted (register_in (slot_at new view number) m) ≡ false = ap is_accepted (sets.registers m) ∙ sets.not_accepted m in
    ⊎_elim
    (λ same. subst (λ k. accepted (slot_at new k number) ≡ accepted (slot_at old k number)) (sym same)
    (and_right (is_value u (proposed_in (slot_at new view number))) _ now ∙ sym (and_right (is_value u (proposed_in (slot_at old view number))) _ (sets.not_accepted m))))
    (λ other. ap accepted (views-kept old new view number sets.keeps h other))
    (cases_eq h view)

-- nor is one closed or opened
proposal-keeps_closed : (old new : Table) (view number : ℕ) (v : Value) → SetsProposal old new view number v → (m h : ℕ) → is_closed (register_in (slot_at new h number) m) ≡ is_closed (register_in (slot_at old h number) m)
proposal-keeps_closed old new view number v sets m h =
    ⊎_elim
    (λ same. subst (λ k. is_closed (register_in (slot_at new k number) m) ≡ is_closed (register_in (slot_at old k number) m)) (sym same) (ap is_closed (sets.registers m)))
    (λ other. ap (λ o. is_closed (register_in o m)) (views-kept old new view number sets.keeps h other))
    (cases_eq h view)

-- a proposal in the table is the flat step
pub proposal-step : (old new : FlatWorld) (view number : ℕ) (v : Value) → SetsProposal old.table new.table view number v → new.log ≡ old.log → proposed_in (slot_at old.table view number) ≡ None → Safe (tests_of old number) view v → At number (λ a b. Proposes a b view v) (tests_of old) (tests_of new)
proposal-step old new view number v sets log none safe =
    let accepted = proposal-keeps_accepted old.table new.table view number v sets in
    let closed = proposal-keeps_closed old.table new.table view number v sets in
    record {
      here = record {
        free = λ u standing. both_ways (is_value u (proposed_in (slot_at old.table view number))) (ap (is_value u) none) standing;
        safe = safe;
        proposed = proposed-now old.table new.table view number v sets none;
        others = λ i. record {
          members = numbers_below (sets.keeps.members i);
          proposed = (tests_of new number).proposed;
          accepted = λ m h u. accepted m h u i;
          closed = λ m h. closed m h i;
          logged = is_logged (log i) number;
        };
      };
      others = λ n other.
          others-kept old.table new.table view number sets.keeps n (is_logged new.log n) other ∙ ap (λ l. tests_in old.table n (is_logged l n)) log;
    }

-- ---- a register is written

-- this register, or another
this_or_other : (member view m h : ℕ) → ((m ≡ member) × (h ≡ view)) ⊎ (¬ ((m ≡ member) × (h ≡ view)))
this_or_other member view m h =
    ⊎_elim
    (λ same. ⊎_elim (λ at. inl (same, at)) (λ other. inr (λ both. other both.1)) (cases_eq h view))
    (λ other. inr (λ both. other both.0))
    (cases_eq m member)

-- no proposal changes where a register is written
register-keeps_proposed : (old new : Table) (member view number : ℕ) (register : Register) → SetsRegister old new member view number register → (h : ℕ) → proposed_in (slot_at new h number) ≡ proposed_in (slot_at old h number)
register-keeps_proposed old new member view number register sets h =
    ⊎_elim
    (λ same. subst (λ k. proposed_in (slot_at new k number) ≡ proposed_in (slot_at old k number)) (sym same) sets.proposed)
    (λ other. ap proposed_in (views-kept old new view number sets.keeps h other))
    (cases_eq h view)

-- nor another register
register-keeps_others : (old new : Table) (member view number : ℕ) (register : Register) → SetsRegister old new member view number register → (m h : ℕ) → ¬ ((m ≡ member) × (h ≡ view)) → register_in (slot_at new h number) m ≡ register_in (slot_at old h number) m
register-keeps_others old new member view number register sets m h other =
    ⊎_elim
    (λ same. subst (λ k. register_in (slot_at new k number) m ≡ register_in (slot_at old k number) m) (sym same) (sets.registers m (λ this. other (this, same))))
    (λ elsewhere. ap (λ o. register_in o m) (views-kept old new view number sets.keeps h elsewhere))
    (cases_eq h view)

-- What a test says of the registers after one was written, where it says the same of the old and the
-- new register.
register-test : (old new : Table) (member view number : ℕ) (register : Register) (p : Register → Bool) → SetsRegister old new member view number register → p register ≡ p (register_in (slot_at old view number) member) → (m h : ℕ) → p (register_in (slot_at new h number) m) ≡ p (register_in (slot_at old h number) m)
register-test old new member view number register p sets same m h =
    ⊎_elim
    (λ this. subst (λ k. p (register_in (slot_at new h number) k) ≡ p (register_in (slot_at old h number) k)) (sym this.0)
    (subst (λ k. p (register_in (slot_at new k number) member) ≡ p (register_in (slot_at old k number) member)) (sym this.1) (ap p sets.here ∙ same)))
    (λ other. ap p (register-keeps_others old new member view number register sets m h other))
    (this_or_other member view m h)

-- What a test says of the registers after one was written that it passes.
register-passes : (old new : Table) (member view number : ℕ) (register : Register) (p : Register → Bool) → SetsRegister old new member view number register → IsTrue (p register) → (m h : ℕ) → IsTrue (p (register_in (slot_at new h number) m)) ↔ (IsTrue (p (register_in (slot_at old h number) m)) ⊎ ((m ≡ member) × (h ≡ view)))
register-passes old new member view number register p sets passes m h =
    ⊎_elim
    (λ this. (
      λ _. inr this,
      λ _. subst (λ k. IsTrue (p (register_in (slot_at new h number) k))) (sym this.0)
          (subst (λ k. IsTrue (p (register_in (slot_at new k number) member))) (sym this.1) (ap p sets.here ∙ passes)),
    ))
    (λ other. let same = register-keeps_others old new member view number register sets m h other in
    (λ standing. inl (sym (ap p same) ∙ standing), ⊎_elim (λ was. ap p same ∙ was) (λ this. absurd (other this))))
    (this_or_other member view m h)

-- an unwritten register, as tests
pub unwritten-from : (table : Table) (member view number : ℕ) (logged : Value → Bool) → register_in (slot_at table view number) member ≡ Unwritten → IsUnwritten (tests_in table number logged) member view
unwritten-from table member view number logged unwritten =
    record {
      not_accepted = λ v accepted. both_ways _ (ap is_accepted unwritten) (and_parts (is_value v (proposed_in (slot_at table view number))) _ accepted).1;
      not_closed = λ closed. both_ways _ (ap is_closed unwritten) closed;
    }

-- what is accepted now was, or is the value in this register
accepted-now : (old new : Table) (member view number : ℕ) (v : Value) → SetsRegister old new member view number Accepted → proposed_in (slot_at old view number) ≡ Some v → (m h : ℕ) (u : Value) → IsTrue (is_value u (proposed_in (slot_at new h number)) && is_accepted (register_in (slot_at new h number) m)) ↔ (IsTrue (is_value u (proposed_in (slot_at old h number)) && is_accepted (register_in (slot_at old h number) m)) ⊎ ((m ≡ member) × (h ≡ view) × (u ≡ v)))
accepted-now old new member view number v sets proposed m h u =
    let kept : is_value u (proposed_in (slot_at new h number)) ≡ is_value u (proposed_in (slot_at old h number)) =
    ap (is_value u) (register-keeps_proposed old new member view number Accepted sets h) in
    let passes = register-passes old new member view number Accepted is_accepted sets refl m h in
    let here : h ≡ view → is_value u (proposed_in (slot_at old h number)) ≡ value_eq v u =
    λ same. subst (λ k. is_value u (proposed_in (slot_at old k number)) ≡ value_eq v u) (sym same) (ap (is_value u) proposed) in (
      λ standing. let parts = and_parts (is_value u (proposed_in (slot_at new h number))) _ standing in
          ⊎_elim
          (λ was. inl (and_from _ _ (sym kept ∙ parts.0) was))
          (λ this. inr (this.0, this.1, sym (value_eq-true v u (sym (here this.1) ∙ (sym kept ∙ parts.0)))))
          (passes.0 parts.1),
      ⊎_elim
          (λ was. let parts = and_parts (is_value u (proposed_in (slot_at old h number))) _ was in
          and_from _ _ (kept ∙ parts.0) (passes.1 (inl parts.1)))
          (λ this. and_from _ _ (kept ∙ (here this.1 ∙ (value_eq-Decides v u).1 (sym this.2))) (passes.1 (inr (this.0, this.1)))),
    )

-- an accepted register is the flat step
pub accept-step : (old new : FlatWorld) (member view number : ℕ) (v : Value) → SetsRegister old.table new.table member view number Accepted → new.log ≡ old.log → member < old.table.members → proposed_in (slot_at old.table view number) ≡ Some v → register_in (slot_at old.table view number) member ≡ Unwritten → At number (λ a b. Accepts a b member view v) (tests_of old) (tests_of new)
accept-step old new member view number v sets log within proposed unwritten =
    let kept = register-keeps_proposed old.table new.table member view number Accepted sets in
    let closed = register-test old.table new.table member view number Accepted is_closed sets (sym (ap is_closed unwritten)) in
    record {
      here = record {
        is_member = has-numbers_below member old.table.members within;
        is_proposed = ap (is_value v) proposed ∙ value_eq-refl v;
        unwritten = unwritten-from old.table member view number (is_logged old.log number) unwritten;
        accepted = accepted-now old.table new.table member view number v sets proposed;
        others = λ i. record {
          members = numbers_below (sets.keeps.members i);
          proposed = λ h u. is_value u (kept h i);
          accepted = (tests_of new number).accepted;
          closed = λ m h. closed m h i;
          logged = is_logged (log i) number;
        };
      };
      others = λ n other.
          others-kept old.table new.table view number sets.keeps n (is_logged new.log n) other ∙ ap (λ l. tests_in old.table n (is_logged l n)) log;
    }

-- this register, as the test that a closing chooses by
is_this-iff : (member view m h : ℕ) → IsTrue (m == member && h == view) ↔ ((m ≡ member) × (h ≡ view))
is_this-iff member view m h = (
  λ passes. let parts = and_parts (m == member) (h == view) passes in (eqb-true m member parts.0, eqb-true h view parts.1),
  λ this. and_from _ _ (eq-eqb m member this.0) (eq-eqb h view this.1),
)

-- a closed register is the flat step
pub close-step : (old new : FlatWorld) (member view number : ℕ) → SetsRegister old.table new.table member view number Closed → new.log ≡ old.log → register_in (slot_at old.table view number) member ≡ Unwritten → At number (λ a b. Closes a b (λ m h. m == member && h == view)) (tests_of old) (tests_of new)
close-step old new member view number sets log unwritten =
    let kept = register-keeps_proposed old.table new.table member view number Closed sets in
    let accepted = register-test old.table new.table member view number Closed is_accepted sets (sym (ap is_accepted unwritten)) in
    record {
      here = record {
        unwritten = λ m h this.
            let place = (is_this-iff member view m h).0 this in
            subst (λ k. IsUnwritten (tests_of old number) k h) (sym place.0)
            (subst (λ k. IsUnwritten (tests_of old number) member k) (sym place.1) (unwritten-from old.table member view number (is_logged old.log number) unwritten));
        closed = λ m h.
            let passes = register-passes old.table new.table member view number Closed is_closed sets refl m h in
            let this = is_this-iff member view m h in (
              λ standing. ⊎_elim (λ was. inl was) (λ place. inr (this.1 place)) (passes.0 standing),
              ⊎_elim (λ was. passes.1 (inl was)) (λ chosen. passes.1 (inr (this.0 chosen))),
            );
        others = λ i. record {
          members = numbers_below (sets.keeps.members i);
          proposed = λ h u. is_value u (kept h i);
          accepted = λ m h u. is_value u (kept h i) && accepted m h i;
          closed = (tests_of new number).closed;
          logged = is_logged (log i) number;
        };
      };
      others = λ n other.
          others-kept old.table new.table view number sets.keeps n (is_logged new.log n) other ∙ ap (λ l. tests_in old.table n (is_logged l n)) log;
    }

-- ---- a pair is put into the log

-- a test or nothing
or_false : (b : Bool) → (b || false) ≡ b
or_false true = refl
or_false false = refl

-- a test or one that fails
or_fails : (a b : Bool) → b ≡ false → (a || b) ≡ a
or_fails a b fails = ap (λ x. a || x) fails ∙ or_false a

-- what the log has after one pair more
logged-now : (log : List Ordered) (number : ℕ) (v : Value) (n : ℕ) (u : Value) → is_logged (log ++ record { number = number; value = v } ∷ []) n u ≡ (is_logged log n u || (number == n && value_eq v u))
logged-now log number v n u =
    list_any-append (λ o. o.number == n && value_eq o.value u) log (record { number = number; value = v } ∷ []) ∙ ap (λ b. is_logged log n u || b) (or_false (number == n && value_eq v u))

-- a pair more in the log, of a value that is chosen, is the flat step
pub order-step : (world : FlatWorld) (number : ℕ) (v : Value) → IsChosen (tests_of world number) v → At number (λ a b. Orders a b v) (tests_of world) (tests_of (record world { log = world.log ++ record { number = number; value = v } ∷ [] }))
order-step world number v chosen =
    record {
      here = record {
        chosen = chosen;
        logged = λ u.
            let now = logged-now world.log number v number u in (
              λ standing. ⊎_elim (λ was. inl was) (λ this. inr (sym (value_eq-true v u (and_parts (number == number) _ this).1))) (or_cases _ _ (sym now ∙ standing)),
              ⊎_elim (λ was. now ∙ or_left _ _ was) (λ same. now ∙ or_right _ _ (and_from _ _ (eq-eqb number number refl) ((value_eq-Decides v u).1 (sym same)))),
            );
        others = refl;
      };
      others = λ n other.
          let same : (u : Value) → is_logged (world.log ++ record { number = number; value = v } ∷ []) n u ≡ is_logged world.log n u =
          λ u. logged-now world.log number v n u ∙ or_fails (is_logged world.log n u) _ (and_left (number == n) (value_eq v u) (ne_eqb number n (λ is. other (sym is)))) in
          λ i. tests_in world.table n (λ u. same u i);
    }

-- a pair that the log has already makes the step without a change
pub order-again : (world : FlatWorld) (number : ℕ) (v : Value) → IsChosen (tests_of world number) v → IsTrue (is_logged world.log number v) → At number (λ a b. Orders a b v) (tests_of world) (tests_of world)
order-again world number v chosen logged =
    record {
      here = record {
        chosen = chosen;
        logged = λ u. (λ standing. inl standing, ⊎_elim (λ was. was) (λ same. subst (λ x. IsTrue (is_logged world.log number x)) (sym same) logged));
        others = refl;
      };
      others = λ n other. refl;
    }

-- ---- majorities that accepted one value

-- a majority whose registers are accepted has accepted the value that is proposed
pub majority-accepted : (world : FlatWorld) (view number : ℕ) (v : Value) → proposed_in (slot_at world.table view number) ≡ Some v → HasMajority (numbers_below world.table.members) (λ m. is_accepted (register_in (slot_at world.table view number) m)) → HasMajority (tests_of world number).members (λ m. (tests_of world number).accepted m view v)
majority-accepted world view number v proposed most =
    majority-mono (numbers_below world.table.members) (λ m. is_accepted (register_in (slot_at world.table view number) m)) (λ m. (tests_of world number).accepted m view v)
    (λ m among accepted. and_from _ _ (ap (is_value v) proposed ∙ value_eq-refl v) accepted)
    most

-- where no majority's registers are accepted, none has accepted one value
pub majority-not_accepted : (world : FlatWorld) (view number : ℕ) → ¬ HasMajority (numbers_below world.table.members) (λ m. is_accepted (register_in (slot_at world.table view number) m)) → ¬ IsChosenIn (tests_of world number) view
majority-not_accepted world view number few chosen =
    few (majority-mono (numbers_below world.table.members) (λ m. (tests_of world number).accepted m view chosen.0) (λ m. is_accepted (register_in (slot_at world.table view number) m))
    (λ m among accepted. (and_parts (is_value chosen.0 (proposed_in (slot_at world.table view number))) _ accepted).1)
    chosen.1)

-- nor where nothing is proposed
pub majority-not_proposed : (world : FlatWorld) (view number : ℕ) → proposed_in (slot_at world.table view number) ≡ None → ¬ IsChosenIn (tests_of world number) view
majority-not_proposed world view number none chosen =
    let member = majority-found (numbers_below world.table.members) (λ m. (tests_of world number).accepted m view chosen.0) chosen.1 in
    both_ways (is_value chosen.0 (proposed_in (slot_at world.table view number))) (ap (is_value chosen.0) none) (and_parts (is_value chosen.0 (proposed_in (slot_at world.table view number))) _ member.passes).0

-- ---- what every flat world keeps

-- a step at one number, of a kind that advances, leaves a sound world
pub sound-after : (old new : FlatWorld) (number : ℕ) (Step : Tests Value → Tests Value → Type 0) → IsSound old → At number Step (tests_of old) (tests_of new) → (Step (tests_of old number) (tests_of new number) → Advances (tests_of old number) (tests_of new number)) → IsSound new
sound-after old new number Step sound step here n = (at-advances number Step (tests_of old) (tests_of new) sound step here n).well

-- a pair of the log passes the log's test
pub has-logged : (log : List Ordered) (o : Ordered) → Has o log → IsTrue (is_logged log o.number o.value)
has-logged log o among =
    any-from (λ x. x.number == o.number && value_eq x.value o.value) o log among (and_from _ _ (eq-eqb o.number o.number refl) (value_eq-refl o.value))

-- the log of a sound world has one value for each number
pub sound_one_value : (world : FlatWorld) → IsSound world → HasOneValue world.log
sound_one_value world sound a b first second same =
    one-logged (tests_of world b.number) a.value b.value (sound b.number)
    (subst (λ n. IsTrue (is_logged world.log n a.value)) same (has-logged world.log a first))
    (has-logged world.log b second)

-- a run of worlds as data is one of their tests
run-tests : (world : FlatWorld) (worlds : List FlatWorld) → IsRun Steps world worlds → IsRun FlatStep (tests_of world) (map tests_of worlds)
run-tests world [] run = tt
run-tests world (next ∷ later) run = (run.0, run-tests next later run.1)

-- the pairs of all logs of a run have one value for each number
pub run-orders_one_value : (world : FlatWorld) (worlds : List FlatWorld) → IsSound world → IsRun Steps world worlds → OrdersOneValue worlds
run-orders_one_value world worlds sound run x y in_x in_y a b first second same =
    run-one_value (tests_of world) (map tests_of worlds) sound (run-tests world worlds run) (tests_of x) (tests_of y)
    (inr (has-map tests_of x worlds in_x)) (inr (has-map tests_of y worlds in_y)) b.number a.value b.value
    (subst (λ n. IsTrue (is_logged x.log n a.value)) same (has-logged x.log a first))
    (has-logged y.log b second)

-- ---- what the calls answer

-- the value that stands is no other
pub not_taken-standing : (world : FlatWorld) (view number : ℕ) (v : Value) → proposed_in (slot_at world.table view number) ≡ Some v → ¬ IsTaken (tests_of world number) view v
not_taken-standing world view number v proposed taken =
    taken.differs (sym (value_eq-true v taken.other (sym (ap (is_value taken.other) proposed) ∙ taken.proposed)))

-- where none stands no other does
pub not_taken-none : (world : FlatWorld) (view number : ℕ) (v : Value) → proposed_in (slot_at world.table view number) ≡ None → ¬ IsTaken (tests_of world number) view v
not_taken-none world view number v none taken = both_ways _ (ap (is_value taken.other) none) taken.proposed

-- another value that stands
pub taken-from : (world : FlatWorld) (view number : ℕ) (u v : Value) → proposed_in (slot_at world.table view number) ≡ Some u → ¬ (u ≡ v) → IsTaken (tests_of world number) view v
taken-from world view number u v proposed differs =
    record {
      other = u;
      differs = differs;
      proposed = ap (is_value u) proposed ∙ value_eq-refl u;
    }

-- a value that stands is proposed
pub proposed-from : (world : FlatWorld) (view number : ℕ) (v : Value) → proposed_in (slot_at world.table view number) ≡ Some v → IsTrue ((tests_of world number).proposed view v)
proposed-from world view number v proposed = ap (is_value v) proposed ∙ value_eq-refl v

-- where none stands none is proposed
pub not_proposed-from : (world : FlatWorld) (view number : ℕ) → proposed_in (slot_at world.table view number) ≡ None → ¬ IsProposed (tests_of world number) view
not_proposed-from world view number none proposed = both_ways _ (ap (is_value proposed.0) none) proposed.1

-- where some value stands, one is
some-value : (o : Option Value) → IsSome o → (v : Value) × IsTrue (is_value v o)
some-value None some = absurd (let no : false ≡ true = some in cc)
some-value (Some v) some = (v, value_eq-refl v)

-- a register that is accepted, where a value stands, or closed is not unwritten
written-from : (world : FlatWorld) (member view number : ℕ) (register : Register) → register_in (slot_at world.table view number) member ≡ register → (IsTrue (is_accepted register) → IsSome (proposed_in (slot_at world.table view number))) → ¬ (register ≡ Unwritten) → ¬ IsUnwritten (tests_of world number) member view
written-from world member view number Unwritten is backed written unwritten = written refl
written-from world member view number Accepted is backed written unwritten =
    let value = some-value (proposed_in (slot_at world.table view number)) (backed refl) in
    unwritten.not_accepted value.0 (and_from _ _ value.1 (ap is_accepted is))
written-from world member view number Closed is backed written unwritten = unwritten.not_closed (ap is_closed is)

-- the same, of a register that was read
pub written-not_unwritten : (world : FlatWorld) (member view number : ℕ) (register : Register) → register ≡ register_in (slot_at world.table view number) member → (IsTrue (is_accepted register) → IsSome (proposed_in (slot_at world.table view number))) → ¬ (register ≡ Unwritten) → ¬ IsUnwritten (tests_of world number) member view
written-not_unwritten world member view number register same backed written = written-from world member view number register (sym same) backed written
