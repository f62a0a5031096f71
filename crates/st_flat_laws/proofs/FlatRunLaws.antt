-- Where a flat world advances, flat steps lead from the old one to one alike to the new one: closings first, then at each number proposals by rising view, acceptances and orders.
use Rattle.std.proofs.Common.{◌≡◌, ℕ, ◌<◌, ◌≤◌, Bool, true, false, cond, zero, suc, nat_eq, nat_lt, List, [], ◌∷◌, map, refl, sym, ◌∙◌, ap, subst, ⊎_elim, arith}
use Rattle.std.specs.Prelude.{◌&&◌, ◌||◌, not, IsTrue}
use Rattle.std.specs.List.{list_any}
use Rattle.std.proofs.lemmas.Bool.{eqb-true, eq-eqb, ltb-true, lt-ltb, both_ways, not-true, and_parts, or_cases, or_left, or_right}
use Rattle.st_counts.specs.Counts.{Has, Found}
use Rattle.st_counts.proofs.MemberLaws.{any-from, any-found}
use Rattle.st_counts.proofs.QuorumLaws.{majority-found}
use Rattle.st_registers.specs.Advances.{Advances}
use Rattle.st_registers.specs.Steps.{Closes, At, IsRun, FlatStep}
use Rattle.st_registers.specs.Steps as flat
use Rattle.st_registers.specs.Tests.{Tests, IsChosen}
use Rattle.st_flat_laws.specs.Flat.{last_in, Along, Higher, InOrder, ProposesOne, AcceptsOne, OrdersOne, ClosesSome, LeadsAt, Alike, ProposesWithin, LeadsFlat}
use Rattle.st_flat_laws.proofs.NumberLaws.{along-refl, along-one, along-trans, Mid, one-number}

neither : (n m : ℕ) → n < suc m → nat_eq n m ≡ false → nat_lt n m ≡ false → ⊥
neither n m less e f = grind (arith, less, e, f)

none-below : (n : ℕ) → nat_lt n 0 ≡ false
none-below n = by_test (nat_lt n 0) refl
  where
    by_test : (b : Bool) → nat_lt n 0 ≡ b → b ≡ false
    by_test true e = let less : n < 0 = ltb-true n 0 e in absurd (omega (arith, less))
    by_test false e = refl

-- ---- runs

-- A run of steps is one of other steps, where each step is one between what the worlds are taken to.
along-map : {A B : Type 0} (S : A → A → Type 0) (T : B → B → Type 0) (f : A → B) → ((a b : A) → S a b → T (f a) (f b)) → (a b : A) → Along S a b → Along T (f a) (f b)
along-map {A} S T f one a b along = record { worlds = map f along.worlds; run = runs a along.worlds along.run; ends = last a along.worlds ∙ ap f along.ends }
  where
    runs : (x : A) (xs : List A) → IsRun S x xs → IsRun T (f x) (map f xs)
    runs x [] run = tt
    runs x (y ∷ ys) run = (one x y run.0, runs y ys run.1)

    last : (x : A) (xs : List A) → last_in (f x) (map f xs) ≡ f (last_in x xs)
    last x [] = refl
    last x (y ∷ ys) = last y ys

module _ {V : Type 0} (same : V → V → Bool) (same-is : (u v : V) → IsTrue (same u v) → u ≡ v) (same-refl : (u : V) → IsTrue (same u u)) where
  -- ---- at all numbers

  -- the tests with all closed that new ones have, of their members
  abbrev closing : Tests V → Tests V → ℕ → ℕ → Bool
  closing old new m h = (list_any (λ k. nat_eq m k) new.members && new.closed m h) && not (old.closed m h)

  abbrev with_closed : Tests V → Tests V → Tests V
  with_closed old new = record old { closed = λ m h. old.closed m h || closing old new m h }

  member-of : (m : ℕ) (ms : List ℕ) → IsTrue (list_any (λ k. nat_eq m k) ms) → Has m ms
  member-of m ms e = let one : Found (λ k. nat_eq m k) ms = any-found (λ k. nat_eq m k) ms e in subst (λ z. Has z ms) (sym (eqb-true m one.element one.passes)) one.among

  closes-step : (old new : Tests V) → Advances old new → Closes old (with_closed old new) (closing old new)
  closes-step old new advances =
      record {
        unwritten = λ m h e.
            let apart = and_parts (list_any (λ k. nat_eq m k) new.members && new.closed m h) (not (old.closed m h)) e in
            let both = and_parts (list_any (λ k. nat_eq m k) new.members) (new.closed m h) apart.0 in
            let has : Has m new.members = member-of m new.members both.0 in
            record {
              not_accepted = λ v standing. advances.well.exclusive m h v has (advances.grows.accepted m h v (subst (λ (z : List ℕ). Has m z) advances.grows.members has) standing) both.1;
              not_closed = λ f. both_ways (old.closed m h) (not-true (old.closed m h) apart.1) f;
            };
        closed = λ m h. (λ e. or_cases (old.closed m h) (closing old new m h) e, λ x. ⊎_elim (λ a. or_left (old.closed m h) (closing old new m h) a) (λ b. or_right (old.closed m h) (closing old new m h) b) x);
        others = refl;
      }

  closed-mid : (old new : Tests V) (advances : Advances old new) → Mid new (with_closed old new)
  closed-mid old new advances =
      record {
        members = sym advances.grows.members;
        proposed = advances.grows.proposed;
        accepted = λ m g v has e. advances.grows.accepted m g v (subst (λ (z : List ℕ). Has m z) advances.grows.members has) e;
        closed = λ m g has. by_tests (list_any (λ k. nat_eq m k) new.members) (old.closed m g) (new.closed m g) (any-from (λ k. nat_eq m k) m new.members has (eq-eqb m m refl))
            (advances.grows.closed m g (subst (λ (z : List ℕ). Has m z) advances.grows.members has));
        logged = advances.grows.logged;
      }
    where
      by_tests : (a b c : Bool) → a ≡ true → (b ≡ true → c ≡ true) → (b || ((a && c) && not b)) ≡ c
      by_tests true true true e f = refl
      by_tests true true false e f = sym (f refl)
      by_tests true false true e f = refl
      by_tests true false false e f = refl
      by_tests false b c e f = absurd (let no_ : false ≡ true = e in cc)

  -- a world with other tests at one number
  abbrev with_tests : (ℕ → Tests V) → ℕ → Tests V → ℕ → Tests V
  with_tests w n t k = cond (nat_eq k n) t (w k)

  tests-here : (w : ℕ → Tests V) (n : ℕ) (t : Tests V) → with_tests w n t n ≡ t
  tests-here w n t = ap (λ b. cond b t (w n)) (eq-eqb n n refl)

  tests-there : (w : ℕ → Tests V) (n k : ℕ) (t : Tests V) → ¬ (k ≡ n) → with_tests w n t k ≡ w k
  tests-there w n k t other = by_test (nat_eq k n) refl
    where
      by_test : (b : Bool) → nat_eq k n ≡ b → cond b t (w k) ≡ w k
      by_test true e = absurd (other (eqb-true k n e))
      by_test false e = refl

  at : (w : ℕ → Tests V) (n : ℕ) (t u : Tests V) (Step : Tests V → Tests V → Type 0) → Step t u → At n Step (with_tests w n t) (with_tests w n u)
  at w n t u Step step =
      record {
        here = subst (λ x. Step x (with_tests w n u n)) (sym (tests-here w n t)) (subst (λ x. Step t x) (sym (tests-here w n u)) step);
        others = λ k other. tests-there w n k u other ∙ sym (tests-there w n k t other);
      }

  -- steps in order at one number are such steps of the world
  at-number : (w : ℕ → Tests V) (n : ℕ) (t u : Tests V) → InOrder ProposesOne AcceptsOne OrdersOne t u → LeadsAt n (with_tests w n t) (with_tests w n u)
  at-number w n t u run =
      let rising : Along (Higher ProposesOne) (0, t) (run.proposals.highest, run.proposed) = run.proposals.along in
      record {
        proposed = with_tests w n run.proposed;
        accepted = with_tests w n run.accepted;
        proposals = record {
          highest = run.proposals.highest;
          along = along-map (Higher ProposesOne) (Higher (λ view. At n (ProposesOne view))) (λ a. (a.0, with_tests w n a.1)) (λ a b step. (step.0, at w n a.1 b.1 (ProposesOne b.0) step.1))
              (0, t) (run.proposals.highest, run.proposed) rising;
        };
        acceptances = along-map AcceptsOne (At n AcceptsOne) (with_tests w n) (λ a b step. at w n a b AcceptsOne step) run.proposed run.accepted run.acceptances;
        orders = along-map OrdersOne (At n OrdersOne) (with_tests w n) (λ a b step. at w n a b OrdersOne step) run.accepted u run.orders;
      }

  module _ (old new : ℕ → Tests V) (advances : (n : ℕ) → Advances (old n) (new n)) (numbers top : ℕ) (values : List V)
      (few : (n h : ℕ) (v : V) → IsTrue ((new n).proposed h v) → n < numbers) (within : (n : ℕ) → ProposesWithin top values (new n)) where
    -- all is closed
    abbrev shut : ℕ → Tests V
    shut n = with_closed (old n) (new n)

    reached : (n : ℕ) → (x : Tests V) × (InOrder ProposesOne AcceptsOne OrdersOne (shut n) x × Alike x (new n))
    reached n = one-number same same-is same-refl (new n) (advances n).well top values (within n) (shut n) (closed-mid (old n) (new n) (advances n))

    -- numbers below one are done
    abbrev done_below : ℕ → ℕ → Tests V
    done_below k n = cond (nat_lt n k) (reached n).0 (shut n)

    -- each number in turn
    number-run : (k : ℕ) → LeadsAt k (done_below k) (done_below (suc k))
    number-run k =
        subst (λ x. LeadsAt k x (done_below (suc k))) (λ i n. before n i)
        (subst (λ x. LeadsAt k (with_tests (done_below k) k (shut k)) x) (λ i n. behind n i) (at-number (done_below k) k (shut k) (reached k).0 (reached k).1.0))
      where
        before : (n : ℕ) → with_tests (done_below k) k (shut k) n ≡ done_below k n
        before n = by_test (nat_eq n k) (nat_lt n k) refl refl
          where
            by_test : (a b : Bool) → nat_eq n k ≡ a → nat_lt n k ≡ b → cond a (shut k) (cond b (reached n).0 (shut n)) ≡ cond b (reached n).0 (shut n)
            by_test true true e f = absurd (omega (arith, eqb-true n k e, ltb-true n k f))
            by_test true false e f = ap shut (sym (eqb-true n k e))
            by_test false b e f = refl

        behind : (n : ℕ) → with_tests (done_below k) k (reached k).0 n ≡ done_below (suc k) n
        behind n = by_test (nat_eq n k) (nat_lt n k) (nat_lt n (suc k)) refl refl refl
          where
            by_test : (a b c : Bool) → nat_eq n k ≡ a → nat_lt n k ≡ b → nat_lt n (suc k) ≡ c → cond a (reached k).0 (cond b (reached n).0 (shut n)) ≡ cond c (reached n).0 (shut n)
            by_test true b true e f g = ap (λ z. (reached z).0) (sym (eqb-true n k e))
            by_test true b false e f g = absurd (both_ways (nat_lt n (suc k)) g (lt-ltb n (suc k) (let at_k : n ≡ k = eqb-true n k e in omega (arith, at_k))))
            by_test false true true e f g = refl
            by_test false false false e f g = refl
            by_test false true false e f g = absurd (both_ways (nat_lt n (suc k)) g (lt-ltb n (suc k) (let less : n < k = ltb-true n k f in omega (arith, less))))
            by_test false false true e f g = absurd (neither n k (ltb-true n (suc k) g) e f)

    -- the other numbers have no news but what was closed
    alike-shut : (n : ℕ) → ((h : ℕ) (v : V) → ¬ IsTrue ((new n).proposed h v)) → Alike (shut n) (new n)
    alike-shut n none =
        let mid = closed-mid (old n) (new n) (advances n) in
        record {
          members = mid.members;
          proposed = λ h v. (λ e. mid.proposed h v e, λ e. absurd (none h v e));
          accepted = λ m h v has. (λ e. mid.accepted m h v has e, λ e. absurd (none h v ((advances n).well.accepts m h v has e)));
          closed = mid.closed;
          logged = λ v. (
            λ e. mid.logged v e,
            λ e.
                let chosen : IsChosen (new n) v = (advances n).well.orders v e in
                let one : Found (λ m. (new n).accepted m chosen.0 v) (new n).members = majority-found (new n).members (λ m. (new n).accepted m chosen.0 v) chosen.1 in
                absurd (none chosen.0 v ((advances n).well.accepts one.element chosen.0 v one.among one.passes)),
          );
        }

    -- Flat steps in order lead from the old world to one alike to the new one at each number.
    pub flat-run : LeadsFlat old new
    flat-run =
        record {
          numbers = numbers;
          before = done_below;
          closings = subst (λ x. ClosesSome old x) (λ i n. cond (sym (none-below n) i) (reached n).0 (shut n)) (λ n. closing (old n) (new n), λ n. closes-step (old n) (new n) (advances n));
          each = λ n less. number-run n;
          alike = λ n. by_test n (nat_lt n numbers) refl;
        }
      where
        by_test : (n : ℕ) (b : Bool) → nat_lt n numbers ≡ b → Alike (cond b (reached n).0 (shut n)) (new n)
        by_test n true e = (reached n).1.1
        by_test n false e = alike-shut n (λ h v is. both_ways (nat_lt n numbers) e (lt-ltb n numbers (few n h v is)))

-- ---- steps in order are flat steps

module _ {V : Type 0} where
  -- at one number
  number-steps : (n : ℕ) (old new : ℕ → Tests V) → LeadsAt n old new → Along FlatStep old new
  number-steps n old new run =
      along-trans FlatStep old run.proposed new
      (along-map (Higher (λ view. At n (ProposesOne view))) FlatStep (λ a. a.1) (λ a b step. flat.proposes n b.0 step.1.here.0 (record { here = step.1.here.1; others = step.1.others }))
      (0, old) (run.proposals.highest, run.proposed) run.proposals.along)
      (along-trans FlatStep run.proposed run.accepted new
      (along-map (At n AcceptsOne) FlatStep (λ a. a) (λ a b step. flat.accepts n step.here.0 step.here.1 step.here.2.0 (record { here = step.here.2.1; others = step.others })) run.proposed run.accepted run.acceptances)
      (along-map (At n OrdersOne) FlatStep (λ a. a) (λ a b step. flat.orders n step.here.0 (record { here = step.here.1; others = step.others })) run.accepted new run.orders))

  -- Closings, and each number in turn.
  pub flat-steps : (old new : ℕ → Tests V) → (leads : LeadsFlat old new) → Along FlatStep old (leads.before leads.numbers)
  flat-steps old new leads =
      along-trans FlatStep old (leads.before 0) (leads.before leads.numbers) (along-one FlatStep old (leads.before 0) (flat.closes leads.closings.0 leads.closings.1)) (up-to leads.numbers (omega arith))
    where
      up-to : (k : ℕ) → k ≤ leads.numbers → Along FlatStep (leads.before 0) (leads.before k)
      up-to zero low = along-refl FlatStep (leads.before 0)
      up-to (suc k) low =
          along-trans FlatStep (leads.before 0) (leads.before k) (leads.before (suc k)) (up-to k (omega (arith, low))) (number-steps k (leads.before k) (leads.before (suc k)) (leads.each k (omega (arith, low))))
