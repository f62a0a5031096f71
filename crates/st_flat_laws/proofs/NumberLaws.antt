-- At one number: from tests in which all is closed that will be, flat steps lead to tests alike to the new ones, first proposals by rising view, then acceptances, then orders.
use Rattle.std.proofs.Common.{◌≡◌, ℕ, ◌<◌, ◌≤◌, ◌⊎◌, Bool, true, false, zero, suc, nat_eq, List, [], ◌∷◌, ◌++◌, refl, sym, ◌∙◌, ap, subst, inl, inr, ⊎_elim, arith}
use Rattle.std.specs.Prelude.{◌↔◌, ◌&&◌, ◌||◌, IsTrue}
use Rattle.std.proofs.lemmas.Bool.{eqb-true, eq-eqb, both_ways, and_parts, and_from, or_cases, or_left, or_right}
use Rattle.st_counts.specs.Counts.{Has, Found, numbers_below}
use Rattle.st_counts.proofs.MemberLaws.{has-numbers_below}
use Rattle.st_counts.proofs.QuorumLaws.{majority-found}
use Rattle.st_registers.specs.Advances.{IsWell}
use Rattle.st_registers.specs.Steps.{Proposes, Accepts, Orders, IsRun}
use Rattle.st_registers.specs.Tests.{Tests, IsChosen}
use Rattle.st_registers.proofs.AdvancesLaws.{majority-kept}
use Rattle.st_flat_laws.specs.Flat.{last_in, Along, Higher, InOrder, ProposesOne, AcceptsOne, OrdersOne, Alike, ProposesWithin}

-- ---- runs

module _ {W : Type 0} (Step : W → W → Type 0) where
  -- no step
  pub along-refl : (w : W) → Along Step w w
  along-refl w = record { worlds = []; run = tt; ends = refl }

  -- one
  pub along-one : (a b : W) → Step a b → Along Step a b
  along-one a b step = record { worlds = b ∷ []; run = (step, tt); ends = refl }

  -- two runs, one behind the other
  pub along-trans : (a b c : W) → Along Step a b → Along Step b c → Along Step a c
  along-trans a b c one two =
      let joint = both a one.worlds two.worlds one.run (subst (λ x. IsRun Step x two.worlds) (sym one.ends) two.run) in
      record { worlds = one.worlds ++ two.worlds; run = joint.0; ends = joint.1 ∙ ap (λ x. last_in x two.worlds) one.ends ∙ two.ends }
    where
      both : (w : W) (xs ys : List W) → IsRun Step w xs → IsRun Step (last_in w xs) ys → IsRun Step w (xs ++ ys) × (last_in w (xs ++ ys) ≡ last_in (last_in w xs) ys)
      both w [] ys run more = (more, refl)
      both w (x ∷ xs) ys run more = let rest = both x xs ys run.1 more in ((run.0, rest.0), rest.1)

-- ---- at one number

-- on the way to the new tests, all closed that will be
pub record Mid {V : Type 0} (new t : Tests V) : Type 0 where
  pub members : t.members ≡ new.members
  pub proposed : (g : ℕ) (v : V) → IsTrue (t.proposed g v) → IsTrue (new.proposed g v)
  pub accepted : (m g : ℕ) (v : V) → Has m new.members → IsTrue (t.accepted m g v) → IsTrue (new.accepted m g v)
  pub closed : (m g : ℕ) → Has m new.members → t.closed m g ≡ new.closed m g
  pub logged : (v : V) → IsTrue (t.logged v) → IsTrue (new.logged v)

module _ {V : Type 0} (same : V → V → Bool) (same-is : (u v : V) → IsTrue (same u v) → u ≡ v) (same-refl : (u : V) → IsTrue (same u u)) where
  -- one more of each
  abbrev with_proposal : ℕ → V → Tests V → Tests V
  with_proposal h v t = record t { proposed = λ g u. t.proposed g u || (nat_eq g h && same u v) }

  abbrev with_accept : ℕ → ℕ → V → Tests V → Tests V
  with_accept m h v t = record t { accepted = λ k g u. t.accepted k g u || (nat_eq k m && (nat_eq g h && same u v)) }

  abbrev with_order : V → Tests V → Tests V
  with_order v t = record t { logged = λ u. t.logged u || same u v }

  is-same : (u v : V) → u ≡ v → IsTrue (same u v)
  is-same u v e = subst (λ z. IsTrue (same u z)) e (same-refl u)

  proposed-by : (t : Tests V) (h : ℕ) (v : V) (g : ℕ) (u : V) → IsTrue (t.proposed g u || (nat_eq g h && same u v)) ↔ (IsTrue (t.proposed g u) ⊎ ((g ≡ h) × (u ≡ v)))
  proposed-by t h v g u = (
    λ e. ⊎_elim (λ a. inl a) (λ b. let both = and_parts (nat_eq g h) (same u v) b in inr (eqb-true g h both.0, same-is u v both.1)) (or_cases (t.proposed g u) (nat_eq g h && same u v) e),
    λ x. ⊎_elim (λ a. or_left (t.proposed g u) (nat_eq g h && same u v) a) (λ p. or_right (t.proposed g u) (nat_eq g h && same u v) (and_from (nat_eq g h) (same u v) (eq-eqb g h p.0) (is-same u v p.1))) x,
  )

  accepted-by : (t : Tests V) (m h : ℕ) (v : V) (k g : ℕ) (u : V) → IsTrue (t.accepted k g u || (nat_eq k m && (nat_eq g h && same u v))) ↔ (IsTrue (t.accepted k g u) ⊎ ((k ≡ m) × (g ≡ h) × (u ≡ v)))
  accepted-by t m h v k g u =
      let c : Bool = nat_eq g h && same u v in (
        λ e. ⊎_elim (λ a. inl a)
            (λ b. let member = and_parts (nat_eq k m) c b in let rest = and_parts (nat_eq g h) (same u v) member.1 in inr (eqb-true k m member.0, eqb-true g h rest.0, same-is u v rest.1))
            (or_cases (t.accepted k g u) (nat_eq k m && c) e),
        λ x. ⊎_elim (λ a. or_left (t.accepted k g u) (nat_eq k m && c) a)
            (λ p. or_right (t.accepted k g u) (nat_eq k m && c) (and_from (nat_eq k m) c (eq-eqb k m p.0) (and_from (nat_eq g h) (same u v) (eq-eqb g h p.1) (is-same u v p.2)))) x,
      )

  logged-by : (t : Tests V) (v u : V) → IsTrue (t.logged u || same u v) ↔ (IsTrue (t.logged u) ⊎ (u ≡ v))
  logged-by t v u = (
    λ e. ⊎_elim (λ a. inl a) (λ b. inr (same-is u v b)) (or_cases (t.logged u) (same u v) e),
    λ x. ⊎_elim (λ a. or_left (t.logged u) (same u v) a) (λ p. or_right (t.logged u) (same u v) (is-same u v p)) x,
  )

  -- nothing is lost
  record More (t u : Tests V) : Type 0 where
    pub proposed : (g : ℕ) (v : V) → IsTrue (t.proposed g v) → IsTrue (u.proposed g v)
    pub accepted : (m g : ℕ) (v : V) → IsTrue (t.accepted m g v) → IsTrue (u.accepted m g v)
    pub logged : (v : V) → IsTrue (t.logged v) → IsTrue (u.logged v)

  more-refl : (t : Tests V) → More t t
  more-refl t = record { proposed = λ g v e. e; accepted = λ m g v e. e; logged = λ v e. e }

  more-trans : (a b c : Tests V) → More a b → More b c → More a c
  more-trans a b c x y = record { proposed = λ g v e. y.proposed g v (x.proposed g v e); accepted = λ m g v e. y.accepted m g v (x.accepted m g v e); logged = λ v e. y.logged v (x.logged v e) }

  -- ---- steps between worlds that hold tests, of which none is lost

  module _ {W : Type 0} (Step : W → W → Type 0) (tests : W → Tests V) where
    -- steps lead on to what has a property
    record Next (Inv Done : W → Type 0) (w : W) : Type 0 where
      pub to : W
      pub along : Along Step w to
      pub inv : Inv to
      pub done : Done to
      pub more : More (tests w) (tests to)

    stay : (Inv Done : W → Type 0) (w : W) → Inv w → Done w → Next Inv Done w
    stay Inv Done w inv done = record { to = w; along = along-refl Step w; inv = inv; done = done; more = more-refl (tests w) }

    -- each of a list
    each : {X : Type 0} (Inv : W → Type 0) (Done : X → Tests V → Type 0) → ((x : X) (t u : Tests V) → More t u → Done x t → Done x u) → (xs : List X) →
        ((x : X) → Has x xs → (w : W) → Inv w → Next Inv (λ a. Done x (tests a)) w) → (w : W) → Inv w → Next Inv (λ a. (x : X) → Has x xs → Done x (tests a)) w
    each Inv Done keep [] one w inv = stay Inv _ w inv (λ x has. absurd has)
    each {X} Inv Done keep (x ∷ xs) one w inv =
        let a : Next Inv (λ c. Done x (tests c)) w = one x (inl refl) w inv in
        let b : Next Inv (λ c. (y : X) → Has y xs → Done y (tests c)) a.to = each Inv Done keep xs (λ y has. one y (inr has)) a.to a.inv in
        record {
          to = b.to;
          along = along-trans Step w a.to b.to a.along b.along;
          inv = b.inv;
          done = pick (tests b.to) (keep x (tests a.to) (tests b.to) b.more a.done) b.done;
          more = more-trans (tests w) (tests a.to) (tests b.to) a.more b.more;
        }
      where
        pick : (u : Tests V) → Done x u → ((y : X) → Has y xs → Done y u) → (y : X) → Has y (x ∷ xs) → Done y u
        pick u first rest y (inl e) = subst (λ z. Done z u) (sym e) first
        pick u first rest y (inr among) = rest y among

  module _ (new : Tests V) (well : IsWell new) (top : ℕ) (values : List V) (within : ProposesWithin top values new) where
    -- ---- proposals

    -- below a view all is proposed
    abbrev Below : ℕ → Tests V → Type 0
    Below h t = (g : ℕ) (u : V) → g < h → IsTrue (new.proposed g u) → IsTrue (t.proposed g u)

    -- tests on the way, with the view of the last proposal
    abbrev Above : Type 0
    Above = ℕ × Tests V

    abbrev Proposing : ℕ → Above → Type 0
    Proposing h w = Mid new w.1 × Below h w.1 × (w.0 ≤ h)

    abbrev Proposed : ℕ → V → Tests V → Type 0
    Proposed h v t = IsTrue (new.proposed h v) → IsTrue (t.proposed h v)

    -- steps by rising view lead on
    abbrev Rises : (Above → Type 0) → (Above → Type 0) → Above → Type 0
    Rises Inv Done w = Next (Higher ProposesOne) (λ a. a.1) Inv Done w

    propose-step : (h : ℕ) (v : V) (t : Tests V) → Mid new t → Below h t → IsTrue (new.proposed h v) → t.proposed h v ≡ false → Proposes t (with_proposal h v t) h v
    propose-step h v t mid below is not_yet =
        record {
          free = λ u standing. both_ways (t.proposed h v) not_yet (subst (λ z. IsTrue (t.proposed h z)) (well.one_proposed h u v (mid.proposed h u standing) is) standing);
          safe = λ lower less.
              ⊎_elim (λ a. inl (below lower v less a))
              (λ b. inr (majority-kept new.members t.members (λ m. new.closed m lower) (λ m. t.closed m lower) mid.members (λ m has e. mid.closed m lower has ∙ e) b)) (well.safe h v is lower less);
          proposed = λ g u. proposed-by t h v g u;
          others = refl;
        }

    propose-one : (h : ℕ) (v : V) (w : Above) → Proposing h w → Rises (Proposing h) (λ a. Proposed h v a.1) w
    propose-one h v w inv = by_tests (new.proposed h v) (w.1.proposed h v) refl refl
      where
        moved : IsTrue (new.proposed h v) → w.1.proposed h v ≡ false → Rises (Proposing h) (λ a. Proposed h v a.1) w
        moved is not_yet =
            record {
              to = (h, with_proposal h v w.1);
              along = along-one (Higher ProposesOne) w (h, with_proposal h v w.1) (inv.2, (v, propose-step h v w.1 inv.0 inv.1 is not_yet));
              inv = (
                record {
                  members = inv.0.members;
                  proposed = λ g u e. ⊎_elim (λ a. inv.0.proposed g u a) (λ p. subst (λ z. IsTrue (new.proposed z u)) (sym p.0) (subst (λ z. IsTrue (new.proposed h z)) (sym p.1) is)) ((proposed-by w.1 h v g u).0 e);
                  accepted = inv.0.accepted;
                  closed = inv.0.closed;
                  logged = inv.0.logged;
                },
                λ g u less e. (proposed-by w.1 h v g u).1 (inl (inv.1 g u less e)),
                omega arith,
              );
              done = λ e. (proposed-by w.1 h v h v).1 (inr (refl, refl));
              more = record { proposed = λ g u e. (proposed-by w.1 h v g u).1 (inl e); accepted = λ m g u e. e; logged = λ u e. e };
            }

        by_tests : (a b : Bool) → new.proposed h v ≡ a → w.1.proposed h v ≡ b → Rises (Proposing h) (λ a. Proposed h v a.1) w
        by_tests true true e f = stay (Higher ProposesOne) (λ a. a.1) (Proposing h) (λ a. Proposed h v a.1) w inv (λ x. f)
        by_tests true false e f = moved e f
        by_tests false b e f = stay (Higher ProposesOne) (λ a. a.1) (Proposing h) (λ a. Proposed h v a.1) w inv (λ x. absurd (both_ways (new.proposed h v) e x))

    proposals : (h : ℕ) (t : Tests V) → Mid new t → Rises (λ w. Mid new w.1 × (w.0 ≤ h)) (λ w. Below h w.1) (0, t)
    proposals zero t mid = stay (Higher ProposesOne) (λ a. a.1) (λ w. Mid new w.1 × (w.0 ≤ zero)) (λ w. Below zero w.1) (0, t) (mid, omega arith) (λ g u less e. absurd (omega (arith, less)))
    proposals (suc h) t mid =
        let a : Rises (λ w. Mid new w.1 × (w.0 ≤ h)) (λ w. Below h w.1) (0, t) = proposals h t mid in
        let b : Rises (Proposing h) (λ w. (v : V) → Has v values → Proposed h v w.1) a.to =
        each (Higher ProposesOne) (λ w. w.1) (Proposing h) (Proposed h) (λ v x y more e is. more.proposed h v (e is)) values (λ v has x inv. propose-one h v x inv) a.to (a.inv.0, a.done, a.inv.1) in
        record {
          to = b.to;
          along = along-trans (Higher ProposesOne) (0, t) a.to b.to a.along b.along;
          inv = (b.inv.0, omega (arith, b.inv.2));
          done = by_place b.to.1 b.inv.1 b.done;
          more = more-trans t a.to.1 b.to.1 a.more b.more;
        }
      where
        place : (g : ℕ) → g < suc h → (g ≡ h) ⊎ (g < h)
        place g less = grind (arith, less)

        by_place : (x : Tests V) → Below h x → ((v : V) → Has v values → Proposed h v x) → Below (suc h) x
        by_place x below here g u less e = ⊎_elim (λ at. subst (λ z. IsTrue (x.proposed z u)) (sym at) (here u (within g u e).1 (subst (λ z. IsTrue (new.proposed z u)) at e))) (λ under. below g u under e) (place g less)

    -- ---- acceptances

    abbrev Full : Tests V → Type 0
    Full t = (g : ℕ) (u : V) → IsTrue (new.proposed g u) → IsTrue (t.proposed g u)

    abbrev Accepting : Tests V → Type 0
    Accepting t = Mid new t × Full t

    abbrev Accepted : ℕ → ℕ → V → Tests V → Type 0
    Accepted m h v t = IsTrue (new.accepted m h v) → IsTrue (t.accepted m h v)

    accept-step : (m h : ℕ) (v : V) (t : Tests V) → Has m new.members → Accepting t → IsTrue (new.accepted m h v) → t.accepted m h v ≡ false → Accepts t (with_accept m h v t) m h v
    accept-step m h v t has inv is not_yet =
        record {
          is_member = subst (λ (z : List ℕ). Has m z) (sym inv.0.members) has;
          is_proposed = inv.1 h v (well.accepts m h v has is);
          unwritten = record {
            not_accepted = λ u standing. both_ways (t.accepted m h v) not_yet
                (subst (λ z. IsTrue (t.accepted m h z)) (well.one_proposed h u v (well.accepts m h u has (inv.0.accepted m h u has standing)) (well.accepts m h v has is)) standing);
            not_closed = λ e. well.exclusive m h v has is (sym (inv.0.closed m h has) ∙ e);
          };
          accepted = λ k g u. accepted-by t m h v k g u;
          others = refl;
        }

    accept-one : (m h : ℕ) (v : V) (t : Tests V) → Has m new.members → Accepting t → Next AcceptsOne (λ a. a) Accepting (Accepted m h v) t
    accept-one m h v t has inv = by_tests (new.accepted m h v) (t.accepted m h v) refl refl
      where
        moved : IsTrue (new.accepted m h v) → t.accepted m h v ≡ false → Next AcceptsOne (λ a. a) Accepting (Accepted m h v) t
        moved is not_yet =
            record {
              to = with_accept m h v t;
              along = along-one AcceptsOne t (with_accept m h v t) (m, h, (v, accept-step m h v t has inv is not_yet));
              inv = (
                record {
                  members = inv.0.members;
                  proposed = inv.0.proposed;
                  accepted = λ k g u among e. ⊎_elim (λ a. inv.0.accepted k g u among a)
                      (λ p. subst (λ z. IsTrue (new.accepted z g u)) (sym p.0) (subst (λ z. IsTrue (new.accepted m z u)) (sym p.1) (subst (λ z. IsTrue (new.accepted m h z)) (sym p.2) is))) ((accepted-by t m h v k g u).0 e);
                  closed = inv.0.closed;
                  logged = inv.0.logged;
                },
                inv.1,
              );
              done = λ e. (accepted-by t m h v m h v).1 (inr (refl, refl, refl));
              more = record { proposed = λ g u e. e; accepted = λ k g u e. (accepted-by t m h v k g u).1 (inl e); logged = λ u e. e };
            }

        by_tests : (a b : Bool) → new.accepted m h v ≡ a → t.accepted m h v ≡ b → Next AcceptsOne (λ a. a) Accepting (Accepted m h v) t
        by_tests true true e f = stay AcceptsOne (λ a. a) Accepting (Accepted m h v) t inv (λ x. f)
        by_tests true false e f = moved e f
        by_tests false b e f = stay AcceptsOne (λ a. a) Accepting (Accepted m h v) t inv (λ x. absurd (both_ways (new.accepted m h v) e x))

    acceptances : (t : Tests V) → Accepting t → Next AcceptsOne (λ a. a) Accepting (λ x. (m : ℕ) → Has m new.members → (h : ℕ) → Has h (numbers_below top) → (v : V) → Has v values → Accepted m h v x) t
    acceptances t inv =
        each AcceptsOne (λ a. a) Accepting (λ m x. (h : ℕ) → Has h (numbers_below top) → (v : V) → Has v values → Accepted m h v x) (λ m x y more e h in_h v in_v is. more.accepted m h v (e h in_h v in_v is)) new.members
        (λ m has x i.
        each AcceptsOne (λ a. a) Accepting (λ h y. (v : V) → Has v values → Accepted m h v y) (λ h y z more e v in_v is. more.accepted m h v (e v in_v is)) (numbers_below top)
        (λ h in_h y j. each AcceptsOne (λ a. a) Accepting (λ v z. Accepted m h v z) (λ v z w more e is. more.accepted m h v (e is)) values (λ v in_v z l. accept-one m h v z has l) y j) x i) t inv

    -- ---- orders

    abbrev Written : Tests V → Type 0
    Written t = Accepting t × ((m h : ℕ) (v : V) → Has m new.members → Accepted m h v t)

    abbrev Logged : V → Tests V → Type 0
    Logged v t = IsTrue (new.logged v) → IsTrue (t.logged v)

    order-one : (v : V) (t : Tests V) → Written t → Next OrdersOne (λ a. a) Written (Logged v) t
    order-one v t inv = by_tests (new.logged v) (t.logged v) refl refl
      where
        moved : IsTrue (new.logged v) → Next OrdersOne (λ a. a) Written (Logged v) t
        moved is =
            let chosen : IsChosen new v = well.orders v is in
            let step : Orders t (with_order v t) v =
            record {
              chosen = (chosen.0, majority-kept new.members t.members (λ m. new.accepted m chosen.0 v) (λ m. t.accepted m chosen.0 v) inv.0.0.members (λ m has e. inv.1 m chosen.0 v has e) chosen.1);
              logged = λ u. logged-by t v u;
              others = refl;
            } in
            record {
              to = with_order v t;
              along = along-one OrdersOne t (with_order v t) (v, step);
              inv = (
                (
                  record {
                    members = inv.0.0.members;
                    proposed = inv.0.0.proposed;
                    accepted = inv.0.0.accepted;
                    closed = inv.0.0.closed;
                    logged = λ u e. ⊎_elim (λ a. inv.0.0.logged u a) (λ p. subst (λ z. IsTrue (new.logged z)) (sym p) is) ((logged-by t v u).0 e);
                  },
                  inv.0.1,
                ),
                inv.1,
              );
              done = λ e. (logged-by t v v).1 (inr refl);
              more = record { proposed = λ g u e. e; accepted = λ k g u e. e; logged = λ u e. (logged-by t v u).1 (inl e) };
            }

        by_tests : (a b : Bool) → new.logged v ≡ a → t.logged v ≡ b → Next OrdersOne (λ a. a) Written (Logged v) t
        by_tests true true e f = stay OrdersOne (λ a. a) Written (Logged v) t inv (λ x. f)
        by_tests true false e f = moved e
        by_tests false b e f = stay OrdersOne (λ a. a) Written (Logged v) t inv (λ x. absurd (both_ways (new.logged v) e x))

    -- ---- all of them

    -- a logged value is one of those that were proposed
    logged-within : (v : V) → IsTrue (new.logged v) → Has v values
    logged-within v is =
        let chosen : IsChosen new v = well.orders v is in
        let one : Found (λ m. new.accepted m chosen.0 v) new.members = majority-found new.members (λ m. new.accepted m chosen.0 v) chosen.1 in
        (within chosen.0 v (well.accepts one.element chosen.0 v one.among one.passes)).1

    -- From tests on the way steps lead to tests alike to the new ones.
    pub one-number : (t : Tests V) → Mid new t → (x : Tests V) × (InOrder ProposesOne AcceptsOne OrdersOne t x × Alike x new)
    one-number t mid =
        let a : Rises (λ w. Mid new w.1 × (w.0 ≤ top)) (λ w. Below top w.1) (0, t) = proposals top t mid in
        let b = acceptances a.to.1 (a.inv.0, λ g u e. a.done g u (within g u e).0 e) in
        let c = each OrdersOne (λ a. a) Written Logged (λ v x y more e is. more.logged v (e is)) values (λ v has x inv. order-one v x inv) b.to
        (b.inv, λ m h v has e. let at = within h v (well.accepts m h v has e) in b.done m has h (has-numbers_below h top at.0) v at.1 e) in (
          c.to,
          (
            record { proposed = a.to.1; accepted = b.to; proposals = record { highest = a.to.0; along = a.along }; acceptances = b.along; orders = c.along },
            record {
              members = c.inv.0.0.members;
              proposed = λ g v. (λ e. c.inv.0.0.proposed g v e, λ e. c.inv.0.1 g v e);
              accepted = λ m g v has. (λ e. c.inv.0.0.accepted m g v has e, λ e. c.inv.1 m g v has e);
              closed = c.inv.0.0.closed;
              logged = λ v. (λ e. c.inv.0.0.logged v e, λ e. c.done v (logged-within v e) e);
            },
          ),
        )
