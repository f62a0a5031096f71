-- What is proposed in the flat worlds of a plain world is of finitely many numbers, views and values; so flat steps lead from one to a later one.
use Rattle.std.proofs.Common.{◌≡◌, ℕ, ◌+◌, ◌<◌, Bool, List, [], ◌∷◌, ◌++◌, map, sym, subst, inl, inr, arith}
use Rattle.std.specs.Prelude.{max, IsTrue}
use Rattle.st_words.specs.declared.value.Value.{Value}
use Rattle.st_words.specs.declared.value.Value.TheVariants as values
use Rattle.st_words.specs.declared.statement.Statement.{Statement}
use Rattle.st_words.specs.declared.statement.Statement.TheVariants.{Prepare, Proposal}
use Rattle.st_counts.specs.Counts.{Has, numbers_below}
use Rattle.st_counts.proofs.MemberLaws.{has-left, has-right, has-map, has-numbers_below}
use Rattle.st_registers.specs.Advances.{Advances}
use Rattle.st_registers.specs.Values.{value_eq}
use Rattle.st_registers.proofs.ValueLaws.{value_eq-true, value_eq-refl}
use Rattle.st_agreement.specs.Sites.{Sites, AreSites, leader}
use Rattle.st_agreement.specs.Statements.{prepare, proposal, is_prepare, is_proposal}
use Rattle.st_agreement.specs.Worlds.{World, stands, is_proposed, inside, outside}
use Rattle.st_agreement.proofs.GrowLaws.{leader-lt}
use Rattle.st_agreement.proofs.StatementLaws.{is_prepare-true, is_proposal-true}
use Rattle.st_agreement.proofs.VoiceLaws.{Proposed, is_proposed-found}
use Rattle.st_agreement.proofs.WorldLaws.{Maker, maker}
use Rattle.st_flat_laws.specs.Flat.{LeadsFlat}
use Rattle.st_flat_laws.proofs.FlatRunLaws.{flat-run}

-- lists of each of some numbers, one behind the other
gathered : {A : Type 0} → (ℕ → List A) → List ℕ → List A
gathered f [] = []
gathered f (k ∷ ks) = f k ++ gathered f ks

gathered-has : {A : Type 0} (f : ℕ → List A) (ks : List ℕ) (k : ℕ) (x : A) → Has k ks → Has x (f k) → Has x (gathered f ks)
unfolding gathered
gathered-has f [] k x has among = absurd has
gathered-has f (j ∷ ks) k x (inl e) among = has-left x (f j) (gathered f ks) (subst (λ z. Has x (f z)) e among)
gathered-has f (j ∷ ks) k x (inr has) among = has-right x (f j) (gathered f ks) (gathered-has f ks k x has among)

-- a number above all that a measure gives
above_all : {A : Type 0} → (A → ℕ) → List A → ℕ
above_all f [] = 0
above_all f (x ∷ xs) = max (f x + 1) (above_all f xs)

above : {A : Type 0} (f : A → ℕ) (xs : List A) (x : A) → Has x xs → f x < above_all f xs
unfolding above_all
above f [] x has = absurd has
above f (y ∷ ys) x (inl e) = subst (λ z. f z < max (f y + 1) (above_all f ys)) (sym e) (first (f y) (above_all f ys))
  where
    first : (a b : ℕ) → a < max (a + 1) b
    first a b = grind arith
above f (y ∷ ys) x (inr has) = later (f y) (above_all f ys) (above f ys x has)
  where
    later : (a b : ℕ) → f x < b → f x < max (a + 1) b
    later a b low = grind (arith, low)

-- the parts of a Prepare or Proposal
number_in : Statement → ℕ
number_in (Prepare s g l n v) = n.0
number_in (Proposal s g l n v) = n.0
number_in _ = 0

view_in : Statement → ℕ
view_in (Proposal s g l n v) = g.0
view_in _ = 0

local_in : Statement → ℕ
local_in (Prepare s g l n v) = l.0
local_in _ = 0

value_in : Statement → Value
value_in (Prepare s g l n v) = v
value_in (Proposal s g l n v) = v
value_in _ = values.Noop

module _ (d : Sites) (w : World) (sites : AreSites d) where
  -- all that the correct servers of a site have handed out, and of all sites
  said : ℕ → List Statement
  said s = gathered (w.made s) (d.correct s)

  said_all : List Statement
  said_all = gathered said (numbers_below d.sites)

  -- what stands was said
  stands-said : (s : ℕ) (test : Statement → Bool) (t : Statement) → s < d.sites → ((u : Statement) → IsTrue (test u) → u ≡ t) → IsTrue (stands d w s test) → Has t (said s)
  unfolding said
  stands-said s test t exists only standing =
      let m : Maker d w s test = maker d w s test sites exists standing in
      gathered-has (w.made s) (d.correct s) m.server t m.correct (subst (λ z. Has z (w.made s m.server)) (only m.statement m.passes) m.made)

  prepare-said : (g l n : ℕ) (v : Value) → IsTrue (stands d w (leader d g) (is_prepare (leader d g) g l n v)) → Has (prepare (leader d g) g l n v) (said (leader d g))
  prepare-said g l n v standing =
      stands-said (leader d g) (is_prepare (leader d g) g l n v) (prepare (leader d g) g l n v) (leader-lt d g sites) (λ u e. is_prepare-true (leader d g) g l n v u e) standing

  proposal-said : (n g : ℕ) (v : Value) → IsTrue (is_proposed d w n g v) → (l : ℕ) × Has (proposal (leader d g) g l n v) said_all
  unfolding said_all
  proposal-said n g v standing =
      let p : Proposed d w g n v = is_proposed-found d w n g v standing in
      let t : Statement = proposal (leader d g) g p.local n v in (
        p.local,
        gathered-has said (numbers_below d.sites) (leader d g) t (has-numbers_below (leader d g) d.sites (leader-lt d g sites))
            (stands-said (leader d g) (is_proposal (leader d g) g p.local n v) t (leader-lt d g sites) (λ u e. is_proposal-true (leader d g) g p.local n v u e) p.stand),
      )

-- Inside a leader site.
pub inside-run : (d : Sites) (old new : World) (g : ℕ) → AreSites d → ((n : ℕ) → Advances (inside d old g n) (inside d new g n)) → LeadsFlat (λ n. inside d old g n) (λ n. inside d new g n)
unfolding number_in local_in value_in
inside-run d old new g sites advances =
    let ts : List Statement = said d new sites (leader d g) in
    flat-run value_eq value_eq-true value_eq-refl (λ n. inside d old g n) (λ n. inside d new g n) advances (above_all number_in ts) (above_all local_in ts) (map value_in ts)
    (λ n l v standing. above number_in ts (prepare (leader d g) g l n v) (prepare-said d new sites g l n v standing))
    (λ n l v standing.
    let has = prepare-said d new sites g l n v standing in
    (above local_in ts (prepare (leader d g) g l n v) has, has-map value_in (prepare (leader d g) g l n v) ts has))

-- Among the sites.
pub outside-run : (d : Sites) (old new : World) → AreSites d → ((n : ℕ) → Advances (outside d old n) (outside d new n)) → LeadsFlat (λ n. outside d old n) (λ n. outside d new n)
unfolding number_in view_in value_in
outside-run d old new sites advances =
    let ts : List Statement = said_all d new sites in
    flat-run value_eq value_eq-true value_eq-refl (λ n. outside d old n) (λ n. outside d new n) advances (above_all number_in ts) (above_all view_in ts) (map value_in ts)
    (λ n g v standing. let has = proposal-said d new sites n g v standing in above number_in ts (proposal (leader d g) g has.0 n v) has.1)
    (λ n g v standing.
    let has = proposal-said d new sites n g v standing in
    (above view_in ts (proposal (leader d g) g has.0 n v) has.1, has-map value_in (proposal (leader d g) g has.0 n v) ts has.1))
