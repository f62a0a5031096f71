-- What a server executed stays executed: its log at a world is a front of its log at each later one.
use Rattle.std.proofs.Common.{◌≡◌, ◌∙◌, ap, sym, subst, ℕ, inl, inr, List, [], ◌∷◌, ◌++◌, append-nil, refl}
use Rattle.std.proofs.lemmas.List.{append_assoc}
use Rattle.std.proofs.lemmas.List.Concat.{flat_map-append}
use Rattle.std.proofs.lemmas.List.Sums.{fold-append}
use Rattle.st_words.specs.declared.value.Value.{Value}
use Rattle.st_message.specs.declared.change.Change.{Change}
use Rattle.st_schedule.specs.declared.line.Line.{Line}
use Rattle.st_protocol.specs.Keeping.{joined}
use Rattle.st_protocol.specs.Questions.{values_by, executed_in, executed_values}
use Rattle.st_protocol.specs.World.{Deployment, World}
use Rattle.st_protocol.specs.Schedule.{goes_on, steps}
use Rattle.st_protocol.proofs.GatherLaws.{joined-push}
use Rattle.st_frame_laws.proofs.NodeFrame.{nodes_kept, pushes_kept}
use Rattle.st_log_laws.specs.Fronts.{IsFront, Agree}

-- ---- fronts

pub front_refl : {A : Type 0} (xs : List A) → IsFront xs xs
front_refl xs = ([], sym (append-nil xs))

front_more : {A : Type 0} (xs ys more : List A) → IsFront xs ys → IsFront xs (ys ++ more)
front_more {A} xs ys more f = (f.0 ++ more, ap (λ (zs : List A). zs ++ more) f.1 ∙ append_assoc xs f.0 more)

-- two fronts of one list
both_fronts : {A : Type 0} (xs ys m n : List A) → xs ++ m ≡ ys ++ n → Agree xs ys
both_fronts [] ys m n e = inl (ys, refl)
both_fronts (x ∷ xs) [] m n e = inr (x ∷ xs, refl)
both_fronts {A} (x ∷ xs) (y ∷ ys) m n e = by (head x y (xs ++ m) (ys ++ n) e) (both_fronts xs ys m n (tail x y (xs ++ m) (ys ++ n) e))
  where
    head : (a b : A) (us vs : List A) → a ∷ us ≡ b ∷ vs → a ≡ b
    head a b us vs f = cc

    tail : (a b : A) (us vs : List A) → a ∷ us ≡ b ∷ vs → us ≡ vs
    tail a b us vs f = cc

    by : x ≡ y → Agree xs ys → Agree (x ∷ xs) (y ∷ ys)
    by h (inl f) = inl (f.0, λ i. sym h i ∷ f.1 i)
    by h (inr f) = inr (f.0, λ i. h i ∷ f.1 i)

-- A front of what agrees agrees.
pub front_agrees : {A : Type 0} (xs ys zs : List A) → IsFront xs ys → Agree ys zs → Agree xs zs
front_agrees {A} xs ys zs f (inl g) = inl (f.0 ++ g.0, g.1 ∙ (ap (λ (us : List A). us ++ g.0) f.1 ∙ append_assoc xs f.0 g.0))
front_agrees xs ys zs f (inr g) = both_fronts xs zs f.0 g.0 (sym f.1 ∙ g.1)

-- ---- one server

-- with one body more
pushed : (bodies : List (List Change)) (body : List Change) → executed_values (bodies ++ body ∷ []) ≡ executed_values bodies ++ executed_in body
unfolding executed_values executed_in
pushed bodies body = ap (λ (xs : List Change). executed_in xs) (joined-push bodies body) ∙ flat_map-append values_by (joined bodies) body

module _ {Wire : Type 0} (d : Deployment Wire) where
  -- What was executed by a world stays executed at each later one.
  pub stays_executed : (world : World Wire) (more : List Line) (s i : ℕ) → IsFront (executed_values (world.nodes s i).bodies) (executed_values ((steps d world more).nodes s i).bodies)
  stays_executed world more = nodes_kept d (λ s i node. Has s i node.bodies) (pushes_kept d Has push_has) world more (λ s i. front_refl (executed_values (world.nodes s i).bodies))
    where
      -- a server has executed this by now
      Has : ℕ → ℕ → List (List Change) → Type 0
      Has s i bodies = IsFront (executed_values (world.nodes s i).bodies) (executed_values bodies)

      push_has : (s i : ℕ) (bodies : List (List Change)) (body : List Change) → Has s i bodies → Has s i (bodies ++ body ∷ [])
      push_has s i bodies body h =
          subst (λ (ys : List Value). IsFront (executed_values (world.nodes s i).bodies) ys) (sym (pushed bodies body))
          (front_more (executed_values (world.nodes s i).bodies) (executed_values bodies) (executed_in body) h)

  -- The world of lines and more of them.
  pub steps_on : (world : World Wire) (all more : List Line) → steps d world (all ++ more) ≡ steps d (steps d world all) more
  steps_on world all more = fold-append (goes_on d) world all more
