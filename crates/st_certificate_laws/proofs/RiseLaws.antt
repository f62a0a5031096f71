-- The greatest views that a server entered: records are only added, so they never fall.
use Rattle.std.proofs.Common.{◌≡◌, sym, subst, ℕ, ◌≤◌, List, [], ◌∷◌, ◌++◌, refl, arith}
use Rattle.std.specs.Prelude.{max}
use Rattle.st_message.specs.declared.change.Change.{Change}
use Rattle.st_message.specs.declared.change.Heard.{Heard}
use Rattle.st_schedule.specs.declared.line.Line.{Line}
use Rattle.st_protocol.specs.Keeping.{gathered, joined, most_of}
use Rattle.st_protocol.specs.State.{Seat}
use Rattle.st_protocol.specs.Questions.{view_entered, local_entered, here_of, questions}
use Rattle.st_protocol.specs.World.{Deployment, World, empty, seat_of}
use Rattle.st_protocol.specs.Schedule.{steps}
use Rattle.st_protocol.proofs.GatherLaws.{joined-push}
use Rattle.st_frame_laws.proofs.NodeFrame.{nodes_kept, pushes_kept}
use Rattle.st_log_laws.proofs.GrowLaws.{steps_on}
use Rattle.st_certificate_laws.specs.Views.{view_at, local_at}

-- more of a list has no lower greatest
most_more : (pick : Change → ℕ) (xs ys : List Change) → most_of pick xs ≤ most_of pick (xs ++ ys)
unfolding gathered
most_more pick [] ys = omega arith
most_more pick (x ∷ xs) ys = let more = most_more pick xs ys in by (pick x) (most_of pick xs) (most_of pick (xs ++ ys)) more
  where
    by : (a b c : ℕ) → b ≤ c → max a b ≤ max a c
    by a b c e = omega (arith, e)

-- with one body more
most_pushed : (pick : Change → ℕ) (bodies : List (List Change)) (body : List Change) → most_of pick (joined bodies) ≤ most_of pick (joined (bodies ++ body ∷ []))
most_pushed pick bodies body = subst (λ (xs : List Change). most_of pick (joined bodies) ≤ most_of pick xs) (sym (joined-push bodies body)) (most_more pick (joined bodies) body)

module _ {Wire : Type 0} (d : Deployment Wire) where
  -- What was the greatest at a world is no more than that at each later one.
  stays : (pick : Change → ℕ) (all more : List Line) (s i : ℕ) →
      most_of pick (joined ((steps d empty all).nodes s i).bodies) ≤ most_of pick (joined ((steps d empty (all ++ more)).nodes s i).bodies)
  stays pick all more s i =
      subst (λ (late : World Wire). Has s i (late.nodes s i).bodies) (sym (steps_on d empty all more))
      (nodes_kept d (λ s i node. Has s i node.bodies) (pushes_kept d Has push_has) (steps d empty all) more (λ s i. omega arith) s i)
    where
      -- a server's greatest is no less by now
      Has : ℕ → ℕ → List (List Change) → Type 0
      Has s i bodies = most_of pick (joined ((steps d empty all).nodes s i).bodies) ≤ most_of pick (joined bodies)

      push_has : (s i : ℕ) (bodies : List (List Change)) (body : List Change) → Has s i bodies → Has s i (bodies ++ body ∷ [])
      push_has s i bodies body h = let more = most_pushed pick bodies body in omega (arith, h, more)

  -- ---- the answers

  -- a server's view
  view_is : (seat : Seat) (bodies : List (List Change)) (heard : List Heard) → (questions seat bodies heard).here.view ≡ most_of view_entered (joined bodies)
  unfolding questions here_of
  view_is seat bodies heard = refl

  -- and its local view
  local_is : (seat : Seat) (bodies : List (List Change)) (heard : List Heard) → (questions seat bodies heard).here.local ≡ most_of local_entered (joined bodies)
  unfolding questions here_of
  local_is seat bodies heard = refl

  -- A server's view is the greatest that its records enter,
  pub view_said : (world : World Wire) (s i : ℕ) → view_at d world s i ≡ most_of view_entered (joined (world.nodes s i).bodies)
  view_said world s i = view_is (seat_of d s i) (world.nodes s i).bodies (world.nodes s i).heard

  -- and so is its local view.
  pub local_said : (world : World Wire) (s i : ℕ) → local_at d world s i ≡ most_of local_entered (joined (world.nodes s i).bodies)
  local_said world s i = local_is (seat_of d s i) (world.nodes s i).bodies (world.nodes s i).heard

  -- Views never fall.
  pub view_stays : (all more : List Line) (s i : ℕ) → view_at d (steps d empty all) s i ≤ view_at d (steps d empty (all ++ more)) s i
  unfolding questions here_of
  view_stays all more s i = stays view_entered all more s i

  -- local views
  pub local_stays : (all more : List Line) (s i : ℕ) → local_at d (steps d empty all) s i ≤ local_at d (steps d empty (all ++ more)) s i
  unfolding questions here_of
  local_stays all more s i = stays local_entered all more s i
