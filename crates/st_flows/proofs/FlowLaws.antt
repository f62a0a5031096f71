-- A flow, one delivery at a time.
use Rattle.std.proofs.Common.{◌≡◌, ℕ, ◌+◌, zero, suc, List, [], ◌∷◌, refl, ◌∙◌, ap, arith}
use Rattle.std.specs.Prelude.{Option, Some, None, slice_get}
use Rattle.st_protocol.specs.Keeping.{given}
use Rattle.st_protocol.specs.World.{Deployment, Pair, with_waiting, delivers}
use Rattle.st_protocol.specs.Schedule.{Flowing, counts, flows_first, flows}

module _ {Wire : Type 0} (d : Deployment Wire) where
  -- no delivery
  pub flows_none : (x : Flowing Wire) → flows d 0 x ≡ x
  unfolding flows
  flows_none x = refl

  -- one delivery more: the first comes first
  pub flows_one : (k : ℕ) (x : Flowing Wire) → flows d (suc k) x ≡ flows d k (flows_first d x x.world.waiting)
  unfolding flows
  flows_one k x = refl

  -- a world that a first delivery leaves as it is stays so
  flows_still : (k : ℕ) (x : Flowing Wire) → flows_first d x x.world.waiting ≡ x → flows d k x ≡ x
  unfolding flows
  flows_still zero x e = refl
  flows_still (suc k) x e = ap (flows d k) e ∙ flows_still k x e

  -- nothing waits
  first_of_nothing : (x : Flowing Wire) → flows_first d x [] ≡ x
  unfolding flows_first
  first_of_nothing x = refl

  -- the oldest pair is of this message
  first_of_pair : (x : Flowing Wire) (p : Pair) (ps : List Pair) (wire : Option Wire) → slice_get x.world.sent p.message ≡ wire →
      flows_first d x (p ∷ ps) ≡ given wire x (λ w. counts d x (delivers d (with_waiting x.world ps) p.to w))
  unfolding flows_first
  first_of_pair x p ps wire e = ap (λ o. given o x (λ w. counts d x (delivers d (with_waiting x.world ps) p.to w))) e

  -- Where nothing waits, a flow does nothing.
  pub flows_nothing : (k : ℕ) (x : Flowing Wire) → x.world.waiting ≡ [] → flows d k x ≡ x
  flows_nothing k x e = flows_still k x (ap (flows_first d x) e ∙ first_of_nothing x)

  -- Nor does it where the oldest pair is of no message.
  pub flows_stuck : (k : ℕ) (x : Flowing Wire) (p : Pair) (ps : List Pair) → x.world.waiting ≡ p ∷ ps → slice_get x.world.sent p.message ≡ None → flows d k x ≡ x
  flows_stuck k x p ps e none = flows_still k x (ap (flows_first d x) e ∙ first_of_pair x p ps None none)

  -- Otherwise the oldest pair is delivered, and the rest of the flow goes on from there.
  pub flows_next_suc : (k : ℕ) (x : Flowing Wire) (p : Pair) (ps : List Pair) (wire : Wire) → x.world.waiting ≡ p ∷ ps → slice_get x.world.sent p.message ≡ Some wire →
      flows d (suc k) x ≡ flows d k (counts d x (delivers d (with_waiting x.world ps) p.to wire))
  flows_next_suc k x p ps wire e sent = flows_one k x ∙ ap (flows d k) (ap (flows_first d x) e ∙ first_of_pair x p ps (Some wire) sent)

  -- The same, with one more written as a sum.
  pub flows_next : (k : ℕ) (x : Flowing Wire) (p : Pair) (ps : List Pair) (wire : Wire) → x.world.waiting ≡ p ∷ ps → slice_get x.world.sent p.message ≡ Some wire →
      flows d (k + 1) x ≡ flows d k (counts d x (delivers d (with_waiting x.world ps) p.to wire))
  flows_next k x p ps wire e sent =
      let one : k + 1 ≡ suc k = omega arith in
      ap (λ n. flows d n x) one ∙ flows_next_suc k x p ps wire e sent
