-- A flow, delivery by delivery.
use Rattle.std.proofs.Common.{◌≡◌, ◌∙◌, ap, sym, subst, ℕ, ◌+◌, ◌<◌, ◌≤◌, ◌-◌, Option, Some, Result, Ok, Err, List, [], ◌∷◌, length, slice_get, refl, arith, zero, suc}
use Rattle.st_words.specs.declared.deployment.Deployment.{Deployment}
use Rattle.st_schedule.specs.declared.done.Done.{Done}
use Rattle.st_protocol.specs.Words.{Bytes}
use Rattle.st_protocol.specs.Keeping.{given}
use Rattle.st_protocol.specs.World as model
use Rattle.st_protocol.specs.World.{Fault, Stepped, with_waiting, delivers}
use Rattle.st_protocol.specs.Schedule.{Flowing, counts, flows, flows_first, flowed, did_by, ignored_by}
use Rattle.st_flows.proofs.PlainKept.{plain_with_waiting}
use Rattle.st_flows.proofs.FlowLaws.{flows_none, flows_one}
use Rattle.st_flows.proofs.EndLaws.{flows_ended}
use Rattle.st_waiting.specs.declared.waiting.Waiting.{Waiting}
use Rattle.st_waiting.specs.Undelivered.{pairs_in, newest_in}
use Rattle.st_deployment.specs.Deployed.{world_deployment}
use Rattle.st_world.specs.declared.world.World.{World}
use Rattle.st_world.specs.declared.error.StepError.{StepError}
use Rattle.st_world.specs.declared.flow.Flow.{Flow}
use Rattle.st_world.specs.Standing.{AreSent, IsSet, IsSent, IsWorld, IsStanding, EndsBy, CameTo}
use Rattle.st_world.specs.Flows.{IsFlowing, AreFlowed, begun}
use Rattle.st_world.proofs.EndLaws.{ends_still}

-- ---- other pairs wait

-- the world with other pairs
pub waits_on : (w : World) (waiting : Waiting) (d : Deployment) (m : model.World Bytes) (pairs : List model.Pair) → IsWorld w d m → pairs_in waiting ≡ pairs → newest_in waiting ≡ newest_in w.waiting → AreSent (length m.sent) pairs
    → IsWorld (record w { waiting = waiting }) d (with_waiting m pairs)
unfolding with_waiting
waits_on w waiting d m pairs stands is newest below =
    let was : IsSent w d m = stands.sending in
    let set : IsSet w d = stands.set in
    record {
      set = record { taken = set.taken; deployment = set.deployment; seals = set.seals; sealer = set.sealer; sealers = set.sealers; seat = set.seat };
      server = stands.server;
      kept = stands.kept;
      plain = plain_with_waiting m pairs stands.plain;
      customers = stands.customers;
      sending = record { sent = was.sent; number = was.number; size = was.size; few = was.few; newest = subst (λ n. n ≤ length m.sent) (sym newest) was.newest; below = below; waiting = is; made = was.made };
      going = stands.going;
    }

-- ---- the oldest pair

-- the same pairs wait
waits_still : (w : World) (waiting : Waiting) (d : Deployment) (m : model.World Bytes) → IsWorld w d m → pairs_in waiting ≡ pairs_in w.waiting → newest_in waiting ≡ newest_in w.waiting → IsWorld (record w { waiting = waiting }) d m
waits_still w waiting d m stands is newest =
    let was : IsSent w d m = stands.sending in
    let set : IsSet w d = stands.set in
    record {
      set = record { taken = set.taken; deployment = set.deployment; seals = set.seals; sealer = set.sealer; sealers = set.sealers; seat = set.seat };
      server = stands.server;
      kept = stands.kept;
      plain = stands.plain;
      customers = stands.customers;
      sending = record { sent = was.sent; number = was.number; size = was.size; few = was.few; newest = subst (λ n. n ≤ length m.sent) (sym newest) was.newest; below = was.below; waiting = is ∙ was.waiting; made = was.made };
      going = stands.going;
    }

-- nothing waits
pub turn_nothing : (w : World) (waiting : Waiting) (flow : Flow) (d : Deployment) (x : Flowing Bytes) → IsFlowing w flow d x → pairs_in w.waiting ≡ [] → pairs_in waiting ≡ [] → newest_in waiting ≡ newest_in w.waiting
    → IsFlowing (record w { waiting = waiting }) flow d (flows_first (world_deployment d) x x.world.waiting)
unfolding flows_first
turn_nothing w waiting flow d x so none still newest =
    subst (λ (ps : List model.Pair). IsFlowing (record w { waiting = waiting }) flow d (flows_first (world_deployment d) x ps)) (sym none ∙ so.world.sending.waiting)
    (record { world = waits_still w waiting d x.world so.world (still ∙ sym none) newest; pairs = so.pairs; did = so.did; ignored = so.ignored })

pub nothing_stands : (w : World) (waiting : Waiting) → IsStanding w → pairs_in w.waiting ≡ [] → pairs_in waiting ≡ [] → newest_in waiting ≡ newest_in w.waiting → IsStanding (record w { waiting = waiting })
nothing_stands w waiting so none still newest =
    record { deployment = so.deployment; model = so.model; stands = waits_still w waiting so.deployment so.model so.stands (still ∙ sym none) newest }

-- a message that there is
there : (sent : List Bytes) (k : ℕ) → k < length sent → (wire : Bytes) × (slice_get sent k ≡ Some wire)
there [] k below = absurd (omega (arith, below))
there (x ∷ xs) zero below = (x, refl)
there (x ∷ xs) (suc k) below = there xs k (omega (arith, below))

-- the turn's delivery
turn_is : (w : World) (flow : Flow) (d : Deployment) (x : Flowing Bytes) (p : model.Pair) (ps : List model.Pair) (wire : Bytes) → IsFlowing w flow d x → pairs_in w.waiting ≡ p ∷ ps → slice_get x.world.sent p.message ≡ Some wire
    → counts (world_deployment d) x (delivers (world_deployment d) (with_waiting x.world ps) p.to wire) ≡ flows_first (world_deployment d) x x.world.waiting
unfolding flows_first
turn_is w flow d x p ps wire so first found =
    ap (λ (o : Option Bytes). given o x (λ v. counts (world_deployment d) x (delivers (world_deployment d) (with_waiting x.world ps) p.to v))) (sym found)
    ∙ ap (flows_first (world_deployment d) x) (sym first ∙ so.world.sending.waiting)

-- the oldest pair is of a message that was sent
first_below : (w : World) (d : Deployment) (m : model.World Bytes) (p : model.Pair) (ps : List model.Pair) → IsWorld w d m → pairs_in w.waiting ≡ p ∷ ps → AreSent (length m.sent) (p ∷ ps)
first_below w d m p ps stands first = subst (AreSent (length m.sent)) (sym stands.sending.waiting ∙ first) stands.sending.below

-- the world without it
pub moves_on : (w : World) (waiting : Waiting) (d : Deployment) (m : model.World Bytes) (p : model.Pair) (ps : List model.Pair) → IsWorld w d m → pairs_in w.waiting ≡ p ∷ ps → pairs_in waiting ≡ ps → newest_in waiting ≡ newest_in w.waiting
    → IsWorld (record w { waiting = waiting }) d (with_waiting m ps)
moves_on w waiting d m p ps stands first rest newest = waits_on w waiting d m ps stands rest newest (first_below w d m p ps stands first).1

pub standing_on : (w : World) (waiting : Waiting) (p : model.Pair) (ps : List model.Pair) → IsStanding w → pairs_in w.waiting ≡ p ∷ ps → pairs_in waiting ≡ ps → newest_in waiting ≡ newest_in w.waiting → IsStanding (record w { waiting = waiting })
standing_on w waiting p ps so first rest newest =
    record { deployment = so.deployment; model = with_waiting so.model ps; stands = moves_on w waiting so.deployment so.model p ps so.stands first rest newest }

-- its message is there
pub first_sent : (w : World) (p : model.Pair) (ps : List model.Pair) → IsStanding w → pairs_in w.waiting ≡ p ∷ ps → p.message < length w.sent
first_sent w p ps so first =
    let below = (first_below w so.deployment so.model p ps so.stands first).0 in
    subst (λ (sent : List Bytes). p.message < length sent) (sym so.stands.sending.sent) below

-- ---- one turn

-- what a delivery with the other pairs comes to
abbrev pub Delivered : Result Done StepError → World → World → model.Pair → Type 0
Delivered result on new p = (d : Deployment) (m : model.World Bytes) (wire : Bytes) → IsWorld on d m → slice_get m.sent p.message ≡ Some wire → CameTo result new d (delivers (world_deployment d) m p.to wire)

module _ (w : World) (waiting : Waiting) (new : World) (flow : Flow) (p : model.Pair) (ps : List model.Pair) (first : pairs_in w.waiting ≡ p ∷ ps) (rest : pairs_in waiting ≡ ps) (newest : newest_in waiting ≡ newest_in w.waiting) where
  -- the delivery in this turn
  turn_came : (result : Result Done StepError) (d : Deployment) (x : Flowing Bytes) → IsFlowing w flow d x → Delivered result (record w { waiting = waiting }) new p
      → (wire : Bytes) × (slice_get x.world.sent p.message ≡ Some wire) × CameTo result new d (delivers (world_deployment d) (with_waiting x.world ps) p.to wire)
  unfolding with_waiting
  turn_came result d x so delivered =
      let found = there x.world.sent p.message (first_below w d x.world p ps so.world first).0 in
      (found.0, found.1, delivered d (with_waiting x.world ps) found.0 (moves_on w waiting d x.world p ps so.world first rest newest) found.1)

  -- one that came to something
  pub turned : (more : Flow) (done : Done) (d : Deployment) (x : Flowing Bytes) → IsFlowing w flow d x → Delivered (Ok done) (record w { waiting = waiting }) new p
      → more.pairs ≡ flow.pairs + 1 → more.did ≡ flow.did + did_by done → more.ignored ≡ flow.ignored + ignored_by done → IsFlowing new more d (flows_first (world_deployment d) x x.world.waiting)
  turned more done d x so delivered pairs did ignored =
      let came = turn_came (Ok done) d x so delivered in
      subst (IsFlowing new more d) (turn_is w flow d x p ps came.0 so first came.1)
      (record {
        world = came.2.0;
        pairs = pairs ∙ ap (λ n. n + 1) so.pairs;
        did = did ∙ (λ i. so.did i + did_by (came.2.1 i));
        ignored = ignored ∙ (λ i. so.ignored i + ignored_by (came.2.1 i));
      })

  -- one that ended the world
  pub turn_ended : (e : StepError) (d : Deployment) (x : Flowing Bytes) → IsFlowing w flow d x → Delivered (Err e) (record w { waiting = waiting }) new p → EndsBy e (flows_first (world_deployment d) x x.world.waiting).world.ended
  turn_ended e d x so delivered =
      let came = turn_came (Err e) d x so delivered in
      subst (λ (y : Flowing Bytes). EndsBy e y.world.ended) (turn_is w flow d x p ps came.0 so first came.1) came.2

-- a world that a delivery led to stands
pub standing_after : (on new : World) (done : Done) (p : model.Pair) → p.message < length on.sent → IsStanding on → Delivered (Ok done) on new p → IsStanding new
standing_after on new done p sent so delivered =
    let found = there so.model.sent p.message (subst (λ (s : List Bytes). p.message < length s) so.stands.sending.sent sent) in
    record {
      deployment = so.deployment;
      model = (delivers (world_deployment so.deployment) so.model p.to found.0).world;
      stands = (delivered so.deployment so.model found.0 so.stands found.1).0;
    }

-- ---- all turns

flows_last : (d : Deployment) (k : ℕ) (x : Flowing Bytes) → flows (world_deployment d) (suc k) x ≡ flows_first (world_deployment d) (flows (world_deployment d) k x) (flows (world_deployment d) k x).world.waiting
flows_last d zero x = flows_one (world_deployment d) 0 x ∙ (flows_none (world_deployment d) _ ∙ ap (λ (y : Flowing Bytes). flows_first (world_deployment d) y y.world.waiting) (sym (flows_none (world_deployment d) x)))
flows_last d (suc k) x =
    flows_one (world_deployment d) (suc k) x
    ∙ (flows_last d k (flows_first (world_deployment d) x x.world.waiting)
    ∙ ap (λ (y : Flowing Bytes). flows_first (world_deployment d) y y.world.waiting) (sym (flows_one (world_deployment d) k x)))

flows_split : (d : Deployment) (j k : ℕ) (x : Flowing Bytes) → flows (world_deployment d) (j + k) x ≡ flows (world_deployment d) k (flows (world_deployment d) j x)
flows_split d zero k x = let same : 0 + k ≡ k = omega arith in ap (λ n. flows (world_deployment d) n x) same ∙ ap (flows (world_deployment d) k) (sym (flows_none (world_deployment d) x))
flows_split d (suc j) k x =
    let next : suc j + k ≡ suc (j + k) = omega arith in
    ap (λ n. flows (world_deployment d) n x) next
    ∙ (flows_one (world_deployment d) (j + k) x
    ∙ (flows_split d j k (flows_first (world_deployment d) x x.world.waiting)
    ∙ ap (flows (world_deployment d) k) (sym (flows_one (world_deployment d) j x))))

pub flowed_none : (w : World) (flow : Flow) → flow.pairs ≡ 0 → flow.did ≡ 0 → flow.ignored ≡ 0 → AreFlowed w w flow 0
flowed_none w flow pairs did ignored = λ d m stands. subst (IsFlowing w flow d) (sym (flows_none (world_deployment d) (begun m))) (record { world = stands; pairs = pairs; did = did; ignored = ignored })

pub flowed_more : (start old new : World) (flow more : Flow) (k : ℕ) → AreFlowed start old flow k
    → ((d : Deployment) (x : Flowing Bytes) → IsFlowing old flow d x → IsFlowing new more d (flows_first (world_deployment d) x x.world.waiting)) → AreFlowed start new more (k + 1)
flowed_more start old new flow more k so step =
    λ d m stands.
    let next : suc k ≡ k + 1 = omega arith in
    subst (λ n. IsFlowing new more d (flows (world_deployment d) n (begun m))) next
    (subst (IsFlowing new more d) (sym (flows_last d k (begun m))) (step d (flows (world_deployment d) k (begun m)) (so d m stands)))

-- a flow that is over
pub flowed_all : (start now : World) (flow : Flow) (k : ℕ) → AreFlowed start now flow k → (d : Deployment) (m : model.World Bytes) → IsWorld start d m
    → (done : Done) → done ≡ (flowed (world_deployment d) (record { world = m; pairs = flow.pairs; did = flow.did; ignored = flow.ignored })).done
    → CameTo (Ok done) now d (flowed (world_deployment d) (flows (world_deployment d) k (begun m)))
flowed_all start now flow k so d m stands done is =
    let x = so d m stands in
    (x.world, is ∙ (λ i. (flowed (world_deployment d) (record { world = m; pairs = x.pairs i; did = x.did i; ignored = x.ignored i })).done))

-- a turn that ended the world ended the flow
pub flowed_over : (e : StepError) (start old : World) (flow : Flow) (k all : ℕ) → AreFlowed start old flow k → k < all
    → ((d : Deployment) (x : Flowing Bytes) → IsFlowing old flow d x → EndsBy e (flows_first (world_deployment d) x x.world.waiting).world.ended)
    → (d : Deployment) (m : model.World Bytes) → IsWorld start d m → EndsBy e (flows (world_deployment d) all (begun m)).world.ended
flowed_over e start old flow k all so below step d m stands =
    let here : Flowing Bytes = flows (world_deployment d) (suc k) (begun m) in
    let sum : suc k + (all - suc k) ≡ all = omega (arith, below) in
    ends_still e here.world.ended (flows (world_deployment d) all (begun m)).world.ended
    (λ (f : Fault) ended.
    ap (λ n. (flows (world_deployment d) n (begun m)).world.ended) (sym sum)
    ∙ (ap (λ (y : Flowing Bytes). y.world.ended) (flows_split d (suc k) (all - suc k) (begun m)) ∙ flows_ended (world_deployment d) f (all - suc k) here ended))
    (subst (λ (y : Flowing Bytes). EndsBy e y.world.ended) (sym (flows_last d k (begun m))) (step d (flows (world_deployment d) k (begun m)) (so d m stands)))
