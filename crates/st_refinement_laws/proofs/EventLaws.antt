-- A correct server's plan at an event may be, in a world with the invariant where what is delivered and heard is sound.
use Rattle.std.proofs.Common.{◌≡◌, ℕ, ◌+◌, ◌<◌, Bool, true, false, cond, List, [], ◌∷◌, refl, subst}
use Rattle.std.specs.Prelude.{is_some}
use Rattle.st_message.specs.declared.message.Message.{Message}
use Rattle.st_message.specs.declared.change.Change.{Change}
use Rattle.st_message.specs.declared.change.Heard.{Heard}
use Rattle.st_message.specs.declared.step.Step.{Step}
use Rattle.st_counts.specs.Counts.{Has, AllOf}
use Rattle.st_agreement.specs.MiniSteps.{Invariant}
use Rattle.st_agreement.specs.Sites.{AreSites}
use Rattle.st_protocol.specs.Words.{a_local_vc, a_global_vc}
use Rattle.st_protocol.specs.State.{OfLocal, OfGlobal, Answers}
use Rattle.st_protocol.specs.Step.{bound, seen, spent, Answer, Refused, Steps, to_rep, to_site}
use Rattle.st_protocol.specs.Forced.{forced_of}
use Rattle.st_protocol.specs.Assigning.{fill}
use Rattle.st_protocol.specs.Duty.{Event, Deliver, LocalTimeout, GlobalTimeout, Tick, Reading, Faulty, Clean, Pen, Course, begins, carries, fills_up, course, of_kind, is_built_message, of_message, of_reading, of_event, plan_by, plan_of}
use Rattle.st_protocol.specs.World.{Deployment, World, seat_of, reads, pen_at, plan_at}
use Rattle.st_ranges.specs.Deployments.{KeepsRanges}
use Rattle.st_answer_laws.specs.Fair.{HasFewFaulty}
use Rattle.st_answer_laws.specs.Plain.{onto, newest, sites_in, plain_of}
use Rattle.st_answer_laws.specs.Sound.{IsSound, IsSoundHeard, IsHonestEvent}
use Rattle.st_answer_laws.specs.Support.{MayStep, MayPlan}
use Rattle.st_answer_laws.proofs.WayLaws.{on-carries}
use Rattle.st_refinement_laws.proofs.FillLaws.{fill-may, fill-heard}
use Rattle.st_answer_laws.proofs.NormalLaws.{decides-steps}
use Rattle.st_message.specs.declared.reason.Reason.TheVariants.{NotBuilt}
use Rattle.st_refinement_laws.proofs.PlanLaws.{On, context-on, state, carried, asks-course, tick-puts}
use Rattle.st_refinement_laws.proofs.KindLaws.{kind-course}

-- what a server answers to a message, the part that takes it answered
let_through : (q : Answers) (m : Message) (step : Step) → of_message q m ≡ Steps step → of_kind q m ≡ Steps step
let_through q m step e = by_test (is_built_message m) e
  where
    by_test : (b : Bool) → cond b (of_kind q m) (Refused NotBuilt) ≡ Steps step → of_kind q m ≡ Steps step
    by_test true f = f
    by_test false f = absurd (let no_ : Refused NotBuilt ≡ Steps step = f in cc)

module _ {Wire : Type 0} (d : Deployment Wire) (world : World Wire) (few : HasFewFaulty d) (ranges : KeepsRanges d) (sites : AreSites (sites_in d)) (s k : ℕ) (exists : s < d.sites) (correct : Has k ((sites_in d).correct s))
    (inv : Invariant (sites_in d) (plain_of d world)) (sound_heard : AllOf (IsSoundHeard d world) (world.nodes s k).heard) where
  -- what the state answers
  abbrev now : Answers
  now = state d world few ranges sites s k exists correct inv sound_heard

  -- where a step leads
  abbrev Carried : Pen → Step → Type 0
  Carried pen step = On d world few ranges sites s k exists correct inv sound_heard (carries pen (begins now) step)

  -- the plan of an answer, whose step is carried out, and with the fill behind it
  answer-may : (pen : Pen) (a : Answer) → ((step : Step) → a ≡ Steps step → Carried pen step) → MayPlan (sites_in d) (plain_of d world) s (newest (world.nodes s k).bodies) (plan_by pen now a) × AllOf (IsSoundHeard d world) (plan_by pen now a).heard
  unfolding course fills_up
  answer-may pen (Refused reason) may = (record { may = tt; hands = tt }, tt)
  answer-may pen (Steps step) may =
      let bodies : List (List Change) = (world.nodes s k).bodies in
      let heard : List Heard = (world.nodes s k).heard in
      let way : Course = carries pen (begins now) step in
      let on : Carried pen step = may step refl in
      let filled : MayStep (sites_in d) (plain_of d world) s (onto way.changes (newest bodies)) (fill way.now.here way.now.slots way.now.pending (forced_of way.now.here way.now.unions)) =
      fill-may d world s way.now (onto way.changes (newest bodies)) (context-on d world few ranges sites s k exists correct inv sound_heard way on) in
      let done : On d world few ranges sites s k exists correct inv sound_heard (course pen now step) =
      on-carries d world s k (seat_of d s k) bodies heard pen way (fill way.now.here way.now.slots way.now.pending (forced_of way.now.here way.now.unions)) filled (fill-heard d world way.now.here way.now.slots way.now.pending (forced_of way.now.here way.now.unions)) on in
      (record { may = done.may; hands = done.hands }, done.sound)

  -- A message of any kind: the plan of its part's answer may be.
  pub part-may : (m : Message) → IsSound d world m → MayPlan (sites_in d) (plain_of d world) s (newest (world.nodes s k).bodies) (plan_by (pen_at d s k) now (of_kind now m)) × AllOf (IsSoundHeard d world) (plan_by (pen_at d s k) now (of_kind now m)).heard
  part-may m sound = answer-may (pen_at d s k) (of_kind now m) (λ step e. kind-course d world few ranges sites s k exists correct inv sound_heard (pen_at d s k) m step sound e)

  -- an event that does something
  event-course : (pen : Pen) (event : Event Wire) (step : Step) → IsHonestEvent d world event → of_event (reads d) now event ≡ Steps step → Carried pen step
  event-course pen (Deliver wire) step sound e = by_reading (reads d wire) refl e
    where
      by_reading : (r : Reading) → reads d wire ≡ r → of_reading now r ≡ Steps step → Carried pen step
      by_reading (Faulty reason) is f = absurd (let no_ : Refused reason ≡ Steps step = f in cc)
      by_reading (Clean m) is f = kind-course d world few ranges sites s k exists correct inv sound_heard pen m step (sound m is) (let_through now m step f)
  event-course pen LocalTimeout step sound e =
      subst (λ (x : Step). Carried pen x) (decides-steps (bound (now.here.local + 1) ∷ seen (is_some (now.making.vc (OfLocal (now.here.local + 1)))) ∷ spent now.here 1 ∷ []) _ step e).1
      (asks-course d world few ranges sites s k exists correct inv sound_heard pen (a_local_vc now.here.seat.site (now.here.local + 1)) (to_site now.here) tt tt (λ rs. tt))
  event-course pen GlobalTimeout step sound e =
      subst (λ (x : Step). Carried pen x) (decides-steps (bound (now.here.view + 1) ∷ seen (is_some (now.making.vc (OfGlobal (now.here.view + 1)))) ∷ spent now.here 1 ∷ []) _ step e).1
      (asks-course d world few ranges sites s k exists correct inv sound_heard pen (a_global_vc now.here.seat.site (now.here.view + 1)) (to_rep now.here) tt tt (λ rs. tt))
  event-course pen Tick step sound e =
      subst (λ (x : Step). Carried pen x) (steps _ step e)
      (carried d world few ranges sites s k exists correct inv sound_heard pen _ (record { simple = tt; may = tt; puts = tick-puts d world few ranges sites s k exists correct inv sound_heard }) tt)
    where
      steps : (x y : Step) → Steps x ≡ Steps y → x ≡ y
      steps x y f = cc

  -- A correct server's plan at an event may be, and what it keeps is sound.
  pub plan-may : (event : Event Wire) → IsHonestEvent d world event →
      MayPlan (sites_in d) (plain_of d world) s (newest (world.nodes s k).bodies) (plan_at d world s k event) × AllOf (IsSoundHeard d world) (plan_at d world s k event).heard
  unfolding plan_of
  plan-may event sound = answer-may (pen_at d s k) (of_event (reads d) now event) (λ step e. event-course (pen_at d s k) event step sound e)
