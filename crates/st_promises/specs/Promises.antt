-- What is promised of the worlds to which event lines lead.
use Rattle.std.specs.Prelude.{◌≡◌, ◌≤◌, ◌<◌, ℕ, ◌+◌, true, None, Some, IsTrue, List, take, slice_get}
use Rattle.std.specs.List.{All}
use Rattle.st_words.specs.declared.value.Value.{Value}
use Rattle.st_message.specs.declared.made.MadeSeal.{MadeSeal}
use Rattle.st_schedule.specs.declared.line.Line.{Line}
use Rattle.st_agreement.specs.Sites.{leader}
use Rattle.st_agreement.specs.Statements.{is_proposal}
use Rattle.st_agreement.specs.Worlds.{inside, outside, stands}
use Rattle.st_protocol.specs.Duty.{Event}
use Rattle.st_protocol.specs.World.{Answered, Deployment, World, is_correct, empty, plan_at}
use Rattle.st_protocol.specs.Schedule.{flows, steps}
use Rattle.st_protocol.specs.Report.{answers_at}
use Rattle.st_log_laws.specs.Handed.{comes_from_client}
use Rattle.st_in_hand.specs.InHand.{in_hand_at, ExecutesInHand, answers_hearing}
use Rattle.st_flat_laws.specs.Flat.{LeadsFlat}
use Rattle.st_answer_laws.specs.Plain.{sites_in, plain_of}
use Rattle.st_log_laws.specs.Fronts.{Agree, log_at}
use Rattle.st_certificate_laws.specs.Views.{view_at, local_at, IsLocalProved, IsViewProved}
use Rattle.st_result_laws.specs.Results.{IsAnsweredBy}
use Rattle.st_promises.specs.Logs.{times_ran}

module _ {Wire : Type 0} (d : Deployment Wire) where
  -- how many numbers a server executed
  abbrev pub executed_at : World Wire → ℕ → ℕ → ℕ
  executed_at world site index = (answers_at d world site index).here.executed

  -- the Proposal of a view, local view, number and value stands at the site that leads the view
  abbrev pub IsProposed : World Wire → ℕ → ℕ → ℕ → Value → Type 0
  IsProposed world view local number value =
      IsTrue (stands (sites_in d) (plain_of d world) (leader (sites_in d) view) (is_proposal (leader (sites_in d) view) view local number value))

  -- What is promised of a world.
  pub record KeepsPromises (world : World Wire) : Type 0 where
    -- of any two correct servers' logs one is a front of the other
    pub agree : (s i t j : ℕ) → is_correct d s i ≡ true → is_correct d t j ≡ true → Agree (log_at d world s i) (log_at d world t j)
    -- every update in a log was sealed and handed out by its client
    pub handed : (site index : ℕ) → All (λ entry. IsTrue (comes_from_client world.made entry.value)) (log_at d world site index)
    -- and ran at most once
    pub once : (site index client time : ℕ) → times_ran client time (log_at d world site index) ≤ 1
    -- an event executes exactly the numbers that are in hand once its message was heard, from the next one on
    pub executes : (site index : ℕ) (event : Event Wire) → ExecutesInHand (answers_hearing d world site index (plan_at d world site index event)) (plan_at d world site index event).changes
    -- so the next number isn't in hand
    pub prompt : (site index : ℕ) → in_hand_at (answers_at d world site index) (executed_at world site index + 1) ≡ None
    -- a client's result is that of its update in a correct server's log
    pub results : (client : ℕ) (a : Answered) → (world.customers client).result ≡ Some a → IsAnsweredBy d world client a
    -- one leaf of a party is of one statement
    pub leaves : (i j : ℕ) (x y : MadeSeal) → slice_get world.made i ≡ Some x → slice_get world.made j ≡ Some y → x.who ≡ y.who → x.leaf ≡ y.leaf → x ≡ y
    -- local views and views above 0 were entered by proof
    pub locals : (site index : ℕ) → 0 < local_at d world site index → IsLocalProved d world site index
    pub views : (site index : ℕ) → 0 < view_at d world site index → IsViewProved d world site index
    -- a site has one voice: of a view and a number one value is proposed, in whatever local views
    pub voice : (view number local other : ℕ) (u v : Value) → IsProposed world view local number u → IsProposed world view other number v → u ≡ v

  -- the world after so many lines, and so many deliveries of a flow from there on
  abbrev pub world_at : List Line → ℕ → ℕ → World Wire
  world_at all lines deliveries = (flows d deliveries (record { world = steps d empty (take lines all); pairs = 0; did = 0; ignored = 0 })).world

  -- the world after so many lines
  abbrev pub world_after : List Line → ℕ → World Wire
  world_after all lines = steps d empty (take lines all)

  -- What is promised of a world and of a later one.
  pub record KeepsPromisesOverTime (early late : World Wire) : Type 0 where
    -- the log of a correct server by now and that of one later agree
    pub agree : (s i t j : ℕ) → is_correct d s i ≡ true → is_correct d t j ≡ true → Agree (log_at d early s i) (log_at d late t j)
    -- views never fall
    pub locals : (site index : ℕ) → local_at d early site index ≤ local_at d late site index
    pub views : (site index : ℕ) → view_at d early site index ≤ view_at d late site index
    -- flat steps lead from the one to the other, in order: among the sites in views, and among the servers of a view's
    -- leader site in local views
    pub sites : LeadsFlat (λ n. outside (sites_in d) (plain_of d early) n) (λ n. outside (sites_in d) (plain_of d late) n)
    pub servers : (view : ℕ) → LeadsFlat (λ n. inside (sites_in d) (plain_of d early) view n) (λ n. inside (sites_in d) (plain_of d late) view n)

  -- The promises are kept before the first event line and after each, after each delivery of a flow, and over time.
  pub record AlwaysKeepsPromises (all : List Line) : Type 0 where
    pub each : (lines deliveries : ℕ) → KeepsPromises (world_at all lines deliveries)
    pub later : (lines more : ℕ) → KeepsPromisesOverTime (world_after all lines) (world_after all (lines + more))
