-- In a deployment in range, and at lines in range, all that a server is given is sound: it is exact and in range, and each of
-- its seals that names a correct party is over what this party has handed out by then.
use Rattle.std.proofs.Common.{◌≡◌, ℕ, ◌≤◌, zero, suc, List, [], ◌∷◌, length, subst, refl, ap, arith}
use Rattle.std.specs.Prelude.{Some, slice_get}
use Rattle.std.specs.List.{AllByRecursion as Each}
use Rattle.st_message.specs.declared.message.Message.{Message}
use Rattle.st_message.specs.declared.made.MadeSeal.{MadeSeal}
use Rattle.st_schedule.specs.declared.line.Dest.{Dest}
use Rattle.st_schedule.specs.declared.line.Dest.TheVariants as dests
use Rattle.st_schedule.specs.declared.line.Line.{Line}
use Rattle.st_schedule.specs.declared.line.Line.TheVariants as lines
use Rattle.st_counts.specs.Counts.{AllOf}
use Rattle.st_protocol.specs.Known.{Sealed, seals_of}
use Rattle.st_protocol.specs.Duty.{Event, Deliver, LocalTimeout, GlobalTimeout, Tick, Clean}
use Rattle.st_protocol.specs.World.{Deployment, World, Pair, empty, with_waiting, reads}
use Rattle.st_protocol.specs.Schedule.{Flowing, is_pair, without, flows_first, flows, goes_on, steps}
use Rattle.st_ranges.specs.Ranges.{MessageInRange, ReadingInRange}
use Rattle.st_ranges.specs.Deployments.{DeploymentInRange, LineInRange}
use Rattle.st_ranges.proofs.WorldLaws.{WorldInRange, empty_in_range}
use Rattle.st_honest_laws.specs.Honest.{SealsAreRead, IsHonest}
use Rattle.st_frame_laws.specs.Events.{EventHas, IsKeptByEvents}
use Rattle.st_frame_laws.proofs.WorldFrame.{fewer, flows_kept, step_kept, steps_kept}
use Rattle.st_honest_laws.proofs.SealFacts.{message_seals}
use Rattle.st_honest_laws.proofs.MadeLaws.{Covers}
use Rattle.st_honest_laws.proofs.HonestWorlds.{Kept, Delivered, honest_is_kept, empty_has}
use Rattle.st_honest_laws.proofs.RangedLaws.{ReadsInRange, ranged}
use Rattle.st_answer_laws.specs.Sound.{IsHonestSeal, IsSound}
use Rattle.st_refinement_laws.specs.Lines.{IsDelivery, IsFirst, AreFlows, IsLine, AreHonestLines}
use Rattle.st_log_laws.proofs.CheckedLaws.{Holds, IsChecked, reads_checked}

module _ {Wire : Type 0} (d : Deployment Wire) (h : DeploymentInRange d) (formats : SealsAreRead d MessageInRange) where
  -- ranges and honest seals, whatever is taken for what was handed out in the end
  abbrev pub IsFairWorld : World Wire → Type 0
  IsFairWorld world = (final : List MadeSeal) → Kept d final MessageInRange formats (WorldInRange d) (ReadsInRange d h) (LineInRange d) (ranged d h) world

  -- what may be delivered
  abbrev pub IsFairWire : World Wire → Wire → Type 0
  IsFairWire world wire = (final : List MadeSeal) → Delivered d final MessageInRange formats (WorldInRange d) (ReadsInRange d h) (LineInRange d) (ranged d h) world wire

  -- every event keeps both, for each of these
  seals_kept : (final : List MadeSeal) → IsKeptByEvents d (Kept d final MessageInRange formats (WorldInRange d) (ReadsInRange d h) (LineInRange d) (ranged d h))
      (Delivered d final MessageInRange formats (WorldInRange d) (ReadsInRange d h) (LineInRange d) (ranged d h)) (LineInRange d)
  seals_kept final = honest_is_kept d final MessageInRange formats (WorldInRange d) (ReadsInRange d h) (LineInRange d) (ranged d h)

  event_at : (world : World Wire) (event : Event Wire) → EventHas (IsFairWire world) event → (final : List MadeSeal) →
      EventHas (Delivered d final MessageInRange formats (WorldInRange d) (ReadsInRange d h) (LineInRange d) (ranged d h) world) event
  event_at world (Deliver wire) e final = e final
  event_at world LocalTimeout e final = tt
  event_at world GlobalTimeout e final = tt
  event_at world Tick e final = tt

  -- So every event keeps it.
  pub fair_is_kept : IsKeptByEvents d IsFairWorld IsFairWire (LineInRange d)
  fair_is_kept =
      record {
        sent = λ world n wire w e. λ final. (seals_kept final).sent world n wire (w final) e;
        outside = λ world to bytes l fair w. λ final. (seals_kept final).outside world to bytes l fair (w final);
        settles = λ world site index event correct runs e room goes w. λ final. (seals_kept final).settles world site index event correct runs (event_at world event e final) room goes (w final);
        fills = λ world site index correct w. λ final. (seals_kept final).fills world site index correct (w final);
        stops = λ world site index event correct runs e stop w. λ final. (seals_kept final).stops world site index event correct runs (event_at world event e final) stop (w final);
        setting = λ world site index call correct w. λ final. (seals_kept final).setting world site index call correct (w final);
        restarting = λ world site index again correct w. λ final. (seals_kept final).restarting world site index again correct (w final);
        submitting = λ world client op l known left w. λ final. (seals_kept final).submitting world client op l known left (w final);
        answering = λ world client wire site to time number result signed e reads mine good waits new w. λ final.
            (seals_kept final).answering world client wire site to time number result signed (e final) reads mine good waits new (w final);
        sealing = λ world site index s l there faulty may left w. λ final. (seals_kept final).sealing world site index s l there faulty may left (w final);
        waiting = λ world pairs few w. λ final. (seals_kept final).waiting world pairs few (w final);
        ending = λ world fault w. λ final. (seals_kept final).ending world fault (w final);
      }

  empty_fair : IsFairWorld empty
  empty_fair final = (empty_in_range d h, empty_has d final)

  -- ---- one delivery

  -- what a server is given is sound
  abbrev Sound : World Wire → Message → Type 0
  Sound world m = IsSound d world m

  -- seals that check, of which those of correct parties are over what these have made
  honest_seals : (world : World Wire) (xs : List Sealed) → Each (IsHonest d world.made) xs → Each (Holds d) xs → AllOf (IsHonestSeal d world) xs
  honest_seals world [] g k = tt
  honest_seals world (x ∷ xs) g k = (λ correct. g.0 correct k.0, honest_seals world xs g.1 k.1)

  delivered_sound : (world : World Wire) (wire : Wire) (m : Message) → IsFairWire world wire → reads d wire ≡ Clean m → IsSound d world m
  delivered_sound world wire m e is =
      let there = e world.made in
      let checked : IsChecked d wire m = reads_checked d MessageInRange formats wire m (λ n r. subst ReadingInRange r there.0) is in
      let all_there : Covers world.made world.made = (λ who s made. made) in
      record {
        exact = checked.exact;
        honest = honest_seals world (seals_of d.sites m) (message_seals (IsHonest d world.made) d.sites m (there.1 all_there m checked.read)) checked.holds;
        ranged = subst ReadingInRange checked.read there.0;
      }

  honest_delivery : (world : World Wire) (to : Dest) (wire : Wire) → IsFairWire world wire → IsDelivery d Sound world to wire
  honest_delivery world (dests.Server server) wire e = λ m is. delivered_sound world wire m e is
  honest_delivery world (dests.Client client) wire e = tt

  -- ---- lines

  -- what was sent is delivered, where fewer pairs wait
  sent_honest : (world : World Wire) (pairs : List Pair) (n : ℕ) (to : Dest) (wire : Wire) → IsFairWorld world → length pairs ≤ length world.waiting → slice_get world.sent n ≡ Some wire →
      IsDelivery d Sound (with_waiting world pairs) to wire
  unfolding with_waiting
  sent_honest world pairs n to wire w few e =
      let there : IsFairWorld (with_waiting world pairs) = fair_is_kept.waiting world pairs few w in
      honest_delivery (with_waiting world pairs) to wire (fair_is_kept.sent (with_waiting world pairs) n wire there e)

  first_honest : (x : Flowing Wire) (pairs : List Pair) → x.world.waiting ≡ pairs → IsFairWorld x.world → IsFirst d Sound x pairs
  first_honest x [] is w = tt
  first_honest x (p ∷ ps) is w = λ wire e. sent_honest x.world ps p.message p.to wire w (let all = ap length is in omega (arith, all)) e

  flows_honest : (k : ℕ) (x : Flowing Wire) → IsFairWorld x.world → AreFlows d Sound k x
  unfolding flows
  flows_honest zero x w = tt
  flows_honest (suc k) x w = (
    first_honest x x.world.waiting refl w,
    flows_honest k (flows_first d x x.world.waiting) (flows_kept d IsFairWorld IsFairWire (LineInRange d) fair_is_kept 1 x w),
  )

  line_honest : (world : World Wire) (line : Line) → LineInRange d line → IsFairWorld world → IsLine d Sound Sound world line
  line_honest world (lines.Deliver m to) l w = λ wire e. sent_honest world (without (is_pair m to) world.waiting) m to wire w (fewer (is_pair m to) world.waiting) e
  line_honest world (lines.Flow k) l w = flows_honest k (record { world = world; pairs = 0; did = 0; ignored = 0 }) w
  line_honest world (lines.Raw to bytes) l w = λ fair. honest_delivery world to (d.formats.raw bytes) (fair_is_kept.outside world to bytes l fair w)
  line_honest world _ l w = tt

  -- Lines in range are honest.
  pub lines_honest : (world : World Wire) (all : List Line) → Each (LineInRange d) all → IsFairWorld world → AreHonestLines d world all
  lines_honest world [] l w = tt
  lines_honest world (line ∷ more) l w = (
    line_honest world line l.0 w,
    lines_honest (goes_on d world line) more l.1 (step_kept d IsFairWorld IsFairWire (LineInRange d) fair_is_kept world line l.0 w),
  )

  pub all_lines_honest : (all : List Line) → Each (LineInRange d) all → AreHonestLines d empty all
  all_lines_honest all l = lines_honest empty all l empty_fair

  -- So are lines that come after others.
  pub later_lines_honest : (all more : List Line) → Each (LineInRange d) all → Each (LineInRange d) more → AreHonestLines d (steps d empty all) more
  later_lines_honest all more l m = lines_honest (steps d empty all) more m (steps_kept d IsFairWorld IsFairWire (LineInRange d) fair_is_kept empty all l empty_fair)
