-- What each event of a world keeps, where it is as the line, the world and the deployment say, holds of the world of all
-- lines.
use Rattle.std.proofs.Common.{◌≡◌, ◌≤◌, ℕ, Bool, true, false, cond, zero, suc, nat_eq, List, [], ◌∷◌, length, refl, ap, arith}
use Rattle.std.proofs.lemmas.Bool.{eqb-true, and_parts}
use Rattle.std.specs.Prelude.{Option, Some, None, is_some, nat_lt, nat_le, slice_get}
use Rattle.std.specs.List.{AllByRecursion as Each}
use Rattle.st_words.specs.declared.statement.Statement.{Statement}
use Rattle.st_words.specs.declared.statement.Statement.TheVariants.{Reply}
use Rattle.st_seal.specs.declared.quorum.Signed.{Signed}
use Rattle.st_message.specs.declared.message.Message.{Message}
use Rattle.st_message.specs.declared.message.Message.TheVariants as messages
use Rattle.st_message.specs.declared.event.Outcome.TheVariants.{Ignored}
use Rattle.st_message.specs.declared.event.Plan.{Plan}
use Rattle.st_message.specs.declared.reason.Reason.TheVariants.{BadSeal}
use Rattle.st_schedule.specs.declared.line.Dest.{Dest}
use Rattle.st_schedule.specs.declared.line.Dest.TheVariants as dests
use Rattle.st_schedule.specs.declared.line.Line.{Line}
use Rattle.st_schedule.specs.declared.line.Line.TheVariants as lines
use Rattle.st_schedule.specs.declared.done.Done.TheVariants as done
use Rattle.st_protocol.specs.Words.{Bytes}
use Rattle.st_protocol.specs.Keeping.{given}
use Rattle.st_protocol.specs.Duty.{Event, Deliver, Tick, Reading, Faulty, Clean}
use Rattle.st_protocol.specs.World.{Deployment, BadReference, Stand, Running, Stopped, Full, Node, Pair, World, Stepped, stepped, same_dest, with_waiting, ends, bad_seal, read_known, is_full_by, is_stopped_by, plan_at, comes_to, by_stand, serves, awaits, on_checked_reply, on_reply, client_takes, delivers, is_server}
use Rattle.st_protocol.specs.Schedule.{is_pair, without, drops, Flowing, counts, flows_first, flows, submits, timeout_event, forged_by, is_reference, is_sealable, goes, step, goes_on, steps}
use Rattle.st_frame_laws.specs.Events.{EventHas, IsKeptByEvents}

-- no more pairs are left than there were
pub fewer : (lost : Pair → Bool) (pairs : List Pair) → length (without lost pairs) ≤ length pairs
unfolding without
fewer lost [] = omega arith
fewer lost (p ∷ ps) = by (lost p) (fewer lost ps)
  where
    by : (b : Bool) → length (without lost ps) ≤ length ps → length (cond b (without lost ps) (p ∷ without lost ps)) ≤ suc (length ps)
    by true few = omega (arith, few)
    by false few = omega (arith, few)

module _ {Wire : Type 0} (P : World Wire → Type 0) where
  -- either of two events, with what the test says
  pub if_event : (b : Bool) (x y : Stepped Wire) → (b ≡ true → P x.world) → (b ≡ false → P y.world) → P (cond b x y).world
  if_event true x y h k = h refl
  if_event false x y h k = k refl

  -- what an option chooses, with what the option is
  pub given_event : {A : Type 0} (x : Option A) (none : Stepped Wire) (some : A → Stepped Wire) → (x ≡ None → P none.world) → ((a : A) → x ≡ Some a → P (some a).world) →
      P (given x none some).world
  given_event None none some h k = h refl
  given_event (Some a) none some h k = k a refl

module _ {Wire : Type 0} (d : Deployment Wire) (P : World Wire → Type 0) (D : World Wire → Wire → Type 0) (L : Line → Type 0) (k : IsKeptByEvents d P D L) where
  -- ---- servers

  -- after a plan
  comes_kept : (world : World Wire) (site index : ℕ) (event : Event Wire) → d.faulty site index ≡ false → (world.nodes site index).stand ≡ Running → EventHas (D world) event → P world →
      P (comes_to d world site index (plan_at d world site index event)).world
  unfolding comes_to
  comes_kept world site index event correct runs e h =
      let node : Node = world.nodes site index in
      let plan : Plan = plan_at d world site index event in
      if_event P (is_full_by d node plan) _ _ (λ full. k.fills world site index correct h)
      (λ room.
      if_event P (is_stopped_by d node plan) _ _ (λ stop. k.stops world site index event correct runs e stop h)
      (λ goes. k.settles world site index event correct runs e room goes h))

  -- after an event of a server
  pub serves_kept : (world : World Wire) (site index : ℕ) (event : Event Wire) → EventHas (D world) event → P world → P (serves d world site index event).world
  unfolding serves
  serves_kept world site index event e h = if_event P (d.faulty site index) _ _ (λ faulty. h) (λ correct. by (world.nodes site index).stand refl correct)
    where
      by : (stand : Stand) → (world.nodes site index).stand ≡ stand → d.faulty site index ≡ false → P (by_stand d world site index event stand).world
      by Running runs correct = comes_kept world site index event correct runs e h
      by Stopped stands correct = h
      by Full stands correct = h

  -- ---- clients

  -- after a Reply
  reply_kept : (world : World Wire) (client : ℕ) (wire : Wire) (s : Statement) (signed : Signed) → D world wire → read_known d wire ≡ Clean (messages.Reply s signed) → P world →
      P (on_reply d world client (messages.Reply s signed) s signed).world
  unfolding on_checked_reply
  reply_kept world client wire (Reply site to time number result) signed e reads h =
      let m : Message = messages.Reply (Reply site to time number result) signed in
      if_event P (nat_eq client to.0) _ _
      (λ mine.
      given_event P (bad_seal d m) _ (λ place. stepped world (done.Outcome (Ignored (BadSeal place))))
      (λ good.
      if_event P (is_some ((world.customers client).replies site.0 signed.index)) _ _ (λ seen. h)
      (λ new.
      if_event P (awaits d (world.customers client) time) _ _
      (λ waits. k.answering world client wire site.0 to.0 time number.0 result signed e reads (eqb-true client to.0 mine) good waits new h)
      (λ old. h)))
      (λ place bad. h))
      (λ other. h)
  reply_kept world client wire _ signed e reads h = h

  -- after a message at a client
  client_kept : (world : World Wire) (client : ℕ) (wire : Wire) (r : Reading) → D world wire → read_known d wire ≡ r → P world → P (client_takes d world client r).world
  client_kept world client wire (Faulty reason) e reads h = h
  client_kept world client wire (Clean (messages.Reply s signed)) e reads h = reply_kept world client wire s signed e reads h
  client_kept world client wire (Clean _) e reads h = h

  -- after a delivery
  pub delivers_kept : (world : World Wire) (to : Dest) (wire : Wire) → D world wire → P world → P (delivers d world to wire).world
  unfolding delivers
  delivers_kept world (dests.Server server) wire e h = serves_kept world server.site server.index (Deliver wire) e h
  delivers_kept world (dests.Client client) wire e h = client_kept world client.0 wire (read_known d wire) e refl h

  -- what was sent stays sent
  still_sent : (world : World Wire) (pairs : List Pair) (n : ℕ) (wire : Wire) → slice_get world.sent n ≡ Some wire → slice_get (with_waiting world pairs).sent n ≡ Some wire
  unfolding with_waiting
  still_sent world pairs n wire e = e

  -- after a delivery of what was sent, where fewer pairs wait
  sent_kept : (world : World Wire) (pairs : List Pair) (n : ℕ) (to : Dest) (wire : Wire) → slice_get world.sent n ≡ Some wire → length pairs ≤ length world.waiting → P world →
      P (delivers d (with_waiting world pairs) to wire).world
  sent_kept world pairs n to wire e few h =
      let there : P (with_waiting world pairs) = k.waiting world pairs few h in
      delivers_kept (with_waiting world pairs) to wire (k.sent (with_waiting world pairs) n wire there (still_sent world pairs n wire e)) there

  -- ---- lines

  -- after the oldest pair
  first_kept : (x : Flowing Wire) (pairs : List Pair) → x.world.waiting ≡ pairs → P x.world → P (flows_first d x pairs).world
  unfolding flows_first
  first_kept x [] is h = h
  first_kept x (p ∷ ps) is h = by (slice_get x.world.sent p.message) refl
    where
      by : (wire : Option Wire) → slice_get x.world.sent p.message ≡ wire → P (given wire x (λ sent. counts d x (delivers d (with_waiting x.world ps) p.to sent))).world
      by None e = h
      by (Some sent) e = sent_kept x.world ps p.message p.to sent e (let all = ap length is in omega (arith, all)) h

  -- after a flow
  pub flows_kept : (n : ℕ) (x : Flowing Wire) → P x.world → P (flows d n x).world
  unfolding flows
  flows_kept zero x h = h
  flows_kept (suc n) x h = flows_kept n (flows_first d x x.world.waiting) (first_kept x x.world.waiting refl h)

  -- after a client's update
  submits_kept : (world : World Wire) (client : ℕ) (op : Bytes) → L (lines.Client (record { 0 = client }) op) → nat_lt client d.clients ≡ true → P world → P (submits d world client op).world
  unfolding submits
  submits_kept world client op l known h = if_event P (nat_le d.capacity (world.customers client).time) _ _ (λ spent. h) (λ left. k.submitting world client op l known left h)

  -- after lost pairs
  drops_kept : (world : World Wire) (lost : Pair → Bool) → P world → P (drops d world lost).world
  unfolding drops
  drops_kept world lost h = k.waiting world (without lost world.waiting) (fewer lost world.waiting) h

  -- no wire comes with a timeout
  timeout_has : (world : World Wire) (global : Bool) → EventHas (D world) (timeout_event global)
  timeout_has world false = tt
  timeout_has world true = tt

  -- after a line of which all is there
  goes_kept : (world : World Wire) (line : Line) → L line → is_reference d world line ≡ true → P world → P (goes d world line).world
  goes_kept world (lines.Client client op) l there h = submits_kept world client.0 op l there h
  goes_kept world (lines.Deliver m to) l there h =
      given_event P (slice_get world.sent m) (stepped world (done.Dropped 0)) (λ wire. delivers d (with_waiting world (without (is_pair m to) world.waiting)) to wire) (λ none. h)
      (λ wire e. sent_kept world (without (is_pair m to) world.waiting) m to wire e (fewer (is_pair m to) world.waiting) h)
  goes_kept world (lines.Drop m to) l there h = drops_kept world (is_pair m to) h
  goes_kept world (lines.Lose to) l there h = drops_kept world (λ p. same_dest p.to to) h
  goes_kept world (lines.Flow n) l there h = flows_kept n (record { world = world; pairs = 0; did = 0; ignored = 0 }) h
  goes_kept world (lines.Timeout server global) l there h = serves_kept world server.site server.index (timeout_event global) (timeout_has world global) h
  goes_kept world (lines.Tick server) l there h = serves_kept world server.site server.index Tick tt h
  goes_kept world (lines.Stop server call) l there h = k.setting world server.site server.index call there h
  goes_kept world (lines.Restart server kept) l there h = k.restarting world server.site server.index kept there h
  goes_kept world (lines.Seal server s) l there h =
      let one = and_parts _ (nat_lt (world.leaves server.site server.index) d.capacity) there in
      let two = and_parts _ (is_sealable d server.site server.index s) one.0 in
      let three = and_parts (is_server d server.site server.index) (d.faulty server.site server.index) two.0 in
      k.sealing world server.site server.index s l three.0 three.1 two.1 one.1 h
  goes_kept world (lines.Raw to bytes) l there h =
      given_event P (forged_by d world (d.formats.read (d.formats.raw bytes))) (delivers d world to (d.formats.raw bytes)) (λ fault. stepped (ends world (Some fault)) (done.Dropped 0))
      (λ fair. delivers_kept world to (d.formats.raw bytes) (k.outside world to bytes l fair h) h) (λ fault e. k.ending world (Some fault) h)
  goes_kept world (lines.Show m) l there h =
      given_event P (slice_get world.sent m) (stepped world (done.Dropped 0)) (λ wire. stepped world (done.Shown (d.formats.bytes wire))) (λ none. h) (λ wire e. h)

  -- After a line.
  pub step_kept : (world : World Wire) (line : Line) → L line → P world → P (step d world line).world
  unfolding step
  step_kept world line l h = if_event P (is_reference d world line) _ _ (λ there. goes_kept world line l there h) (λ missing. k.ending world (Some BadReference) h)

  -- After all lines.
  pub steps_kept : (world : World Wire) (all : List Line) → Each L all → P world → P (steps d world all)
  steps_kept world [] l h = h
  steps_kept world (line ∷ more) l h = steps_kept (goes_on d world line) more l.1 (step_kept world line l.0 h)
