-- What each event of a world keeps: an invariant of worlds, by its cases.
use Rattle.std.specs.Prelude.{◌≡◌, ◌≤◌, ℕ, ◌+◌, Bool, true, false, List, length, Option, Some, None, is_some, nat_lt, nat_le, slice_get}
use Rattle.st_words.specs.declared.statement.Statement.{Statement}
use Rattle.st_words.specs.declared.statement.Statement.TheVariants.{Reply, ClientUpdate}
use Rattle.st_seal.specs.declared.quorum.Signed.{Signed}
use Rattle.st_message.specs.declared.message.Message.TheVariants as messages
use Rattle.st_message.specs.declared.event.Scope.TheVariants as scopes
use Rattle.st_schedule.specs.declared.line.Dest.{Dest}
use Rattle.st_schedule.specs.declared.line.Line.{Line}
use Rattle.st_schedule.specs.declared.line.Line.TheVariants as lines
use Rattle.st_protocol.specs.Words.{Bytes, client_at, an_update}
use Rattle.st_protocol.specs.Duty.{Event, Deliver, LocalTimeout, GlobalTimeout, Tick, Clean}
use Rattle.st_protocol.specs.World.{Deployment, Fault, Running, Pair, Customer, World, with_node, with_customer, with_waiting, ends, hands, bad_seal, read_known, dests_of, sends_to, hands_out, settled, is_full_by, is_stopped_by, stands_full, stands_stopped, plan_at, with_reply, answered, awaits, is_server, is_correct}
use Rattle.st_protocol.specs.Schedule.{set_to_stop, restarted, seals, forged_by, is_sealable}

-- what is delivered at an event
abbrev pub EventHas : {Wire : Type 0} → (Wire → Type 0) → Event Wire → Type 0
EventHas D (Deliver wire) = D wire
EventHas D LocalTimeout = Unit {0}
EventHas D GlobalTimeout = Unit {0}
EventHas D Tick = Unit {0}

-- a client that waits for this update
abbrev pub waits_at : ℕ → Customer
waits_at time = record { time = time; waits = true; replies = λ s i. None; result = None }

-- P is kept by each event. L holds of the lines, and D of what may be delivered: of what was sent, and of bytes from
-- outside in which no seal is forged.
pub record IsKeptByEvents {Wire : Type 0} (d : Deployment Wire) (P : World Wire → Type 0) (D : World Wire → Wire → Type 0) (L : Line → Type 0) : Type 0 where
  pub sent : (world : World Wire) (n : ℕ) (wire : Wire) → P world → slice_get world.sent n ≡ Some wire → D world wire
  pub outside : (world : World Wire) (to : Dest) (bytes : Bytes) → L (lines.Raw to bytes) → forged_by d world (d.formats.read (d.formats.raw bytes)) ≡ None → P world →
      D world (d.formats.raw bytes)
  -- a server that runs: its plan is handed out, or it is full, or a device call fails
  pub settles : (world : World Wire) (site index : ℕ) (event : Event Wire) → d.faulty site index ≡ false → (world.nodes site index).stand ≡ Running → EventHas (D world) event →
      is_full_by d (world.nodes site index) (plan_at d world site index event) ≡ false → is_stopped_by d (world.nodes site index) (plan_at d world site index event) ≡ false → P world →
      P (hands_out d site index (with_node world site index (settled d (world.nodes site index) (plan_at d world site index event))) (plan_at d world site index event).outputs)
  pub fills : (world : World Wire) (site index : ℕ) → d.faulty site index ≡ false → P world → P (with_node world site index (stands_full d (world.nodes site index)))
  pub stops : (world : World Wire) (site index : ℕ) (event : Event Wire) → d.faulty site index ≡ false → (world.nodes site index).stand ≡ Running → EventHas (D world) event →
      is_stopped_by d (world.nodes site index) (plan_at d world site index event) ≡ true → P world →
      P (with_node world site index (stands_stopped d (world.nodes site index) (plan_at d world site index event).changes))
  -- a stop is set, a server is started again
  pub setting : (world : World Wire) (site index call : ℕ) → is_correct d site index ≡ true → P world → P (with_node world site index (set_to_stop (world.nodes site index) call))
  pub restarting : (world : World Wire) (site index : ℕ) (kept : Bool) → is_correct d site index ≡ true → P world →
      P (with_node world site index (restarted d (world.nodes site index) kept))
  -- a client: its next update, and a Reply that it awaits
  pub submitting : (world : World Wire) (client : ℕ) (op : Bytes) → L (lines.Client (record { 0 = client }) op) → nat_lt client d.clients ≡ true →
      nat_le d.capacity (world.customers client).time ≡ false → P world →
      P (sends_to d
      (hands (with_customer world client (waits_at ((world.customers client).time + 1))) (client_at client) (world.customers client).time (ClientUpdate (an_update client ((world.customers client).time + 1) op)))
      (d.formats.encode (messages.Update (an_update client ((world.customers client).time + 1) op)
      (d.formats.seal (client_at client) (world.customers client).time (ClientUpdate (an_update client ((world.customers client).time + 1) op)))))
      (dests_of d scopes.All))
  pub answering : (world : World Wire) (client : ℕ) (wire : Wire) (site to time number : ℕ) (result : Bytes) (signed : Signed) → D world wire →
      read_known d wire ≡ Clean (messages.Reply (Reply (record { 0 = site }) (record { 0 = to }) time (record { 0 = number }) result) signed) → client ≡ to →
      bad_seal d (messages.Reply (Reply (record { 0 = site }) (record { 0 = to }) time (record { 0 = number }) result) signed) ≡ None →
      awaits d (world.customers client) time ≡ true → is_some ((world.customers client).replies site signed.index) ≡ false → P world →
      P (with_customer world client
      (answered d (with_reply d (world.customers client) site signed.index (record { number = number; result = result })) site (record { number = number; result = result })))
  -- a faulty server's seal
  pub sealing : (world : World Wire) (site index : ℕ) (s : Statement) → L (lines.Seal (record { site = site; index = index }) s) → is_server d site index ≡ true → d.faulty site index ≡ true →
      is_sealable d site index s ≡ true → nat_lt (world.leaves site index) d.capacity ≡ true → P world → P (seals d world site index s).world
  -- pairs are delivered or lost, and the world ends
  pub waiting : (world : World Wire) (pairs : List Pair) → length pairs ≤ length world.waiting → P world → P (with_waiting world pairs)
  pub ending : (world : World Wire) (fault : Option Fault) → P world → P (ends world fault)
