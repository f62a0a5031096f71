-- What the event lines of a schedule do to a world, one by one.
use Rattle.std.specs.Prelude.{ℕ, ◌+◌, ◌-◌, ◌%◌, Bool, true, false, cond, zero, suc, nat_eq, nat_lt, nat_le, ◌&&◌, ◌||◌, not, Option, Some, None, List, [], ◌∷◌, ◌++◌, length, slice_get}
use Rattle.std.specs.List.{fold}
use Rattle.st_words.specs.declared.ids.Who.{Who}
use Rattle.st_words.specs.declared.ids.Who.TheVariants as parties
use Rattle.st_words.specs.declared.value.Update.{Update}
use Rattle.st_words.specs.declared.value.Value.{Value}
use Rattle.st_words.specs.declared.value.Value.TheVariants as values
use Rattle.st_words.specs.declared.statement.Statement.{Statement}
use Rattle.st_words.specs.declared.statement.Statement.TheVariants.{Prepare, LocalReport, GlobalReport, Reply, ClientUpdate}
use Rattle.st_seal.specs.declared.quorum.Signed.{Signed}
use Rattle.st_message.specs.declared.message.Message.{Message}
use Rattle.st_message.specs.declared.message.Message.TheVariants as messages
use Rattle.st_message.specs.declared.event.Scope.TheVariants as scopes
use Rattle.st_message.specs.declared.event.Outcome.TheVariants.{Did, Ignored}
use Rattle.st_schedule.specs.declared.line.Dest.{Dest}
use Rattle.st_schedule.specs.declared.line.Dest.TheVariants as dests
use Rattle.st_schedule.specs.declared.line.Line.{Line}
use Rattle.st_schedule.specs.declared.line.Line.TheVariants as lines
use Rattle.st_schedule.specs.declared.done.Done.{Done}
use Rattle.st_schedule.specs.declared.done.Done.TheVariants as done
use Rattle.st_protocol.specs.Words.{Bytes, server_at, client_at, an_update, site_of}
use Rattle.st_protocol.specs.Keeping.{given}
use Rattle.st_protocol.specs.Duty.{Event, LocalTimeout, GlobalTimeout, Tick, Reading, Faulty, Clean}
use Rattle.st_protocol.specs.World.{SealIn, Deployment, BadReference, Forged, Fault, Running, Node, Pair, Customer, World, empty, same_dest, has_made, first_bad, with_node, with_customer, with_waiting, uses_leaf, ends, hands, Stepped, stepped, is_server, is_correct, checks_in, dests_of, sends_to, serves, delivers}

-- a line that sets no device call to fail
abbrev pub sets_no_stop : Line → Bool
sets_no_stop (lines.Stop server call) = false
sets_no_stop _ = true

-- ---- the undelivered pairs

-- this message to this destination
abbrev pub is_pair : ℕ → Dest → Pair → Bool
is_pair m to pair = nat_eq pair.message m && same_dest pair.to to

-- the pairs that don't pass the test
unfoldable pub without : (Pair → Bool) → List Pair → List Pair
without test [] = []
without test (p ∷ ps) = cond (test p) (without test ps) (p ∷ without test ps)

-- a pair passes the test
unfoldable pub has_pair : (Pair → Bool) → List Pair → Bool
has_pair test [] = false
has_pair test (p ∷ ps) = test p || has_pair test ps

-- ---- a flow

-- A world on its way, and how many pairs were delivered, and of those events did something or were ignored.
pub record Flowing (Wire : Type 0) : Type 0 where
  pub world : World Wire
  pub pairs : ℕ
  pub did : ℕ
  pub ignored : ℕ

-- 1 where the event did something
abbrev pub did_by : Done → ℕ
did_by (done.Outcome Did) = 1
did_by _ = 0

-- 1 where the event was ignored
abbrev pub ignored_by : Done → ℕ
ignored_by (done.Outcome (Ignored reason)) = 1
ignored_by _ = 0

-- ---- a faulty server's seal

-- the message over a statement that it sealed
abbrev pub sealed_message : Statement → Signed → Message
sealed_message (Reply site client time number result) signed = messages.Reply (Reply site client time number result) signed
sealed_message (LocalReport site local index view base items) signed =
    messages.Report (record { statement = LocalReport site local index view base items; seal = signed.seal; quorums = []; base = None })
sealed_message (GlobalReport site view index base items) signed =
    messages.Report (record { statement = GlobalReport site view index base items; seal = signed.seal; quorums = []; base = None })
sealed_message s signed = messages.Share s signed

-- ---- a restart

-- this device call from now on fails
abbrev pub set_to_stop : Node → ℕ → Node
set_to_stop node call = record node { stop = call }

-- the timeout of a local view, or of a view
abbrev pub timeout_event : {Wire : Type 0} → Bool → Event Wire
timeout_event false = LocalTimeout
timeout_event true = GlobalTimeout

module _ {Wire : Type 0} (d : Deployment Wire) where
  -- The pairs that pass the test are lost.
  unfoldable pub drops : World Wire → (Pair → Bool) → Stepped Wire
  drops world test =
      stepped (with_waiting world (without test world.waiting)) (done.Dropped (length world.waiting - length (without test world.waiting)))

  -- one delivery more
  abbrev pub counts : Flowing Wire → Stepped Wire → Flowing Wire
  counts x st = record { world = st.world; pairs = x.pairs + 1; did = x.did + did_by st.done; ignored = x.ignored + ignored_by st.done }

  -- the oldest pair is delivered, if there is one
  unfoldable pub flows_first : Flowing Wire → List Pair → Flowing Wire
  flows_first x [] = x
  flows_first x (p ∷ ps) =
      given (slice_get x.world.sent p.message) x (λ wire. counts x (delivers d (with_waiting x.world ps) p.to wire))

  -- So many times the oldest pair is delivered.
  unfoldable pub flows : ℕ → Flowing Wire → Flowing Wire
  flows zero x = x
  flows (suc k) x = flows k (flows_first x x.world.waiting)

  -- what a flow came to
  abbrev pub flowed : Flowing Wire → Stepped Wire
  flowed x = stepped x.world (done.Flowed x.pairs x.did x.ignored)

  -- a client seals its next update: the one of time t with leaf t-1
  unfoldable pub submits : World Wire → ℕ → Bytes → Stepped Wire
  submits world client op =
      let used : ℕ = (world.customers client).time in
      let update : Update = an_update client (used + 1) op in
      let waits : Customer = record { time = used + 1; waits = true; replies = λ s i. None; result = None } in
      cond (nat_le d.capacity used) (stepped world (done.SealsSpent used))
      (stepped
      (sends_to d
      (hands (with_customer world client waits) (client_at client) used (ClientUpdate update))
      (d.formats.encode (messages.Update update (d.formats.seal (client_at client) used (ClientUpdate update))))
      (dests_of d scopes.All))
      (done.Sent (length world.sent)))

  -- the heard list is empty, a set stop is cleared, and a failed event's changes are there where they may and the line says so
  abbrev pub restarted : Node → Bool → Node
  restarted node kept =
      given (cond kept node.apart None)
      (record { bodies = node.bodies; heard = []; stand = Running; stop = 0; apart = None; bytes = node.bytes })
      (λ changes. record { bodies = node.bodies ++ changes ∷ []; heard = []; stand = Running; stop = 0; apart = None; bytes = node.bytes + d.formats.body_size changes })

  -- the client's own seal, where it made that update
  abbrev pub client_seal_of : World Wire → Value → Bytes
  client_seal_of world values.Noop = []
  client_seal_of world (values.Update u) =
      cond (has_made world.made (parties.Client u.client) (ClientUpdate u)) (d.formats.seal (parties.Client u.client) (u.time - 1) (ClientUpdate u)) []

  -- A sealed Prepare goes out as an assignment too.
  unfoldable pub then_assigns : World Wire → Statement → Signed → World Wire
  then_assigns world (Prepare site view local number value) signed =
      sends_to d world (d.formats.encode (messages.Assign view local number value (client_seal_of world value) signed)) []
  then_assigns world s signed = world

  -- A faulty server seals a statement with its next leaf; the message goes nowhere by itself.
  unfoldable pub seals : World Wire → ℕ → ℕ → Statement → Stepped Wire
  seals world site index s =
      let signed : Signed = record { index = index; seal = d.formats.seal (server_at site index) (world.leaves site index) s } in
      stepped
      (then_assigns (sends_to d (uses_leaf world site index) (d.formats.encode (sealed_message s signed)) []) s signed)
      (done.Sent (length world.sent))

  -- ---- forged bytes

  -- a correct server, or a client
  abbrev pub is_correct_who : Who → Bool
  is_correct_who (parties.Server server) = is_correct d server.site server.index
  is_correct_who (parties.Client client) = nat_lt client.0 d.clients

  -- not a seal that checks, named as a correct party's, over a statement which that party hasn't made
  abbrev pub is_honest : World Wire → SealIn → Bool
  is_honest world x = not (is_correct_who x.who && checks_in d x && not (has_made world.made x.who x.statement))

  -- a message that holds a forged seal ends the world
  abbrev pub forged_by : World Wire → Reading → Option Fault
  forged_by world (Faulty reason) = None
  forged_by world (Clean m) = given (first_bad (is_honest world) (d.formats.seals_in m)) None (λ place. Some (Forged place))

  -- ---- references

  -- a destination that there is
  abbrev pub is_dest : Dest → Bool
  is_dest (dests.Server server) = is_server d server.site server.index
  is_dest (dests.Client client) = nat_lt client.0 d.clients

  -- a statement that a faulty server of this place may seal
  abbrev pub is_sealable : ℕ → ℕ → Statement → Bool
  is_sealable site index (Prepare s view local number value) = nat_eq s.0 site && nat_eq (view.0 % d.sites) site
  is_sealable site index (LocalReport s local i view base items) = nat_eq s.0 site && nat_eq i index
  is_sealable site index (GlobalReport s view i base items) = nat_eq s.0 site && nat_eq i index
  is_sealable site index s = nat_eq (site_of s) site

  -- what the line names is there, and may do what the line says
  abbrev pub is_reference : World Wire → Line → Bool
  is_reference world (lines.Client client op) = nat_lt client.0 d.clients
  is_reference world (lines.Deliver m to) = nat_lt m (length world.sent) && is_dest to
  is_reference world (lines.Drop m to) = has_pair (is_pair m to) world.waiting
  is_reference world (lines.Lose to) = is_dest to
  is_reference world (lines.Flow k) = true
  is_reference world (lines.Timeout server global) = is_correct d server.site server.index
  is_reference world (lines.Tick server) = is_correct d server.site server.index
  is_reference world (lines.Stop server call) = is_correct d server.site server.index
  is_reference world (lines.Restart server kept) = is_correct d server.site server.index
  is_reference world (lines.Seal server s) =
      is_server d server.site server.index
      && d.faulty server.site server.index
      && is_sealable server.site server.index s
      && nat_lt (world.leaves server.site server.index) d.capacity
  is_reference world (lines.Raw to bytes) = is_dest to
  is_reference world (lines.Show m) = nat_lt m (length world.sent)

  -- ---- the lines, one by one

  -- what a line does, where all that it names is there
  abbrev pub goes : World Wire → Line → Stepped Wire
  goes world (lines.Client client op) = submits world client.0 op
  goes world (lines.Deliver m to) =
      given (slice_get world.sent m) (stepped world (done.Dropped 0)) (λ wire. delivers d (with_waiting world (without (is_pair m to) world.waiting)) to wire)
  goes world (lines.Drop m to) = drops world (is_pair m to)
  goes world (lines.Lose to) = drops world (λ p. same_dest p.to to)
  goes world (lines.Flow k) = flowed (flows k (record { world = world; pairs = 0; did = 0; ignored = 0 }))
  goes world (lines.Timeout server global) = serves d world server.site server.index (timeout_event global)
  goes world (lines.Tick server) = serves d world server.site server.index Tick
  goes world (lines.Stop server call) =
      stepped (with_node world server.site server.index (set_to_stop (world.nodes server.site server.index) call)) done.Set
  goes world (lines.Restart server kept) =
      stepped (with_node world server.site server.index (restarted (world.nodes server.site server.index) kept)) done.Running
  goes world (lines.Seal server s) = seals world server.site server.index s
  goes world (lines.Raw to bytes) =
      given (forged_by world (d.formats.read (d.formats.raw bytes)))
      (delivers d world to (d.formats.raw bytes))
      (λ fault. stepped (ends world (Some fault)) (done.Dropped 0))
  goes world (lines.Show m) = given (slice_get world.sent m) (stepped world (done.Dropped 0)) (λ wire. stepped world (done.Shown (d.formats.bytes wire)))

  -- One event line. A bad reference ends the world.
  unfoldable pub step : World Wire → Line → Stepped Wire
  step world line = cond (is_reference world line) (goes world line) (stepped (ends world (Some BadReference)) (done.Dropped 0))

  -- the world after a line
  abbrev pub goes_on : World Wire → Line → World Wire
  goes_on world line = (step world line).world

  -- the world after lines
  abbrev pub steps : World Wire → List Line → World Wire
  steps world all = fold goes_on world all

  -- The world of these lines.
  abbrev pub world_of : List Line → World Wire
  world_of all = steps empty all

  -- what each line came to
  unfoldable pub dones : World Wire → List Line → List Done
  dones world [] = []
  dones world (line ∷ more) = (step world line).done ∷ dones (step world line).world more
