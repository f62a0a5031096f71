-- What the parts of a delivery keep, a server's event, a delivery, a flow, a client's update and a whole line that sets
-- no stop keep too.
use Rattle.std.proofs.Common.{◌≡◌, ◌≤◌, ℕ, ◌+◌, Bool, true, false, cond, zero, suc, nat_eq, List, [], ◌∷◌, length, refl, ap, arith}
use Rattle.std.specs.Prelude.{Option, Some, None, is_some, nat_le, slice_get}
use Rattle.st_words.specs.declared.ids.Who.{Who}
use Rattle.st_words.specs.declared.statement.Statement.{Statement}
use Rattle.st_words.specs.declared.statement.Statement.TheVariants.{Reply, ClientUpdate}
use Rattle.st_words.specs.declared.value.Update.{Update}
use Rattle.st_seal.specs.declared.quorum.Signed.{Signed}
use Rattle.st_message.specs.declared.message.Message.{Message}
use Rattle.st_message.specs.declared.message.Message.TheVariants as messages
use Rattle.st_message.specs.declared.event.Outcome.TheVariants.{Ignored}
use Rattle.st_message.specs.declared.event.Output.{Output}
use Rattle.st_message.specs.declared.event.Plan.{Plan}
use Rattle.st_message.specs.declared.event.Scope.{Scope}
use Rattle.st_message.specs.declared.event.Scope.TheVariants as scopes
use Rattle.st_message.specs.declared.reason.Reason.TheVariants.{BadSeal}
use Rattle.st_schedule.specs.declared.line.Dest.{Dest}
use Rattle.st_schedule.specs.declared.line.Dest.TheVariants as dests
use Rattle.st_schedule.specs.declared.line.Line.{Line}
use Rattle.st_schedule.specs.declared.line.Line.TheVariants as lines
use Rattle.st_schedule.specs.declared.done.Done.TheVariants as done
use Rattle.st_protocol.specs.Words.{Bytes, server_at, client_at, an_update}
use Rattle.st_protocol.specs.Keeping.{given}
use Rattle.st_protocol.specs.Duty.{Event, Deliver, Tick, Reading, Faulty, Clean}
use Rattle.st_protocol.specs.World.{Deployment, Fault, BadReference, Stand, Running, Stopped, Full, Node, Pair, Answered, Customer, World, Stepped, stepped, handed, same_dest, with_node, with_customer, with_waiting, ends, hands, bad_seal, read_known, dests_of, sends_to, notes_seal, hands_one, hands_out, settled, is_full_by, is_stopped_by, stands_full, stands_stopped, plan_at, comes_to, by_stand, serves, with_reply, answered, awaits, on_checked_reply, on_reply, client_takes, delivers}
use Rattle.st_protocol.specs.Schedule.{sets_no_stop, is_pair, without, drops, Flowing, counts, flows_first, flows, submits, timeout_event, set_to_stop, restarted, seals, forged_by, is_reference, goes, step}

-- A fact of a world that the parts keep: a server's event, a server started again, a faulty server's seal, and each
-- small change that clients and messages make. What waits only gets less by itself.
pub record IsKept {Wire : Type 0} (d : Deployment Wire) (P : World Wire → Type 0) : Type 0 where
  pub serving : (world : World Wire) (site index : ℕ) (event : Event Wire) → P world → P (serves d world site index event).world
  pub client : (world : World Wire) (client : ℕ) (customer : Customer) → P world → P (with_customer world client customer)
  pub waiting : (world : World Wire) (pairs : List Pair) → length pairs ≤ length world.waiting → P world → P (with_waiting world pairs)
  pub handing : (world : World Wire) (who : Who) (leaf : ℕ) (s : Statement) → P world → P (hands world who leaf s)
  pub sending : (world : World Wire) (wire : Wire) (to : Scope) → P world → P (sends_to d world wire (dests_of d to))
  pub ending : (world : World Wire) (fault : Option Fault) → P world → P (ends world fault)
  pub restarting : (world : World Wire) (site index : ℕ) (kept : Bool) → P world → P (with_node world site index (restarted d (world.nodes site index) kept))
  pub sealing : (world : World Wire) (site index : ℕ) (s : Statement) → P world → P (seals d world site index s).world

-- A fact of a world that is kept by a change of a server, and by what a server hands out.
pub record IsKeptByServers {Wire : Type 0} (d : Deployment Wire) (P : World Wire → Type 0) : Type 0 where
  pub changing : (world : World Wire) (site index : ℕ) (node : Node) → P world → P (with_node world site index node)
  pub handing : (world : World Wire) (who : Who) (leaf : ℕ) (s : Statement) → P world → P (hands world who leaf s)
  pub sending : (world : World Wire) (wire : Wire) (to : Scope) → P world → P (sends_to d world wire (dests_of d to))

-- Where the line sets a stop, the fact holds with the stop set.
abbrev pub StopKept : {Wire : Type 0} → Deployment Wire → (World Wire → Type 0) → World Wire → Line → Type 0
StopKept d P world (lines.Stop server call) = P (with_node world server.site server.index (set_to_stop (world.nodes server.site server.index) call))
StopKept d P world _ = Unit {0}

-- no more pairs are left than there were
length-without : (lost : Pair → Bool) (pairs : List Pair) → length (without lost pairs) ≤ length pairs
unfolding without
length-without lost [] = omega arith
length-without lost (p ∷ ps) = by (lost p) (length-without lost ps)
  where
    by : (b : Bool) → length (without lost ps) ≤ length ps → length (cond b (without lost ps) (p ∷ without lost ps)) ≤ suc (length ps)
    by true fewer = omega (arith, fewer)
    by false fewer = omega (arith, fewer)

module _ {Wire : Type 0} (d : Deployment Wire) (P : World Wire → Type 0) where
  -- after either of two events
  pub if_kept : (b : Bool) (x y : Stepped Wire) → P x.world → P y.world → P (cond b x y).world
  if_kept true x y h k = h
  if_kept false x y h k = k

  -- after what an option chooses
  pub given_kept : {A : Type 0} (x : Option A) (none : Stepped Wire) (some : A → Stepped Wire) → P none.world → ((a : A) → P (some a).world) →
      P (given x none some).world
  given_kept None none some h k = h
  given_kept (Some a) none some h k = k a

  module _ (kept : IsKeptByServers d P) where
    -- where a seal is noted
    notes_kept : (site index : ℕ) (world : World Wire) (o : Output) → P world → P (notes_seal d site index world o)
    unfolding notes_seal
    notes_kept site index world o h = by_leaf o.leaf (handed site o.message)
      where
        by_leaf : (leaf : Option ℕ) (x : Option Statement) → P (given leaf world (λ n. given x world (λ s. hands world (server_at site index) n s)))
        by_leaf None x = h
        by_leaf (Some n) None = h
        by_leaf (Some n) (Some s) = kept.handing world (server_at site index) n s h

    -- after one message of a server's
    pub hands_one_kept : (site index : ℕ) (world : World Wire) (o : Output) → P world → P (hands_one d site index world o)
    unfolding hands_one
    hands_one_kept site index world o h = kept.sending (notes_seal d site index world o) (d.formats.encode o.message) o.to (notes_kept site index world o h)

    -- after all messages of a server's
    pub hands_out_kept : (site index : ℕ) (world : World Wire) (outputs : List Output) → P world → P (hands_out d site index world outputs)
    hands_out_kept site index world [] h = h
    hands_out_kept site index world (o ∷ os) h = hands_out_kept site index (hands_one d site index world o) os (hands_one_kept site index world o h)

    -- after a plan
    comes_to_kept : (world : World Wire) (site index : ℕ) (plan : Plan) → P world → P (comes_to d world site index plan).world
    unfolding comes_to
    comes_to_kept world site index plan h =
        let node : Node = world.nodes site index in
        if_kept (is_full_by d node plan) _ _
        (kept.changing world site index (stands_full d node) h)
        (if_kept (is_stopped_by d node plan) _ _
        (kept.changing world site index (stands_stopped d node plan.changes) h)
        (hands_out_kept site index (with_node world site index (settled d node plan)) plan.outputs
        (kept.changing world site index (settled d node plan) h)))

    -- after an event of a server that isn't faulty
    stand_kept : (world : World Wire) (site index : ℕ) (event : Event Wire) (stand : Stand) → P world → P (by_stand d world site index event stand).world
    stand_kept world site index event Running h = comes_to_kept world site index (plan_at d world site index event) h
    stand_kept world site index event Stopped h = h
    stand_kept world site index event Full h = h

    -- after an event of a server
    pub serves_kept : (world : World Wire) (site index : ℕ) (event : Event Wire) → P world → P (serves d world site index event).world
    unfolding serves
    serves_kept world site index event h =
        if_kept (d.faulty site index) _ _ h (stand_kept world site index event (world.nodes site index).stand h)

  module _ (kept : IsKept d P) where
    -- after a Reply whose seal checks
    checked_kept : (world : World Wire) (client : ℕ) (customer : Customer) (site index time : ℕ) (a : Answered) → P world →
        P (on_checked_reply d world client customer site index time a).world
    unfolding on_checked_reply
    checked_kept world client customer site index time a h =
        if_kept (is_some (customer.replies site index)) _ _ h
        (if_kept (awaits d customer time) _ _ (kept.client world client (answered d (with_reply d customer site index a) site a) h) h)

    -- after a Reply
    reply_kept : (world : World Wire) (client : ℕ) (m : Message) (s : Statement) (signed : Signed) → P world → P (on_reply d world client m s signed).world
    reply_kept world client m (Reply site to time number result) signed h =
        if_kept (nat_eq client to.0) _ _
        (given_kept (bad_seal d m) _ (λ place. stepped world (done.Outcome (Ignored (BadSeal place))))
        (checked_kept world client (world.customers client) site.0 signed.index time (record { number = number.0; result = result }) h) (λ place. h))
        h
    reply_kept world client m _ signed h = h

    -- after a message at a client
    client_kept : (world : World Wire) (client : ℕ) (r : Reading) → P world → P (client_takes d world client r).world
    client_kept world client (Faulty reason) h = h
    client_kept world client (Clean (messages.Reply s signed)) h = reply_kept world client (messages.Reply s signed) s signed h
    client_kept world client (Clean _) h = h

    -- after a delivery
    pub delivers_kept : (world : World Wire) (to : Dest) (wire : Wire) → P world → P (delivers d world to wire).world
    unfolding delivers
    delivers_kept world (dests.Server server) wire h = kept.serving world server.site server.index (Deliver wire) h
    delivers_kept world (dests.Client client) wire h = client_kept world client.0 (read_known d wire) h

    -- after the oldest pair
    first_kept : (x : Flowing Wire) (pairs : List Pair) → x.world.waiting ≡ pairs → P x.world → P (flows_first d x pairs).world
    unfolding flows_first
    first_kept x [] is h = h
    first_kept x (p ∷ ps) is h = by_wire (slice_get x.world.sent p.message)
      where
        by_wire : (wire : Option Wire) → P (given wire x (λ sent. counts d x (delivers d (with_waiting x.world ps) p.to sent))).world
        by_wire None = h
        by_wire (Some sent) = delivers_kept (with_waiting x.world ps) p.to sent (kept.waiting x.world ps (let all = ap length is in omega (arith, all)) h)

    -- after a flow
    pub flows_kept : (k : ℕ) (x : Flowing Wire) → P x.world → P (flows d k x).world
    unfolding flows
    flows_kept zero x h = h
    flows_kept (suc k) x h = flows_kept k (flows_first d x x.world.waiting) (first_kept x x.world.waiting refl h)

    -- after a client's update
    pub submits_kept : (world : World Wire) (client : ℕ) (op : Bytes) → P world → P (submits d world client op).world
    unfolding submits
    submits_kept world client op h =
        let used : ℕ = (world.customers client).time in
        let update : Update = an_update client (used + 1) op in
        let waits : Customer = record { time = used + 1; waits = true; replies = λ s i. None; result = None } in
        if_kept (nat_le d.capacity used) _ _ h
        (kept.sending (hands (with_customer world client waits) (client_at client) used (ClientUpdate update))
        (d.formats.encode (messages.Update update (d.formats.seal (client_at client) used (ClientUpdate update))))
        scopes.All
        (kept.handing (with_customer world client waits) (client_at client) used (ClientUpdate update)
        (kept.client world client waits h)))

    -- where pairs are lost
    fewer_kept : (world : World Wire) (lost : Pair → Bool) → P world → P (with_waiting world (without lost world.waiting))
    fewer_kept world lost h = kept.waiting world (without lost world.waiting) (length-without lost world.waiting) h

    -- after lost pairs
    drops_kept : (world : World Wire) (lost : Pair → Bool) → P world → P (drops d world lost).world
    unfolding drops
    drops_kept world lost h = fewer_kept world lost h

    -- after a line, where a stop that it sets keeps the fact too
    pub goes_kept : (world : World Wire) (line : Line) → StopKept d P world line → P world → P (goes d world line).world
    goes_kept world (lines.Client client op) stop h = submits_kept world client.0 op h
    goes_kept world (lines.Deliver m to) stop h =
        given_kept (slice_get world.sent m) (stepped world (done.Dropped 0)) (λ wire. delivers d (with_waiting world (without (is_pair m to) world.waiting)) to wire) h
        (λ wire. delivers_kept (with_waiting world (without (is_pair m to) world.waiting)) to wire (fewer_kept world (is_pair m to) h))
    goes_kept world (lines.Drop m to) stop h = drops_kept world (is_pair m to) h
    goes_kept world (lines.Lose to) stop h = drops_kept world (λ p. same_dest p.to to) h
    goes_kept world (lines.Flow k) stop h = flows_kept k (record { world = world; pairs = 0; did = 0; ignored = 0 }) h
    goes_kept world (lines.Timeout server global) stop h = kept.serving world server.site server.index (timeout_event global) h
    goes_kept world (lines.Tick server) stop h = kept.serving world server.site server.index Tick h
    goes_kept world (lines.Stop server call) stop h = stop
    goes_kept world (lines.Restart server again) stop h = kept.restarting world server.site server.index again h
    goes_kept world (lines.Seal server s) stop h = kept.sealing world server.site server.index s h
    goes_kept world (lines.Raw to bytes) stop h =
        given_kept (forged_by d world (d.formats.read (d.formats.raw bytes))) (delivers d world to (d.formats.raw bytes)) (λ fault. stepped (ends world (Some fault)) (done.Dropped 0))
        (delivers_kept world to (d.formats.raw bytes) h) (λ fault. kept.ending world (Some fault) h)
    goes_kept world (lines.Show m) stop h =
        given_kept (slice_get world.sent m) (stepped world (done.Dropped 0)) (λ wire. stepped world (done.Shown (d.formats.bytes wire))) h (λ wire. h)

    -- the same, whether or not what the line names is there
    pub line_kept : (world : World Wire) (line : Line) → StopKept d P world line → P world → P (step d world line).world
    unfolding step
    line_kept world line stop h = if_kept (is_reference d world line) _ _ (goes_kept world line stop h) (kept.ending world (Some BadReference) h)

    -- after a line that sets no stop
    pub step_kept : (world : World Wire) (line : Line) → sets_no_stop line ≡ true → P world → P (step d world line).world
    step_kept world line unset h = line_kept world line (no_stop line unset) h
      where
        no_stop : (line : Line) → sets_no_stop line ≡ true → StopKept d P world line
        no_stop (lines.Stop server call) unset = absurd (let no : false ≡ true = unset in cc)
        no_stop _ unset = tt
