-- In a world of lines in range all that servers record, hear and send is in range.
use Rattle.std.proofs.Common.{◌≡◌, ◌∙◌, ap, refl, sym, subst, ℕ, ◌+◌, ◌-◌, ◌^◌, ◌<◌, ◌≤◌, Bool, true, false, cond, zero, suc, nat_eq, nat_lt, nat_le, List, [], ◌∷◌, ◌++◌, arith}
use Rattle.std.specs.Prelude.{◌&&◌, IsTrue, not, Option, Some, None, is_some, slice_get, length}
use Rattle.std.specs.Option.{IfSome}
use Rattle.std.specs.List.{AllByRecursion as Each, All}
use Rattle.std.proofs.lemmas.Bool.{and_parts, ltb-true, leb-false, eqb-true}
use Rattle.std.proofs.lemmas.List.Elements.{All-nil, All-from_recursion, recursion_from_All}
use Rattle.st_words.specs.declared.ids.Who.{Who}
use Rattle.st_words.specs.declared.ids.Who.TheVariants as parties
use Rattle.st_words.specs.declared.value.Update.{Update}
use Rattle.st_words.specs.declared.value.Value.{Value}
use Rattle.st_words.specs.declared.value.Value.TheVariants as values
use Rattle.st_words.specs.declared.statement.Item.{Item}
use Rattle.st_words.specs.declared.statement.Statement.{Statement}
use Rattle.st_words.specs.declared.statement.Statement.TheVariants.{Prepare, Proposal, Accept, LocalVc, GlobalVc, LocalReport, GlobalReport, LocalUnion, GlobalUnion, Reply, ClientUpdate}
use Rattle.st_words.specs.Ranges.{most_text, KeepsUpdate, FitsUpdate, FitsStatement}
use Rattle.st_seal.specs.declared.quorum.Signed.{Signed}
use Rattle.st_message.specs.declared.message.Message.{Message}
use Rattle.st_message.specs.declared.message.Message.TheVariants as messages
use Rattle.st_message.specs.declared.event.Outcome.TheVariants.{Ignored}
use Rattle.st_message.specs.declared.event.Output.{Output}
use Rattle.st_message.specs.declared.event.Plan.{Plan}
use Rattle.st_message.specs.declared.event.Scope.TheVariants as scopes
use Rattle.st_message.specs.declared.change.Change.{Change}
use Rattle.st_message.specs.declared.change.Heard.{Heard}
use Rattle.st_message.specs.declared.reason.Reason.TheVariants.{Unknown, BadSeal}
use Rattle.st_schedule.specs.declared.line.Dest.{Dest}
use Rattle.st_schedule.specs.declared.line.Dest.TheVariants as dests
use Rattle.st_schedule.specs.declared.line.Line.{Line}
use Rattle.st_schedule.specs.declared.line.Line.TheVariants as lines
use Rattle.st_schedule.specs.declared.done.Done.TheVariants as done
use Rattle.st_schedule.specs.Ranges.{KeepsSealed}
use Rattle.st_wire.specs.Ranges.{most_seal, most_client_seal, KeepsQuorum, FitsQuorum}
use Rattle.st_protocol.specs.Words.{Bytes, server_at, client_at, an_update}
use Rattle.st_protocol.specs.Keeping.{given, gathered, joined}
use Rattle.st_protocol.specs.State.{Seat}
use Rattle.st_protocol.specs.Duty.{Event, Deliver, Tick, Reading, Faulty, Clean}
use Rattle.st_protocol.specs.World.{Formats, passed, Deployment, Fault, BadReference, Stand, Running, Stopped, Full, Node, Pair, Answered, Customer, World, empty, fresh_node, same_dest, is_nil, handed, Stepped, stepped, with_node, with_customer, with_waiting, uses_leaf, ends, hands, has_made, servers_of, bad_seal, with_known, with_seals, read_known, reads, seat_of, dests_of, sends_to, notes_seal, hands_one, hands_out, settled, is_full_by, is_stopped_by, stands_full, stands_stopped, comes_to, pen_at, plan_at, by_stand, serves, with_reply, answered, awaits, on_checked_reply, on_reply, client_takes, delivers}
use Rattle.st_protocol.specs.Schedule.{is_pair, without, drops, Flowing, counts, flows_first, flows, sealed_message, client_seal_of, then_assigns, seals, submits, set_to_stop, timeout_event, restarted, forged_by, is_reference, goes, step, goes_on, steps}
use Rattle.st_ranges.specs.Ranges.{ValueInRange, StatementInRange, MessageInRange, ReadingInRange, EventInRange, OutputInRange, ListsInRange, PlanInRange, SeatInRange}
use Rattle.st_ranges.specs.Deployments.{KeepsRanges, DeploymentInRange, LineInRange, IsEncoded, one_server}
use Rattle.st_ranges.proofs.ChoiceLaws.{either, chosen, chosen_any, either_has, append_all, found_has}
use Rattle.st_ranges.proofs.ReportLaws.{SignedInRange}
use Rattle.st_ranges.proofs.DutyLaws.{duty_in_range}

-- the lists with one body more, and nothing heard
abbrev pub ApartInRange : Seat → List (List Change) → List Change → Type 0
ApartInRange seat bodies changes = ListsInRange seat (bodies ++ changes ∷ []) []

-- what a server's node holds, and will where a failed event's changes are there after a restart
pub record NodeInRange (seat : Seat) (node : Node) : Type 0 where
  pub lists : ListsInRange seat node.bodies node.heard
  pub apart : IfSome node.apart (ApartInRange seat node.bodies)

-- nothing is heard any more
pub forgets : (seat : Seat) (bodies : List (List Change)) (heard : List Heard) → ListsInRange seat bodies heard → ListsInRange seat bodies []
forgets seat bodies heard l = record { changes = l.changes; messages = tt; stands = l.stands; home = tt; few = l.few }

-- ---- a faulty server's messages

-- a report without items, whose base is 0
bare_report : (base : ℕ) (items : List Item) → (nat_eq base 0 && nat_eq (length items) 0) ≡ true → (0 ≡ length items) × (base ≡ 0)
bare_report base items e =
    let parts = and_parts (nat_eq base 0) (nat_eq (length items) 0) e in
    (sym (eqb-true (length items) 0 parts.1), eqb-true base 0 parts.0)

-- the message over a statement that it sealed
pub sealed_message_in_range : (s : Statement) (signed : Signed) → KeepsSealed s → FitsStatement s → SignedInRange signed → MessageInRange (sealed_message s signed)
sealed_message_in_range (Prepare site view local number value) signed k f g = (((refl, k.0), g.0), (f, g.1))
sealed_message_in_range (Proposal site view local number value) signed k f g = (((refl, k.0), g.0), (f, g.1))
sealed_message_in_range (Accept site view number value) signed k f g = (((refl, k.0), g.0), (f, g.1))
sealed_message_in_range (LocalVc site local) signed k f g = (((refl, k.0), g.0), (f, g.1))
sealed_message_in_range (GlobalVc site view) signed k f g = (((refl, k.0), g.0), (f, g.1))
sealed_message_in_range (LocalReport site local index view base items) signed k f g =
    let bare = bare_report base items k.2 in
    let at_site : site.0 < 2 ^ 8 = f.0 in
    let at_local : local.0 < 2 ^ 32 = f.1 in
    let positive : 1 ≤ local.0 = k.0.0 in (
      (
        (refl, (omega arith, omega (arith, at_site)), omega (arith, positive), omega (arith, at_local), omega arith),
        (k.0, g.0.1, bare.0, All-nil KeepsQuorum, bare.1),
      ),
      (f, All-nil FitsQuorum, tt),
    )
sealed_message_in_range (GlobalReport site view index base items) signed k f g =
    let bare = bare_report base items k.2 in
    let at_site : site.0 < 2 ^ 8 = f.0 in
    let at_view : view.0 < 2 ^ 32 = f.1 in
    let positive : 1 ≤ view.0 = k.0.0 in (
      (
        (refl, (omega arith, omega (arith, at_site)), omega (arith, positive), omega (arith, at_view), omega arith),
        (k.0, g.0.1, bare.0, All-nil KeepsQuorum, bare.1),
      ),
      (f, All-nil FitsQuorum, tt),
    )
sealed_message_in_range (LocalUnion site local greatest base items) signed k f g = (((refl, k.0), g.0), (f, g.1))
sealed_message_in_range (GlobalUnion site view base items) signed k f g = (((refl, k.0), g.0), (f, g.1))
sealed_message_in_range (Reply site client time number result) signed k f g = (((refl, k.0), g.0), (f, g.1))
sealed_message_in_range (ClientUpdate update) signed k f g = absurd k.1

module _ {Wire : Type 0} (d : Deployment Wire) where
  -- All that a world's servers hold, and all that was sent.
  pub record WorldInRange (world : World Wire) : Type 0 where
    pub nodes : (site index : ℕ) → NodeInRange (seat_of d site index) (world.nodes site index)
    pub sent : Each (IsEncoded d) world.sent

  -- so after an event
  abbrev pub WorldAfter : Stepped Wire → Type 0
  WorldAfter st = WorldInRange st.world

  -- ---- one server

  module _ (seat : Seat) where
    -- the server after a plan that is handed out
    pub settled_in_range : (node : Node) (plan : Plan) → NodeInRange seat node → PlanInRange seat node.bodies node.heard plan → NodeInRange seat (settled d node plan)
    settled_in_range node plan n p = record { lists = by (is_nil plan.changes) plan.changes refl p.lists; apart = tt }
      where
        by : (b : Bool) (changes : List Change) → is_nil changes ≡ b → ListsInRange seat (node.bodies ++ changes ∷ []) (node.heard ++ plan.heard) →
            ListsInRange seat (cond b node.bodies (node.bodies ++ changes ∷ [])) (node.heard ++ plan.heard)
        by true changes e l = record { changes = n.lists.changes; messages = l.messages; stands = n.lists.stands; home = l.home; few = n.lists.few }
        by false changes e l = l

    -- whose journal is full
    pub full_in_range : (node : Node) → NodeInRange seat node → NodeInRange seat (stands_full d node)
    full_in_range node n = record { lists = n.lists; apart = tt }

    -- that stopped
    pub stopped_in_range : (node : Node) (changes : List Change) → NodeInRange seat node → ApartInRange seat node.bodies changes → NodeInRange seat (stands_stopped d node changes)
    stopped_in_range node changes n h = record { lists = n.lists; apart = either_has (ApartInRange seat node.bodies) (nat_eq node.stop 4) (Some changes) None h tt }

    -- that is set to stop
    pub stop_in_range : (node : Node) (call : ℕ) → NodeInRange seat node → NodeInRange seat (set_to_stop node call)
    stop_in_range node call n = record { lists = n.lists; apart = n.apart }

    -- that starts again
    pub restarted_in_range : (node : Node) (kept : Bool) → NodeInRange seat node → NodeInRange seat (restarted d node kept)
    restarted_in_range node kept n =
        chosen (ApartInRange seat node.bodies) (NodeInRange seat) (cond kept node.apart None)
        (record { bodies = node.bodies; heard = []; stand = Running; stop = 0; apart = None; bytes = node.bytes })
        (λ changes. record { bodies = node.bodies ++ changes ∷ []; heard = []; stand = Running; stop = 0; apart = None; bytes = node.bytes + d.formats.body_size changes })
        (either_has (ApartInRange seat node.bodies) kept node.apart None n.apart tt)
        (record { lists = forgets seat node.bodies node.heard n.lists; apart = tt })
        (λ changes h. record { lists = h; apart = tt })

  -- ---- the small changes of a world

  -- a server is changed
  pub node_in_range : (world : World Wire) (site index : ℕ) (node : Node) → NodeInRange (seat_of d site index) node → WorldInRange world → WorldInRange (with_node world site index node)
  unfolding with_node
  node_in_range world site index node n w = record { nodes = λ s i. by s i (nat_eq site s && nat_eq index i) refl; sent = w.sent }
    where
      by : (s i : ℕ) (b : Bool) → (nat_eq site s && nat_eq index i) ≡ b → NodeInRange (seat_of d s i) (cond b node (world.nodes s i))
      by s i true e =
          let parts = and_parts (nat_eq site s) (nat_eq index i) e in
          subst (λ k. NodeInRange (seat_of d k i) node) (eqb-true site s parts.0) (subst (λ k. NodeInRange (seat_of d site k) node) (eqb-true index i parts.1) n)
      by s i false e = w.nodes s i

  -- a client is changed
  pub customer_in_range : (world : World Wire) (client : ℕ) (customer : Customer) → WorldInRange world → WorldInRange (with_customer world client customer)
  unfolding with_customer
  customer_in_range world client customer w = record { nodes = w.nodes; sent = w.sent }

  -- Other pairs wait.
  pub waiting_in_range : (world : World Wire) (pairs : List Pair) → WorldInRange world → WorldInRange (with_waiting world pairs)
  unfolding with_waiting
  waiting_in_range world pairs w = record { nodes = w.nodes; sent = w.sent }

  -- the world ends
  pub ends_in_range : (world : World Wire) (fault : Option Fault) → WorldInRange world → WorldInRange (ends world fault)
  unfolding ends
  ends_in_range world fault w = record { nodes = w.nodes; sent = w.sent }

  -- a faulty server's leaf is used
  uses_in_range : (world : World Wire) (site index : ℕ) → WorldInRange world → WorldInRange (uses_leaf world site index)
  unfolding uses_leaf
  uses_in_range world site index w = record { nodes = w.nodes; sent = w.sent }

  -- a seal is handed out
  pub hands_in_range : (world : World Wire) (who : Who) (leaf : ℕ) (s : Statement) → WorldInRange world → WorldInRange (hands world who leaf s)
  unfolding hands
  hands_in_range world who leaf s w = record { nodes = w.nodes; sent = w.sent }

  -- a message is sent
  pub sends_in_range : (world : World Wire) (m : Message) (to : List Dest) → MessageInRange m → WorldInRange world → WorldInRange (sends_to d world (d.formats.encode m) to)
  unfolding sends_to
  sends_in_range world m to h w =
      record { nodes = w.nodes; sent = append_all (IsEncoded d) world.sent (d.formats.encode m ∷ []) w.sent (record { message = m; spells = refl; inside = h }, tt) }

  -- ---- a server's messages

  -- a server's own seal is noted
  notes_in_range : (site index : ℕ) (world : World Wire) (o : Output) → WorldInRange world → WorldInRange (notes_seal d site index world o)
  unfolding notes_seal
  notes_in_range site index world o w = by o.leaf (handed site o.message)
    where
      by : (leaf : Option ℕ) (x : Option Statement) → WorldInRange (given leaf world (λ n. given x world (λ s. hands world (server_at site index) n s)))
      by None x = w
      by (Some n) None = w
      by (Some n) (Some s) = hands_in_range world (server_at site index) n s w

  -- one message of a server's is handed out
  one_in_range : (site index : ℕ) (world : World Wire) (o : Output) → OutputInRange o → WorldInRange world → WorldInRange (hands_one d site index world o)
  unfolding hands_one
  one_in_range site index world o h w = sends_in_range (notes_seal d site index world o) o.message (dests_of d o.to) h (notes_in_range site index world o w)

  -- messages of a server's are handed out
  pub out_in_range : (site index : ℕ) (world : World Wire) (outputs : List Output) → Each OutputInRange outputs → WorldInRange world → WorldInRange (hands_out d site index world outputs)
  out_in_range site index world [] h w = w
  out_in_range site index world (o ∷ os) h w = out_in_range site index (hands_one d site index world o) os h.1 (one_in_range site index world o h.0 w)

  -- a plan is written and handed out
  comes_in_range : (world : World Wire) (site index : ℕ) (plan : Plan) → PlanInRange (seat_of d site index) (world.nodes site index).bodies (world.nodes site index).heard plan → WorldInRange world →
      WorldAfter (comes_to d world site index plan)
  unfolding comes_to
  comes_in_range world site index plan p w =
      let node : Node = world.nodes site index in
      either WorldAfter (is_full_by d node plan) (stepped (with_node world site index (stands_full d node)) done.Full) _
      (node_in_range world site index (stands_full d node) (full_in_range (seat_of d site index) node (w.nodes site index)) w)
      (either WorldAfter (is_stopped_by d node plan) (stepped (with_node world site index (stands_stopped d node plan.changes)) done.Stopped)
      (stepped (hands_out d site index (with_node world site index (settled d node plan)) plan.outputs) (done.Outcome plan.outcome))
      (node_in_range world site index (stands_stopped d node plan.changes) (stopped_in_range (seat_of d site index) node plan.changes (w.nodes site index) (forgets (seat_of d site index) (node.bodies ++ plan.changes ∷ []) (node.heard ++ plan.heard) p.lists)) w)
      (out_in_range site index (with_node world site index (settled d node plan)) plan.outputs p.outputs
      (node_in_range world site index (settled d node plan) (settled_in_range (seat_of d site index) node plan (w.nodes site index) p) w)))

  -- ---- what is read

  -- a message that names what isn't of the deployment
  known_in_range : (r : Reading) → ReadingInRange r → ReadingInRange (with_known d r)
  known_in_range (Faulty reason) h = tt
  known_in_range (Clean m) h = either ReadingInRange (d.formats.knows m) (Clean m) (Faulty Unknown) h tt

  -- a message with a seal that doesn't check
  seals_in_range : (r : Reading) → ReadingInRange r → ReadingInRange (with_seals d r)
  seals_in_range (Faulty reason) h = tt
  seals_in_range (Clean m) h = chosen_any ReadingInRange (bad_seal d m) (Clean m) (λ place. Faulty (BadSeal place)) h (λ place. tt)

  -- What is delivered to a server.
  pub delivery_in_range : (wire : Wire) → ReadingInRange (d.formats.read wire) → EventInRange (reads d) (Deliver wire)
  delivery_in_range wire r = seals_in_range (with_known d (d.formats.read wire)) (known_in_range (d.formats.read wire) r)

  -- A timeout.
  pub timeout_in_range : (global : Bool) → EventInRange (reads d) (timeout_event global)
  timeout_in_range false = tt
  timeout_in_range true = tt

  -- ---- a client's reply

  -- whose seals check
  checked_in_range : (world : World Wire) (client : ℕ) (customer : Customer) (site index time : ℕ) (a : Answered) → WorldInRange world →
      WorldAfter (on_checked_reply d world client customer site index time a)
  unfolding on_checked_reply
  checked_in_range world client customer site index time a w =
      either WorldAfter (is_some (customer.replies site index)) _ _ w
      (either WorldAfter (awaits d customer time) _ _ (customer_in_range world client (answered d (with_reply d customer site index a) site a) w) w)

  -- at a client
  reply_in_range : (world : World Wire) (client : ℕ) (m : Message) (s : Statement) (signed : Signed) → WorldInRange world → WorldAfter (on_reply d world client m s signed)
  reply_in_range world client m (Reply site to time number result) signed w =
      either WorldAfter (nat_eq client to.0) _ _
      (chosen_any WorldAfter (bad_seal d m) _ (λ place. stepped world (done.Outcome (Ignored (BadSeal place))))
      (checked_in_range world client (world.customers client) site.0 signed.index time (record { number = number.0; result = result }) w) (λ place. w))
      w
  reply_in_range world client m _ signed w = w

  -- a message at a client
  client_in_range : (world : World Wire) (client : ℕ) (r : Reading) → WorldInRange world → WorldAfter (client_takes d world client r)
  client_in_range world client (Faulty reason) w = w
  client_in_range world client (Clean (messages.Reply s signed)) w = reply_in_range world client (messages.Reply s signed) s signed w
  client_in_range world client (Clean _) w = w

  -- lost pairs
  drops_in_range : (world : World Wire) (lost : Pair → Bool) → WorldInRange world → WorldAfter (drops d world lost)
  unfolding drops
  drops_in_range world lost w = waiting_in_range world (without lost world.waiting) w

  module _ (h : DeploymentInRange d) where
    -- a server that runs code
    seat_in_range : (site index : ℕ) → d.faulty site index ≡ false → SeatInRange (seat_of d site index)
    seat_in_range site index correct =
        let parts = and_parts (nat_lt site d.sites) (nat_lt index (servers_of d)) (h.keeps.runs site index correct) in
        let at_site : site < d.sites = ltb-true site d.sites parts.0 in
        let at_index : index < servers_of d = ltb-true index (servers_of d) parts.1 in
        let sites : d.sites < 2 ^ 8 = h.keeps.sites in
        let servers : servers_of d < 2 ^ 8 = h.keeps.servers in
        record { site = omega (arith, at_site, sites); index = omega (arith, at_index, servers); sites = sites; servers = servers; capacity = h.keeps.capacity; serve = h.keeps.serve }

    -- The plan of a server's event.
    pub plan_in_range : (world : World Wire) (site index : ℕ) (event : Event Wire) → d.faulty site index ≡ false → EventInRange (reads d) event → WorldInRange world →
        PlanInRange (seat_of d site index) (world.nodes site index).bodies (world.nodes site index).heard (plan_at d world site index event)
    plan_in_range world site index event correct e w =
        duty_in_range (pen_at d site index) (h.keeps.seals (server_at site index)) (reads d) (seat_of d site index) (world.nodes site index).bodies (world.nodes site index).heard event
        (seat_in_range site index correct) (w.nodes site index).lists e

    -- an event of a server
    serves_in_range : (world : World Wire) (site index : ℕ) (event : Event Wire) → EventInRange (reads d) event → WorldInRange world → WorldAfter (serves d world site index event)
    unfolding serves
    serves_in_range world site index event e w = by (d.faulty site index) refl
      where
        by_state : d.faulty site index ≡ false → (stand : Stand) → WorldAfter (by_stand d world site index event stand)
        by_state correct Running = comes_in_range world site index (plan_at d world site index event) (plan_in_range world site index event correct e w) w
        by_state correct Stopped = w
        by_state correct Full = w

        by : (b : Bool) → d.faulty site index ≡ b → WorldAfter (cond b (stepped world done.Faulty) (by_stand d world site index event (world.nodes site index).stand))
        by true is = w
        by false is = by_state is (world.nodes site index).stand

    -- ---- a delivery

    -- what is sent is read in range
    read_in_range : (wire : Wire) → IsEncoded d wire → ReadingInRange (d.formats.read wire)
    read_in_range wire e = by (d.formats.read wire) refl
      where
        by : (r : Reading) → d.formats.read wire ≡ r → ReadingInRange r
        by (Faulty reason) is = tt
        by (Clean n) is = subst MessageInRange (sym (h.reads e.message n e.inside (ap d.formats.read (sym e.spells) ∙ is))) e.inside

    -- What a message that was sent is read as.
    pub sent_in_range : (world : World Wire) (n : ℕ) (wire : Wire) → slice_get world.sent n ≡ Some wire → WorldInRange world → ReadingInRange (d.formats.read wire)
    sent_in_range world n wire e w = read_in_range wire (subst (λ (x : Option Wire). IfSome x (IsEncoded d)) e (found_has (IsEncoded d) world.sent n w.sent))

    -- a message is delivered
    delivers_in_range : (world : World Wire) (to : Dest) (wire : Wire) → ReadingInRange (d.formats.read wire) → WorldInRange world → WorldAfter (delivers d world to wire)
    unfolding delivers
    delivers_in_range world (dests.Server server) wire r w =
        serves_in_range world server.site server.index (Deliver wire) (delivery_in_range wire r) w
    delivers_in_range world (dests.Client client) wire r w = client_in_range world client.0 (read_known d wire) w

    -- a message that was sent is delivered, with other pairs waiting
    sent_delivers_in_range : (world : World Wire) (pairs : List Pair) (n : ℕ) (to : Dest) (wire : Wire) → slice_get world.sent n ≡ Some wire → WorldInRange world →
        WorldAfter (delivers d (with_waiting world pairs) to wire)
    sent_delivers_in_range world pairs n to wire e w = delivers_in_range (with_waiting world pairs) to wire (sent_in_range world n wire e w) (waiting_in_range world pairs w)

    -- ---- a flow, and a client's update

    -- The oldest pair is delivered.
    pub first_in_range : (x : Flowing Wire) (pairs : List Pair) → WorldInRange x.world → WorldInRange (flows_first d x pairs).world
    unfolding flows_first
    first_in_range x [] w = w
    first_in_range x (p ∷ ps) w = by (slice_get x.world.sent p.message) refl
      where
        by : (wire : Option Wire) → slice_get x.world.sent p.message ≡ wire → WorldInRange (given wire x (λ sent. counts d x (delivers d (with_waiting x.world ps) p.to sent))).world
        by None e = w
        by (Some sent) e = sent_delivers_in_range x.world ps p.message p.to sent e w

    -- a flow
    flows_in_range : (k : ℕ) (x : Flowing Wire) → WorldInRange x.world → WorldInRange (flows d k x).world
    unfolding flows
    flows_in_range zero x w = w
    flows_in_range (suc k) x w = flows_in_range k (flows_first d x x.world.waiting) (first_in_range x x.world.waiting w)

    -- A client's update, as it is sent.
    pub update_in_range : (client used : ℕ) (op : Bytes) → client < 2 ^ 8 → length op ≤ most_text → nat_le d.capacity used ≡ false →
        MessageInRange (messages.Update (an_update client (used + 1) op) (d.formats.seal (client_at client) used (ClientUpdate (an_update client (used + 1) op))))
    update_in_range client used op few short e =
        let left : used < d.capacity = leb-false d.capacity used e in
        let most : d.capacity < 2 ^ 32 = h.keeps.capacity in
        let keeps : KeepsUpdate (an_update client (used + 1) op) = (omega arith, short) in
        let fits : FitsUpdate (an_update client (used + 1) op) = (few, omega (arith, left, most)) in
        ((keeps, h.keeps.seals (client_at client) used (ClientUpdate (an_update client (used + 1) op)) (keeps, fits)), fits)

    -- a client's update
    submits_in_range : (world : World Wire) (client : ℕ) (op : Bytes) → client < 2 ^ 8 → length op ≤ most_text → WorldInRange world → WorldAfter (submits d world client op)
    unfolding submits
    submits_in_range world client op few short w = by (nat_le d.capacity (world.customers client).time) refl
      where
        used : ℕ
        used = (world.customers client).time

        update : Update
        update = an_update client (used + 1) op

        waits : Customer
        waits = record { time = used + 1; waits = true; replies = λ s i. None; result = None }

        asks : World Wire
        asks = hands (with_customer world client waits) (client_at client) used (ClientUpdate update)

        message : Message
        message = messages.Update update (d.formats.seal (client_at client) used (ClientUpdate update))

        by : (b : Bool) → nat_le d.capacity used ≡ b →
            WorldAfter (cond b (stepped world (done.SealsSpent used)) (stepped (sends_to d asks (d.formats.encode message) (dests_of d scopes.All)) (done.Sent (length world.sent))))
        by true e = w
        by false e =
            sends_in_range asks message (dests_of d scopes.All) (update_in_range client used op few short e)
            (hands_in_range (with_customer world client waits) (client_at client) used (ClientUpdate update) (customer_in_range world client waits w))

    -- ---- a faulty server's seal

    -- the client's own seal, where there is one
    pub client_seal_short : (world : World Wire) (v : Value) → ValueInRange v → length (client_seal_of d world v) ≤ most_client_seal v
    client_seal_short world values.Noop v = omega arith
    client_seal_short world (values.Update u) v =
        either (λ (seal : Bytes). length seal ≤ most_seal) (has_made world.made (parties.Client u.client) (ClientUpdate u)) _ []
        (h.keeps.seals (parties.Client u.client) (u.time - 1) (ClientUpdate u) v).1 (omega arith)

    -- a Prepare goes out as an assignment too
    assigns_in_range : (world : World Wire) (s : Statement) (signed : Signed) → StatementInRange s → SignedInRange signed → WorldInRange world → WorldInRange (then_assigns d world s signed)
    unfolding then_assigns
    assigns_in_range world (Prepare site view local number value) signed s g w =
        sends_in_range world (messages.Assign view local number value (client_seal_of d world value) signed) []
        ((s.0.0, s.0.1, client_seal_short world value (s.0.1, s.1.4), g.0), (s.1.1, s.1.2, s.1.3, s.1.4, g.1)) w
    assigns_in_range world _ signed s g w = w

    -- a statement is sealed
    pub faulty_in_range : (world : World Wire) (site index : ℕ) (s : Statement) → index < 2 ^ 8 → KeepsSealed s → FitsStatement s → WorldInRange world → WorldAfter (seals d world site index s)
    unfolding seals
    faulty_in_range world site index s at k f w =
        let signed : Signed = record { index = index; seal = d.formats.seal (server_at site index) (world.leaves site index) s } in
        let g : SignedInRange signed = ((omega arith, h.keeps.seals (server_at site index) (world.leaves site index) s (k.0, f)), at) in
        assigns_in_range (sends_to d (uses_leaf world site index) (d.formats.encode (sealed_message s signed)) []) s signed (k.0, f) g
        (sends_in_range (uses_leaf world site index) (sealed_message s signed) [] (sealed_message_in_range s signed k f g) (uses_in_range world site index w))

    -- ---- lines

    -- a line
    goes_in_range : (world : World Wire) (line : Line) → LineInRange d line → WorldInRange world → WorldAfter (goes d world line)
    goes_in_range world (lines.Client client op) l w = submits_in_range world client.0 op l.1.0 l.0 w
    goes_in_range world (lines.Deliver m to) l w = by (slice_get world.sent m) refl
      where
        by : (x : Option Wire) → slice_get world.sent m ≡ x →
            WorldAfter (given x (stepped world (done.Dropped 0)) (λ wire. delivers d (with_waiting world (without (is_pair m to) world.waiting)) to wire))
        by None e = w
        by (Some wire) e = sent_delivers_in_range world (without (is_pair m to) world.waiting) m to wire e w
    goes_in_range world (lines.Drop m to) l w = drops_in_range world (is_pair m to) w
    goes_in_range world (lines.Lose to) l w = drops_in_range world (λ p. same_dest p.to to) w
    goes_in_range world (lines.Flow k) l w = flows_in_range k (record { world = world; pairs = 0; did = 0; ignored = 0 }) w
    goes_in_range world (lines.Timeout server global) l w = serves_in_range world server.site server.index (timeout_event global) (timeout_in_range global) w
    goes_in_range world (lines.Tick server) l w = serves_in_range world server.site server.index Tick tt w
    goes_in_range world (lines.Stop server call) l w =
        node_in_range world server.site server.index (set_to_stop (world.nodes server.site server.index) call)
        (stop_in_range (seat_of d server.site server.index) (world.nodes server.site server.index) call (w.nodes server.site server.index)) w
    goes_in_range world (lines.Restart server kept) l w =
        node_in_range world server.site server.index (restarted d (world.nodes server.site server.index) kept)
        (restarted_in_range (seat_of d server.site server.index) (world.nodes server.site server.index) kept (w.nodes server.site server.index)) w
    goes_in_range world (lines.Seal server s) l w = faulty_in_range world server.site server.index s l.1.0.1 l.0 l.1.1 w
    goes_in_range world (lines.Raw to bytes) l w =
        chosen_any WorldAfter (forged_by d world (d.formats.read (d.formats.raw bytes))) (delivers d world to (d.formats.raw bytes))
        (λ fault. stepped (ends world (Some fault)) (done.Dropped 0)) (delivers_in_range world to (d.formats.raw bytes) l.2 w) (λ fault. ends_in_range world (Some fault) w)
    goes_in_range world (lines.Show m) l w =
        chosen_any WorldAfter (slice_get world.sent m) (stepped world (done.Dropped 0)) (λ wire. stepped world (done.Shown (d.formats.bytes wire))) w (λ wire. w)

    -- A line, whether or not what it names is there.
    pub step_in_range : (world : World Wire) (line : Line) → LineInRange d line → WorldInRange world → WorldAfter (step d world line)
    unfolding step
    step_in_range world line l w =
        either WorldAfter (is_reference d world line) (goes d world line) (stepped (ends world (Some BadReference)) (done.Dropped 0))
        (goes_in_range world line l w) (ends_in_range world (Some BadReference) w)

    -- lines in order
    steps_in_range : (world : World Wire) (all : List Line) → Each (LineInRange d) all → WorldInRange world → WorldInRange (steps d world all)
    steps_in_range world [] l w = w
    steps_in_range world (line ∷ more) l w = steps_in_range (goes_on d world line) more l.1 (step_in_range world line l.0 w)

    -- Before the first line.
    pub empty_in_range : WorldInRange empty
    unfolding empty fresh_node joined gathered
    empty_in_range = record { nodes = λ site index. record { lists = record { changes = tt; messages = tt; stands = tt; home = tt; few = omega arith }; apart = tt }; sent = tt }

    -- the world of these lines
    world_in_range : (all : List Line) → All (LineInRange d) all → WorldInRange (steps d empty all)
    world_in_range all l = steps_in_range empty all (recursion_from_All (LineInRange d) all l) empty_in_range

    -- All that was sent.
    pub sent_encoded : (all : List Line) → All (LineInRange d) all → All (IsEncoded d) (steps d empty all).sent
    sent_encoded all l = All-from_recursion (IsEncoded d) (steps d empty all).sent (world_in_range all l).sent

    -- All that a server recorded and heard.
    pub lists_in_range : (all : List Line) (site index : ℕ) → All (LineInRange d) all →
        ListsInRange (seat_of d site index) ((steps d empty all).nodes site index).bodies ((steps d empty all).nodes site index).heard
    lists_in_range all site index l = ((world_in_range all l).nodes site index).lists

-- Messages that are passed as they are.
pub passed_reads_same : (d : Deployment Message) (seal : Who → ℕ → Statement → Bytes) (knows : Message → Bool) (m n : Message) →
    d.formats ≡ record (passed seal) { knows = knows } → d.formats.read (d.formats.encode m) ≡ Clean n → n ≡ m
passed_reads_same d seal knows m n e is =
    let clean : Clean m ≡ Clean n = ap (λ (formats : Formats Message). formats.read (formats.encode m)) (sym e) ∙ is in cc

-- A deployment of such messages.
pub passed_in_range : (d : Deployment Message) (seal : Who → ℕ → Statement → Bytes) (knows : Message → Bool) →
    d.formats ≡ record (passed seal) { knows = knows } → KeepsRanges d → DeploymentInRange d
passed_in_range d seal knows e keeps = record { keeps = keeps; reads = λ m n inside is. passed_reads_same d seal knows m n e is }

-- what isn't denied
undenied : (b : Bool) → not b ≡ false → IsTrue b
undenied true e = refl
undenied false e = absurd (let no : true ≡ false = e in cc)

-- One server's.
pub one_server_in_range : DeploymentInRange one_server
one_server_in_range =
    passed_in_range one_server (λ who leaf s. 0 ∷ []) (λ m. true) refl
    (record {
      sites = omega arith;
      servers = omega arith;
      capacity = omega arith;
      serve = λ ran op short. short;
      seals = λ who leaf s inside. (omega arith, omega arith);
      runs = λ site index. undenied (nat_lt site 1 && nat_lt index 1);
    })
