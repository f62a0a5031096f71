-- Lines that set no stop leave every server running, with no stop set and an empty journal.
use Rattle.std.proofs.Common.{◌≡◌, ℕ, ◌+◌, ◌-◌, Bool, true, false, cond, zero, suc, nat_eq, List, [], ◌∷◌, ◌++◌, refl, sym, ◌∙◌, ap, subst, arith}
use Rattle.std.specs.Prelude.{◌&&◌, Option, Some, None, is_some, not, nat_lt, nat_le, slice_get}
use Rattle.std.proofs.lemmas.Bool.{and_parts}
use Rattle.st_words.specs.declared.statement.Statement.{Statement}
use Rattle.st_words.specs.declared.statement.Statement.TheVariants.{Prepare, Reply}
use Rattle.st_seal.specs.declared.quorum.Signed.{Signed}
use Rattle.st_message.specs.declared.message.Message.{Message}
use Rattle.st_message.specs.declared.message.Message.TheVariants as messages
use Rattle.st_message.specs.declared.event.Outcome.TheVariants.{Ignored}
use Rattle.st_message.specs.declared.event.Output.{Output}
use Rattle.st_message.specs.declared.event.Plan.{Plan}
use Rattle.st_message.specs.declared.change.Change.{Change}
use Rattle.st_message.specs.declared.reason.Reason.TheVariants.{BadSeal}
use Rattle.st_schedule.specs.declared.line.Dest.{Dest}
use Rattle.st_schedule.specs.declared.line.Dest.TheVariants as dests
use Rattle.st_schedule.specs.declared.line.Line.{Line}
use Rattle.st_schedule.specs.declared.line.Line.TheVariants as lines
use Rattle.st_schedule.specs.declared.limits.TheConstants.{MOST_JOURNAL, EMPTY_JOURNAL}
use Rattle.st_schedule.specs.declared.done.Done.TheVariants as done
use Rattle.st_protocol.specs.Words.{Bytes, server_at}
use Rattle.st_protocol.specs.Keeping.{given}
use Rattle.st_protocol.specs.Duty.{Event, Deliver, Tick, Reading, Faulty, Clean}
use Rattle.st_protocol.specs.Known.{all_of}
use Rattle.st_protocol.specs.World.{Deployment, Fault, BadReference, Running, Node, Pair, Answered, Customer, World, fresh_node, empty, is_nil, handed, same_dest, uses_leaf, Stepped, stepped, with_node, with_customer, with_waiting, ends, hands, bad_seal, read_known, sends_to, notes_seal, hands_one, hands_out, settled, is_full_by, is_stopped_by, stands_full, stands_stopped, plan_at, comes_to, by_stand, serves, with_reply, answered, awaits, on_checked_reply, on_reply, client_takes, delivers}
use Rattle.st_protocol.specs.Schedule.{sets_no_stop, is_pair, without, drops, Flowing, counts, flows_first, flows, submits, timeout_event, restarted, then_assigns, sealed_message, seals, forged_by, is_reference, goes, step, goes_on, steps, world_of}
use Rattle.st_protocol.specs.Plain.{IsPlain, ArePlain}
use Rattle.st_protocol.proofs.GatherLaws.{fold-keeps}

-- ---- one server

-- neither of two tests holds
both_false : {A : Type 0} (a b : Bool) (x y z : A) → a ≡ false → b ≡ false → cond a x (cond b y z) ≡ z
both_false a b x y z e f = rw (e, f) refl

-- an empty journal isn't full
not_full : (b : Bool) (n : ℕ) → n ≡ 9 → (b && nat_lt MOST_JOURNAL n) ≡ false
not_full true n e = rw e refl
not_full false n e = refl

-- no stop is set
not_stopped : (b : Bool) (stop : ℕ) → stop ≡ 0 → (b && nat_lt 0 stop && nat_le stop 4) ≡ false
not_stopped true stop e = rw e refl
not_stopped false stop e = refl

-- two numbers that are the same
either : (b : Bool) (x y n : ℕ) → x ≡ n → y ≡ n → cond b x y ≡ n
either true x y n e f = e
either false x y n e f = f

module _ {Wire : Type 0} (d : Deployment Wire) (nothing_written : (changes : List Change) → d.formats.body_size changes ≡ 0) where
  -- a server after a plan that is handed out
  settled_plain : (node : Node) (plan : Plan) → IsPlain node → IsPlain (settled d node plan)
  settled_plain node plan plain =
      let stop = plain.no_stop in
      let bytes = plain.empty_journal in
      let size = nothing_written plan.changes in
      record {
        running = plain.running;
        no_stop = either (is_nil plan.changes) node.stop (node.stop - 4) 0 stop (omega (arith, stop));
        not_apart = refl;
        empty_journal = either (is_nil plan.changes) node.bytes (node.bytes + d.formats.body_size plan.changes) EMPTY_JOURNAL bytes (omega (arith, bytes, size));
      }

  -- an event of such a server is its plan, handed out
  pub plain_serves : (world : World Wire) (site index : ℕ) (event : Event Wire) → IsPlain (world.nodes site index) → d.faulty site index ≡ false →
      serves d world site index event
      ≡ stepped
      (hands_out d site index (with_node world site index (settled d (world.nodes site index) (plan_at d world site index event))) (plan_at d world site index event).outputs)
      (done.Outcome (plan_at d world site index event).outcome)
  unfolding serves comes_to
  plain_serves world site index event plain correct =
      let node : Node = world.nodes site index in
      let plan : Plan = plan_at d world site index event in
      let bytes = plain.empty_journal in
      let size = nothing_written plan.changes in
      ap (λ b. cond b (stepped world done.Faulty) (by_stand d world site index event node.stand)) correct
      ∙ ap (by_stand d world site index event) plain.running
      ∙ both_false (is_full_by d node plan) (is_stopped_by d node plan)
      (stepped (with_node world site index (stands_full d node)) done.Full)
      (stepped (with_node world site index (stands_stopped d node plan.changes)) done.Stopped)
      (stepped (hands_out d site index (with_node world site index (settled d node plan)) plan.outputs) (done.Outcome plan.outcome))
      (not_full (not (is_nil plan.changes)) (node.bytes + d.formats.body_size plan.changes) (omega (arith, bytes, size)))
      (not_stopped (not (is_nil plan.changes)) node.stop plain.no_stop)

  -- ---- the world

  -- all servers of the world after an event
  abbrev Plainly : Stepped Wire → Type 0
  Plainly st = ArePlain st.world

  -- after either of two events
  if_plainly : (b : Bool) (x y : Stepped Wire) → Plainly x → Plainly y → Plainly (cond b x y)
  if_plainly true x y h k = h
  if_plainly false x y h k = k

  -- in a world with the same servers
  same_plain : (old new : World Wire) → new.nodes ≡ old.nodes → ArePlain old → ArePlain new
  unfolding ArePlain
  same_plain old new same plain site index = subst (λ (nodes : ℕ → ℕ → Node). IsPlain (nodes site index)) (sym same) (plain site index)

  -- either of two servers
  put_plain : (b : Bool) (x y : Node) → IsPlain x → IsPlain y → IsPlain (cond b x y)
  put_plain true x y h k = h
  put_plain false x y h k = k

  -- in a world with one server changed
  node_plain : (world : World Wire) (site index : ℕ) (node : Node) → IsPlain node → ArePlain world → ArePlain (with_node world site index node)
  unfolding ArePlain with_node
  node_plain world site index node h plain s i = put_plain (nat_eq site s && nat_eq index i) node (world.nodes s i) h (plain s i)

  -- noting a seal changes no server
  notes_nodes : (site index : ℕ) (world : World Wire) (o : Output) → (notes_seal d site index world o).nodes ≡ world.nodes
  unfolding notes_seal hands
  notes_nodes site index world o = by_leaf o.leaf (handed site o.message)
    where
      by_leaf : (leaf : Option ℕ) (x : Option Statement) → (given leaf world (λ n. given x world (λ s. hands world (server_at site index) n s))).nodes ≡ world.nodes
      by_leaf None x = refl
      by_leaf (Some n) None = refl
      by_leaf (Some n) (Some s) = refl

  -- handing out a message changes no server
  one_nodes : (site index : ℕ) (world : World Wire) (o : Output) → (hands_one d site index world o).nodes ≡ world.nodes
  unfolding hands_one sends_to
  one_nodes site index world o = notes_nodes site index world o

  -- handing out messages changes no server
  out_nodes : (site index : ℕ) (world : World Wire) (outputs : List Output) → (hands_out d site index world outputs).nodes ≡ world.nodes
  out_nodes site index world outputs = fold-keeps (λ (w : World Wire). w.nodes) (hands_one d site index) (one_nodes site index) world outputs

  -- after a plan that is handed out
  out_plain : (world : World Wire) (site index : ℕ) (plan : Plan) → ArePlain world → IsPlain (world.nodes site index) →
      ArePlain (hands_out d site index (with_node world site index (settled d (world.nodes site index) plan)) plan.outputs)
  out_plain world site index plan plain here =
      same_plain (with_node world site index (settled d (world.nodes site index) plan))
      (hands_out d site index (with_node world site index (settled d (world.nodes site index) plan)) plan.outputs)
      (out_nodes site index (with_node world site index (settled d (world.nodes site index) plan)) plan.outputs)
      (node_plain world site index (settled d (world.nodes site index) plan) (settled_plain (world.nodes site index) plan here) plain)

  -- a faulty server changes nothing
  faulty_serves : (world : World Wire) (site index : ℕ) (event : Event Wire) → d.faulty site index ≡ true → serves d world site index event ≡ stepped world done.Faulty
  unfolding serves
  faulty_serves world site index event faulty = ap (λ b. cond b (stepped world done.Faulty) (by_stand d world site index event (world.nodes site index).stand)) faulty

  -- each server of such a world
  at_node : (world : World Wire) → ArePlain world → (site index : ℕ) → IsPlain (world.nodes site index)
  unfolding ArePlain
  at_node world plain = plain

  -- after an event of a server
  serves_plain : (world : World Wire) (site index : ℕ) (event : Event Wire) → ArePlain world → Plainly (serves d world site index event)
  serves_plain world site index event plain = by_fault (d.faulty site index) refl
    where
      by_fault : (b : Bool) → d.faulty site index ≡ b → Plainly (serves d world site index event)
      by_fault true e = subst Plainly (sym (faulty_serves world site index event e)) plain
      by_fault false e =
          subst Plainly (sym (plain_serves world site index event (at_node world plain site index) e))
          (out_plain world site index (plan_at d world site index event) plain (at_node world plain site index))

  -- ---- what a client takes

  -- after what an option chooses
  given_plainly : {A : Type 0} (x : Option A) (none : Stepped Wire) (some : A → Stepped Wire) → Plainly none → ((a : A) → Plainly (some a)) → Plainly (given x none some)
  given_plainly None none some h k = h
  given_plainly (Some a) none some h k = k a

  -- in a world with one client changed
  customer_plain : (world : World Wire) (client : ℕ) (customer : Customer) → ArePlain world → ArePlain (with_customer world client customer)
  unfolding ArePlain with_customer
  customer_plain world client customer plain = plain

  -- after a Reply whose seal checks
  checked_plain : (world : World Wire) (client : ℕ) (customer : Customer) (site index time : ℕ) (a : Answered) → ArePlain world →
      Plainly (on_checked_reply d world client customer site index time a)
  unfolding on_checked_reply
  checked_plain world client customer site index time a plain =
      if_plainly (is_some (customer.replies site index)) _ _ plain
      (if_plainly (awaits d customer time) _ _ (customer_plain world client (answered d (with_reply d customer site index a) site a) plain) plain)

  -- after a Reply
  reply_plain : (world : World Wire) (client : ℕ) (m : Message) (s : Statement) (signed : Signed) → ArePlain world → Plainly (on_reply d world client m s signed)
  reply_plain world client m (Reply site to time number result) signed plain =
      if_plainly (nat_eq client to.0) _ _
      (given_plainly (bad_seal d m) _ (λ place. stepped world (done.Outcome (Ignored (BadSeal place))))
      (checked_plain world client (world.customers client) site.0 signed.index time (record { number = number.0; result = result }) plain) (λ place. plain))
      plain
  reply_plain world client m _ signed plain = plain

  -- after a message at a client
  client_plain : (world : World Wire) (client : ℕ) (r : Reading) → ArePlain world → Plainly (client_takes d world client r)
  client_plain world client (Faulty reason) plain = plain
  client_plain world client (Clean (messages.Reply s signed)) plain = reply_plain world client (messages.Reply s signed) s signed plain
  client_plain world client (Clean _) plain = plain

  -- after a delivery
  delivers_plain : (world : World Wire) (to : Dest) (wire : Wire) → ArePlain world → Plainly (delivers d world to wire)
  unfolding delivers
  delivers_plain world (dests.Server server) wire plain = serves_plain world server.site server.index (Deliver wire) plain
  delivers_plain world (dests.Client client) wire plain = client_plain world client.0 (read_known d wire) plain

  -- ---- the lines

  -- in a world where less waits
  waiting_plain : (world : World Wire) (pairs : List Pair) → ArePlain world → ArePlain (with_waiting world pairs)
  unfolding ArePlain with_waiting
  waiting_plain world pairs plain = plain

  -- after the oldest pair
  first_plain : (x : Flowing Wire) (pairs : List Pair) → ArePlain x.world → ArePlain (flows_first d x pairs).world
  unfolding flows_first
  first_plain x [] plain = plain
  first_plain x (p ∷ ps) plain = by_wire (slice_get x.world.sent p.message)
    where
      by_wire : (wire : Option Wire) → ArePlain (given wire x (λ sent. counts d x (delivers d (with_waiting x.world ps) p.to sent))).world
      by_wire None = plain
      by_wire (Some sent) = delivers_plain (with_waiting x.world ps) p.to sent (waiting_plain x.world ps plain)

  -- after a flow
  flows_plain : (k : ℕ) (x : Flowing Wire) → ArePlain x.world → ArePlain (flows d k x).world
  unfolding flows
  flows_plain zero x plain = plain
  flows_plain (suc k) x plain = flows_plain k (flows_first d x x.world.waiting) (first_plain x x.world.waiting plain)

  -- after a client's update
  submits_plain : (world : World Wire) (client : ℕ) (op : Bytes) → ArePlain world → Plainly (submits d world client op)
  unfolding submits sends_to hands with_customer ArePlain
  submits_plain world client op plain = if_plainly (nat_le d.capacity (world.customers client).time) _ _ plain plain

  -- after lost pairs
  drops_plain : (world : World Wire) (lost : Pair → Bool) → ArePlain world → Plainly (drops d world lost)
  unfolding drops
  drops_plain world lost plain = waiting_plain world (without lost world.waiting) plain

  -- a server that was started again: of a plain one no failed event's changes may be there
  pub restarted_plain : (node : Node) (kept : Bool) → IsPlain node → IsPlain (restarted d node kept)
  restarted_plain node kept plain =
      subst (λ (apart : Option (List Change)). IsPlain (given (cond kept apart None) (again node) (λ changes. record { bodies = node.bodies ++ changes ∷ []; heard = []; stand = Running; stop = 0; apart = None; bytes = node.bytes + d.formats.body_size changes })))
      (sym plain.not_apart) (by kept)
    where
      -- it, with nothing heard
      again : Node → Node
      again n = record { bodies = n.bodies; heard = []; stand = Running; stop = 0; apart = None; bytes = n.bytes }

      by : (b : Bool) → IsPlain (given (cond b None None) (again node) (λ changes. record { bodies = node.bodies ++ changes ∷ []; heard = []; stand = Running; stop = 0; apart = None; bytes = node.bytes + d.formats.body_size changes }))
      by true = record { running = refl; no_stop = refl; not_apart = refl; empty_journal = plain.empty_journal }
      by false = record { running = refl; no_stop = refl; not_apart = refl; empty_journal = plain.empty_journal }

  -- after an assignment that goes nowhere by itself
  assigns_plain : (world : World Wire) (s : Statement) (signed : Signed) → ArePlain world → ArePlain (then_assigns d world s signed)
  unfolding then_assigns sends_to ArePlain
  assigns_plain world (Prepare site view local number value) signed plain = plain
  assigns_plain world _ signed plain = plain

  -- after a message that a faulty server sealed, which goes nowhere by itself
  sealed_plain : (world : World Wire) (site index : ℕ) (wire : Wire) → ArePlain world → ArePlain (sends_to d (uses_leaf world site index) wire [])
  unfolding sends_to uses_leaf ArePlain
  sealed_plain world site index wire plain = plain

  -- after a faulty server's seal
  pub seals_plain : (world : World Wire) (site index : ℕ) (s : Statement) → ArePlain world → Plainly (seals d world site index s)
  unfolding seals
  seals_plain world site index s plain =
      let signed : Signed = record { index = index; seal = d.formats.seal (server_at site index) (world.leaves site index) s } in
      assigns_plain (sends_to d (uses_leaf world site index) (d.formats.encode (sealed_message s signed)) []) s signed (sealed_plain world site index (d.formats.encode (sealed_message s signed)) plain)

  -- in a world that ends
  ends_plain : (world : World Wire) (fault : Option Fault) → ArePlain world → ArePlain (ends world fault)
  unfolding ArePlain ends
  ends_plain world fault plain = plain

  -- after a line that sets no stop
  goes_plain : (world : World Wire) (line : Line) → sets_no_stop line ≡ true → ArePlain world → Plainly (goes d world line)
  goes_plain world (lines.Client client op) unset plain = submits_plain world client.0 op plain
  goes_plain world (lines.Deliver m to) unset plain =
      given_plainly (slice_get world.sent m) (stepped world (done.Dropped 0)) (λ wire. delivers d (with_waiting world (without (is_pair m to) world.waiting)) to wire) plain
      (λ wire. delivers_plain (with_waiting world (without (is_pair m to) world.waiting)) to wire (waiting_plain world (without (is_pair m to) world.waiting) plain))
  goes_plain world (lines.Drop m to) unset plain = drops_plain world (is_pair m to) plain
  goes_plain world (lines.Lose to) unset plain = drops_plain world (λ p. same_dest p.to to) plain
  goes_plain world (lines.Flow k) unset plain = flows_plain k (record { world = world; pairs = 0; did = 0; ignored = 0 }) plain
  goes_plain world (lines.Timeout server global) unset plain = serves_plain world server.site server.index (timeout_event global) plain
  goes_plain world (lines.Tick server) unset plain = serves_plain world server.site server.index Tick plain
  goes_plain world (lines.Stop server call) unset plain = absurd (let no : false ≡ true = unset in cc)
  goes_plain world (lines.Restart server kept) unset plain =
      node_plain world server.site server.index (restarted d (world.nodes server.site server.index) kept)
      (restarted_plain (world.nodes server.site server.index) kept (at_node world plain server.site server.index)) plain
  goes_plain world (lines.Seal server s) unset plain = seals_plain world server.site server.index s plain
  goes_plain world (lines.Raw to bytes) unset plain =
      given_plainly (forged_by d world (d.formats.read (d.formats.raw bytes))) (delivers d world to (d.formats.raw bytes)) (λ fault. stepped (ends world (Some fault)) (done.Dropped 0))
      (delivers_plain world to (d.formats.raw bytes) plain) (λ fault. ends_plain world (Some fault) plain)
  goes_plain world (lines.Show m) unset plain =
      given_plainly (slice_get world.sent m) (stepped world (done.Dropped 0)) (λ wire. stepped world (done.Shown (d.formats.bytes wire))) plain (λ wire. plain)

  -- after a line, whether or not what it names is there
  step_plain : (world : World Wire) (line : Line) → sets_no_stop line ≡ true → ArePlain world → Plainly (step d world line)
  unfolding step
  step_plain world line unset plain = if_plainly (is_reference d world line) _ _ (goes_plain world line unset plain) (ends_plain world (Some BadReference) plain)

  -- after lines
  steps_plain : (world : World Wire) (all : List Line) → all_of sets_no_stop all ≡ true → ArePlain world → ArePlain (steps d world all)
  unfolding all_of
  steps_plain world [] unset plain = plain
  steps_plain world (line ∷ more) unset plain =
      let parts = and_parts (sets_no_stop line) (all_of sets_no_stop more) unset in
      steps_plain (goes_on d world line) more parts.1 (step_plain world line parts.0 plain)

  -- at first
  empty_plain : ArePlain (empty {Wire = Wire})
  unfolding ArePlain empty fresh_node
  empty_plain site index = record { running = refl; no_stop = refl; not_apart = refl; empty_journal = refl }

  -- Lines that set no stop leave all servers so.
  pub lines_plain : (all : List Line) → all_of sets_no_stop all ≡ true → ArePlain (world_of d all)
  lines_plain all unset = steps_plain empty all unset empty_plain
