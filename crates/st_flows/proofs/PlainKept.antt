-- Where no body is written, deliveries, flows, clients' updates and lines that set no stop leave every server running,
-- with no stop set and an empty journal.
use Rattle.std.proofs.Common.{◌≡◌, ℕ, ◌-◌, ◌+◌, Bool, true, false, cond, nat_eq, List, refl, sym, ap, subst, arith}
use Rattle.std.specs.Prelude.{◌&&◌, Option, Some, None}
use Rattle.st_words.specs.declared.ids.Who.{Who}
use Rattle.st_words.specs.declared.statement.Statement.{Statement}
use Rattle.st_message.specs.declared.event.Output.{Output}
use Rattle.st_message.specs.declared.event.Plan.{Plan}
use Rattle.st_message.specs.declared.change.Change.{Change}
use Rattle.st_schedule.specs.declared.line.Dest.{Dest}
use Rattle.st_schedule.specs.declared.line.Line.{Line}
use Rattle.st_schedule.specs.declared.limits.TheConstants.{EMPTY_JOURNAL}
use Rattle.st_schedule.specs.declared.done.Done.TheVariants as done
use Rattle.st_protocol.specs.Words.{Bytes, server_at}
use Rattle.st_protocol.specs.Keeping.{given}
use Rattle.st_protocol.specs.Duty.{Event}
use Rattle.st_protocol.specs.World.{Deployment, Fault, Node, Pair, Customer, World, is_nil, handed, Stepped, stepped, with_node, with_customer, with_waiting, ends, hands, dests_of, sends_to, notes_seal, hands_one, hands_out, settled, plan_at, by_stand, serves, delivers}
use Rattle.st_protocol.specs.Schedule.{sets_no_stop, Flowing, flows, submits, restarted, seals, step}
use Rattle.st_protocol.specs.Plain.{IsPlain, ArePlain}
use Rattle.st_protocol.proofs.GatherLaws.{fold-keeps}
use Rattle.st_protocol.proofs.PlainLaws.{plain_serves, restarted_plain, seals_plain}
use Rattle.st_flows.proofs.KeptLaws.{IsKept, delivers_kept, flows_kept, submits_kept, step_kept}

-- ---- one server

-- either of two servers
if_plain : (b : Bool) (x y : Node) → IsPlain x → IsPlain y → IsPlain (cond b x y)
if_plain true x y h k = h
if_plain false x y h k = k

-- two numbers that are the same
either : (b : Bool) (x y n : ℕ) → x ≡ n → y ≡ n → cond b x y ≡ n
either true x y n e f = e
either false x y n e f = f

-- ---- the servers of a changed world

module _ {Wire : Type 0} where
  -- in a world with the same servers
  pub plain_of_same_nodes : (old new : World Wire) → new.nodes ≡ old.nodes → ArePlain old → ArePlain new
  unfolding ArePlain
  plain_of_same_nodes old new same plain site index = subst (λ (nodes : ℕ → ℕ → Node). IsPlain (nodes site index)) (sym same) (plain site index)

  -- each server of such a world
  pub plain_at : (world : World Wire) → ArePlain world → (site index : ℕ) → IsPlain (world.nodes site index)
  unfolding ArePlain
  plain_at world plain = plain

  -- in a world with one server changed
  pub plain_with_node : (world : World Wire) (site index : ℕ) (node : Node) → IsPlain node → ArePlain world → ArePlain (with_node world site index node)
  unfolding ArePlain with_node
  plain_with_node world site index node h plain s i = if_plain (nat_eq site s && nat_eq index i) node (world.nodes s i) h (plain s i)

  -- in a world with one client changed
  pub plain_with_customer : (world : World Wire) (client : ℕ) (customer : Customer) → ArePlain world → ArePlain (with_customer world client customer)
  unfolding ArePlain with_customer
  plain_with_customer world client customer plain = plain

  -- in a world where other pairs wait
  pub plain_with_waiting : (world : World Wire) (pairs : List Pair) → ArePlain world → ArePlain (with_waiting world pairs)
  unfolding ArePlain with_waiting
  plain_with_waiting world pairs plain = plain

  -- in a world where a seal was handed out
  pub plain_hands : (world : World Wire) (who : Who) (leaf : ℕ) (s : Statement) → ArePlain world → ArePlain (hands world who leaf s)
  unfolding ArePlain hands
  plain_hands world who leaf s plain = plain

  -- in a world that ends
  pub plain_ends : (world : World Wire) (fault : Option Fault) → ArePlain world → ArePlain (ends world fault)
  unfolding ArePlain ends
  plain_ends world fault plain = plain

-- ---- the servers after events

module _ {Wire : Type 0} (d : Deployment Wire) where
  -- in a world where a message was sent
  pub plain_sends_to : (world : World Wire) (wire : Wire) (to : List Dest) → ArePlain world → ArePlain (sends_to d world wire to)
  unfolding ArePlain sends_to
  plain_sends_to world wire to plain = plain

  -- noting a seal changes no server
  notes_nodes : (site index : ℕ) (world : World Wire) (o : Output) → (notes_seal d site index world o).nodes ≡ world.nodes
  unfolding notes_seal hands
  notes_nodes site index world o = by_leaf o.leaf (handed site o.message)
    where
      by_leaf : (leaf : Option ℕ) (x : Option Statement) → (given leaf world (λ n. given x world (λ s. hands world (server_at site index) n s))).nodes ≡ world.nodes
      by_leaf None x = refl
      by_leaf (Some n) None = refl
      by_leaf (Some n) (Some s) = refl

  -- handing out one message changes no server
  pub nodes_hands_one : (site index : ℕ) (world : World Wire) (o : Output) → (hands_one d site index world o).nodes ≡ world.nodes
  unfolding hands_one sends_to
  nodes_hands_one site index world o = notes_nodes site index world o

  -- handing out messages changes no server
  pub nodes_hands_out : (site index : ℕ) (world : World Wire) (outputs : List Output) → (hands_out d site index world outputs).nodes ≡ world.nodes
  nodes_hands_out site index world outputs = fold-keeps (λ (w : World Wire). w.nodes) (hands_one d site index) (nodes_hands_one site index) world outputs

  -- in a world where a server's messages were handed out
  pub plain_hands_out : (site index : ℕ) (world : World Wire) (outputs : List Output) → ArePlain world → ArePlain (hands_out d site index world outputs)
  plain_hands_out site index world outputs plain =
      plain_of_same_nodes world (hands_out d site index world outputs) (nodes_hands_out site index world outputs) plain

  -- a faulty server changes nothing
  pub faulty_serves : (world : World Wire) (site index : ℕ) (event : Event Wire) → d.faulty site index ≡ true → serves d world site index event ≡ stepped world done.Faulty
  unfolding serves
  faulty_serves world site index event faulty = ap (λ b. cond b (stepped world done.Faulty) (by_stand d world site index event (world.nodes site index).stand)) faulty

  module _ (nothing_written : (changes : List Change) → d.formats.body_size changes ≡ 0) where
    -- a server after a plan that is handed out
    pub plain_settled : (node : Node) (plan : Plan) → IsPlain node → IsPlain (settled d node plan)
    plain_settled node plan plain =
        let stop = plain.no_stop in
        let bytes = plain.empty_journal in
        let size = nothing_written plan.changes in
        record {
          running = plain.running;
          no_stop = either (is_nil plan.changes) node.stop (node.stop - 4) 0 stop (omega (arith, stop));
          not_apart = refl;
          empty_journal = either (is_nil plan.changes) node.bytes (node.bytes + d.formats.body_size plan.changes) EMPTY_JOURNAL bytes (omega (arith, bytes, size));
        }

    -- after an event of a server
    pub plain_after_event : (world : World Wire) (site index : ℕ) (event : Event Wire) → ArePlain world → ArePlain (serves d world site index event).world
    plain_after_event world site index event plain = by_fault (d.faulty site index) refl
      where
        -- the server's node after the event's plan
        after_plan : Node
        after_plan = settled d (world.nodes site index) (plan_at d world site index event)

        by_fault : (b : Bool) → d.faulty site index ≡ b → ArePlain (serves d world site index event).world
        by_fault true e = subst (λ (st : Stepped Wire). ArePlain st.world) (sym (faulty_serves world site index event e)) plain
        by_fault false e =
            subst (λ (st : Stepped Wire). ArePlain st.world)
            (sym (plain_serves d nothing_written world site index event (plain_at world plain site index) e))
            (plain_hands_out site index (with_node world site index after_plan) (plan_at d world site index event).outputs
            (plain_with_node world site index after_plan
            (plain_settled (world.nodes site index) (plan_at d world site index event) (plain_at world plain site index)) plain))

    -- after a server was started again
    plain_restarts : (world : World Wire) (site index : ℕ) (kept : Bool) → ArePlain world → ArePlain (with_node world site index (restarted d (world.nodes site index) kept))
    plain_restarts world site index kept plain =
        plain_with_node world site index (restarted d (world.nodes site index) kept) (restarted_plain d nothing_written (world.nodes site index) kept (plain_at world plain site index)) plain

    -- the parts keep it
    plain_is_kept : IsKept d ArePlain
    plain_is_kept =
        record {
          serving = plain_after_event;
          client = plain_with_customer;
          waiting = λ world pairs fewer. plain_with_waiting world pairs;
          handing = plain_hands;
          sending = λ world wire to. plain_sends_to world wire (dests_of d to);
          ending = plain_ends;
          restarting = plain_restarts;
          sealing = seals_plain d nothing_written;
        }

    -- after a delivery
    pub plain_delivers : (world : World Wire) (to : Dest) (wire : Wire) → ArePlain world → ArePlain (delivers d world to wire).world
    plain_delivers = delivers_kept d ArePlain plain_is_kept

    -- after a flow
    pub plain_flows : (k : ℕ) (x : Flowing Wire) → ArePlain x.world → ArePlain (flows d k x).world
    plain_flows = flows_kept d ArePlain plain_is_kept

    -- after a client's update
    pub plain_submits : (world : World Wire) (client : ℕ) (op : Bytes) → ArePlain world → ArePlain (submits d world client op).world
    plain_submits = submits_kept d ArePlain plain_is_kept

    -- after a line that sets no stop
    pub plain_step : (world : World Wire) (line : Line) → sets_no_stop line ≡ true → ArePlain world → ArePlain (step d world line).world
    plain_step = step_kept d ArePlain plain_is_kept
