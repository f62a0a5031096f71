-- What ended a world stays, whatever comes after.
use Rattle.std.proofs.Common.{◌≡◌, ℕ, List, [], ◌∷◌, ap}
use Rattle.std.specs.Prelude.{Option, Some}
use Rattle.st_words.specs.declared.ids.Who.{Who}
use Rattle.st_words.specs.declared.statement.Statement.{Statement}
use Rattle.st_words.specs.declared.statement.Statement.TheVariants.{Prepare}
use Rattle.st_seal.specs.declared.quorum.Signed.{Signed}
use Rattle.st_message.specs.declared.event.Output.{Output}
use Rattle.st_message.specs.declared.message.Message.TheVariants as messages
use Rattle.st_schedule.specs.declared.line.Dest.{Dest}
use Rattle.st_schedule.specs.declared.line.Line.{Line}
use Rattle.st_schedule.specs.declared.line.Line.TheVariants as lines
use Rattle.st_protocol.specs.Words.{server_at}
use Rattle.st_protocol.specs.Keeping.{or_else}
use Rattle.st_protocol.specs.Duty.{Event}
use Rattle.st_protocol.specs.World.{Deployment, Fault, Node, Pair, Customer, World, with_node, with_customer, with_waiting, uses_leaf, ends, hands, send_fault, dests_of, sends_to, hands_out, serves, delivers}
use Rattle.st_protocol.specs.Schedule.{Flowing, sealed_message, set_to_stop, flows, restarted, client_seal_of, then_assigns, seals, goes, step, goes_on, steps}
use Rattle.st_flows.proofs.KeptLaws.{IsKept, IsKeptByServers, StopKept, hands_out_kept, serves_kept, delivers_kept, flows_kept, goes_kept, line_kept}

module _ {Wire : Type 0} (d : Deployment Wire) (f : Fault) where
  -- ended by this fault
  abbrev Ended : World Wire → Type 0
  Ended world = world.ended ≡ Some f

  -- ---- sending

  -- after a message that is sent
  pub sends_to_ended : (world : World Wire) (wire : Wire) (to : List Dest) → world.ended ≡ Some f → (sends_to d world wire to).ended ≡ Some f
  unfolding sends_to
  sends_to_ended world wire to e = ap (λ o. or_else o (send_fault d world wire)) e

  -- after a further fault
  pub ends_ended : (world : World Wire) (fault : Option Fault) → world.ended ≡ Some f → (ends world fault).ended ≡ Some f
  unfolding ends
  ends_ended world fault e = ap (λ o. or_else o fault) e

  -- ---- the small changes

  -- a changed server changes no fault
  node_ended : (world : World Wire) (site index : ℕ) (node : Node) → world.ended ≡ Some f → (with_node world site index node).ended ≡ Some f
  unfolding with_node
  node_ended world site index node e = e

  -- a changed client changes no fault
  customer_ended : (world : World Wire) (client : ℕ) (customer : Customer) → world.ended ≡ Some f → (with_customer world client customer).ended ≡ Some f
  unfolding with_customer
  customer_ended world client customer e = e

  -- what waits changes no fault
  waiting_ended : (world : World Wire) (pairs : List Pair) → world.ended ≡ Some f → (with_waiting world pairs).ended ≡ Some f
  unfolding with_waiting
  waiting_ended world pairs e = e

  -- a seal that is handed out changes no fault
  hands_ended : (world : World Wire) (who : Who) (leaf : ℕ) (s : Statement) → world.ended ≡ Some f → (hands world who leaf s).ended ≡ Some f
  unfolding hands
  hands_ended world who leaf s e = e

  -- a used leaf changes no fault
  leaf_ended : (world : World Wire) (site index : ℕ) → world.ended ≡ Some f → (uses_leaf world site index).ended ≡ Some f
  unfolding uses_leaf
  leaf_ended world site index e = e

  -- ---- a server's event

  -- a server's changes and messages keep it
  ended_by_servers : IsKeptByServers d Ended
  ended_by_servers = record { changing = node_ended; handing = hands_ended; sending = λ world wire to. sends_to_ended world wire (dests_of d to) }

  -- after all messages of a server's
  pub hands_out_ended : (site index : ℕ) (world : World Wire) (outputs : List Output) → world.ended ≡ Some f → (hands_out d site index world outputs).ended ≡ Some f
  hands_out_ended = hands_out_kept d Ended ended_by_servers

  -- after an event of a server
  pub serves_ended : (world : World Wire) (site index : ℕ) (event : Event Wire) → world.ended ≡ Some f → (serves d world site index event).world.ended ≡ Some f
  serves_ended = serves_kept d Ended ended_by_servers

  -- ---- what isn't a server's event

  -- after a sealed Prepare's assignment
  assigns_ended : (world : World Wire) (s : Statement) (signed : Signed) → world.ended ≡ Some f → (then_assigns d world s signed).ended ≡ Some f
  unfolding then_assigns
  assigns_ended world (Prepare site view local number value) signed e =
      sends_to_ended world (d.formats.encode (messages.Assign view local number value (client_seal_of d world value) signed)) [] e
  assigns_ended world _ signed e = e

  -- after a faulty server's seal
  seals_ended : (world : World Wire) (site index : ℕ) (s : Statement) → world.ended ≡ Some f → (seals d world site index s).world.ended ≡ Some f
  unfolding seals
  seals_ended world site index s e =
      let signed : Signed = record { index = index; seal = d.formats.seal (server_at site index) (world.leaves site index) s } in
      assigns_ended (sends_to d (uses_leaf world site index) (d.formats.encode (sealed_message s signed)) []) s signed
      (sends_to_ended (uses_leaf world site index) (d.formats.encode (sealed_message s signed)) [] (leaf_ended world site index e))

  -- the parts keep it
  ended_is_kept : IsKept d Ended
  ended_is_kept =
      record {
        serving = serves_ended;
        client = customer_ended;
        waiting = λ world pairs fewer. waiting_ended world pairs;
        handing = hands_ended;
        sending = λ world wire to. sends_to_ended world wire (dests_of d to);
        ending = ends_ended;
        restarting = λ world site index kept. node_ended world site index (restarted d (world.nodes site index) kept);
        sealing = seals_ended;
      }

  -- so does a stop
  stop_ended : (world : World Wire) (line : Line) → world.ended ≡ Some f → StopKept d Ended world line
  stop_ended world (lines.Stop server call) e =
      node_ended world server.site server.index (set_to_stop (world.nodes server.site server.index) call) e
  stop_ended world _ e = tt

  -- after a delivery
  pub delivers_ended : (world : World Wire) (to : Dest) (wire : Wire) → world.ended ≡ Some f → (delivers d world to wire).world.ended ≡ Some f
  delivers_ended = delivers_kept d Ended ended_is_kept

  -- after a flow
  pub flows_ended : (k : ℕ) (x : Flowing Wire) → x.world.ended ≡ Some f → (flows d k x).world.ended ≡ Some f
  flows_ended = flows_kept d Ended ended_is_kept

  -- after a line that names what is there
  pub goes_ended : (world : World Wire) (line : Line) → world.ended ≡ Some f → (goes d world line).world.ended ≡ Some f
  goes_ended world line e = goes_kept d Ended ended_is_kept world line (stop_ended world line e) e

  -- after a line
  pub step_ended : (world : World Wire) (line : Line) → world.ended ≡ Some f → (step d world line).world.ended ≡ Some f
  step_ended world line e = line_kept d Ended ended_is_kept world line (stop_ended world line e) e

  -- after lines
  pub steps_ended : (world : World Wire) (all : List Line) → world.ended ≡ Some f → (steps d world all).ended ≡ Some f
  steps_ended world [] e = e
  steps_ended world (line ∷ more) e = steps_ended (goes_on d world line) more (step_ended world line e)
