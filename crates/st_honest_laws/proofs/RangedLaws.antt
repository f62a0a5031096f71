-- Events keep ranges, in the form in which another invariant of worlds takes them.
use Rattle.std.proofs.Common.{◌≡◌, ℕ, ◌+◌, false, [], ◌∷◌, ◌++◌, subst, arith}
use Rattle.st_words.specs.declared.statement.Statement.TheVariants.{ClientUpdate}
use Rattle.st_message.specs.declared.event.Plan.{Plan}
use Rattle.st_message.specs.declared.event.Scope.TheVariants as scopes
use Rattle.st_protocol.specs.Words.{server_at, client_at, an_update}
use Rattle.st_protocol.specs.Duty.{Event, Deliver, LocalTimeout, GlobalTimeout, Tick}
use Rattle.st_protocol.specs.World.{Deployment, Node, World, seat_of, reads, dests_of, with_node, with_customer, settled, stands_full, plan_at}
use Rattle.st_protocol.specs.Schedule.{set_to_stop, restarted}
use Rattle.st_ranges.specs.Ranges.{MessageInRange, ReadingInRange, EventInRange, PlanInRange}
use Rattle.st_ranges.specs.Deployments.{DeploymentInRange, LineInRange}
use Rattle.st_ranges.proofs.WorldLaws.{WorldInRange, forgets, sealed_message_in_range, settled_in_range, full_in_range, stopped_in_range, stop_in_range, restarted_in_range, node_in_range, customer_in_range, waiting_in_range, ends_in_range, hands_in_range, sends_in_range, out_in_range, delivery_in_range, plan_in_range, sent_in_range, update_in_range, client_seal_short, faulty_in_range}
use Rattle.st_frame_laws.specs.Events.{EventHas, waits_at}
use Rattle.st_honest_laws.proofs.HonestWorlds.{SendsIn}

module _ {Wire : Type 0} (d : Deployment Wire) (h : DeploymentInRange d) where
  -- what is delivered
  abbrev pub ReadsInRange : World Wire → Wire → Type 0
  ReadsInRange world wire = ReadingInRange (d.formats.read wire)

  event_in : (world : World Wire) (event : Event Wire) → EventHas (ReadsInRange world) event → EventInRange (reads d) event
  event_in world (Deliver wire) e = delivery_in_range d wire e
  event_in world LocalTimeout e = tt
  event_in world GlobalTimeout e = tt
  event_in world Tick e = tt

  -- the plan of an event
  planned : (world : World Wire) (site index : ℕ) (event : Event Wire) → d.faulty site index ≡ false → EventHas (ReadsInRange world) event → WorldInRange d world →
      PlanInRange (seat_of d site index) (world.nodes site index).bodies (world.nodes site index).heard (plan_at d world site index event)
  planned world site index event correct e w = plan_in_range d h world site index event correct (event_in world event e) w

  pub ranged : SendsIn d (WorldInRange d) ReadsInRange (LineInRange d) MessageInRange
  ranged =
      record {
        kept =
            record {
              sent = λ world n wire w e. sent_in_range d h world n wire e w;
              outside = λ world to bytes l fair w. l.2;
              settles = λ world site index event correct runs e room goes w.
                  let p = planned world site index event correct e w in
                  let node : Node = world.nodes site index in
                  let plan : Plan = plan_at d world site index event in
                  out_in_range d site index (with_node world site index (settled d node plan)) plan.outputs p.outputs
                  (node_in_range d world site index (settled d node plan) (settled_in_range d (seat_of d site index) node plan (w.nodes site index) p) w);
              fills = λ world site index correct w.
                  node_in_range d world site index (stands_full d (world.nodes site index)) (full_in_range d (seat_of d site index) (world.nodes site index) (w.nodes site index)) w;
              stops = λ world site index event correct runs e stop w.
                  let p = planned world site index event correct e w in
                  let node : Node = world.nodes site index in
                  let plan : Plan = plan_at d world site index event in
                  node_in_range d world site index _
                  (stopped_in_range d (seat_of d site index) node plan.changes (w.nodes site index)
                  (forgets (seat_of d site index) (node.bodies ++ plan.changes ∷ []) (node.heard ++ plan.heard) p.lists)) w;
              setting = λ world site index call correct w.
                  node_in_range d world site index (set_to_stop (world.nodes site index) call) (stop_in_range d (seat_of d site index) (world.nodes site index) call (w.nodes site index)) w;
              restarting = λ world site index again correct w.
                  node_in_range d world site index (restarted d (world.nodes site index) again) (restarted_in_range d (seat_of d site index) (world.nodes site index) again (w.nodes site index)) w;
              submitting = λ world client op l known left w.
                  sends_in_range d _ _ (dests_of d scopes.All) (update_in_range d h client (world.customers client).time op l.1.0 l.0 left)
                  (hands_in_range d (with_customer world client (waits_at ((world.customers client).time + 1))) (client_at client) (world.customers client).time
                  (ClientUpdate (an_update client ((world.customers client).time + 1) op)) (customer_in_range d world client (waits_at ((world.customers client).time + 1)) w));
              answering = λ world client wire site to time number result signed e reads mine good waits new w. customer_in_range d world client _ w;
              sealing = λ world site index s l there faulty may left w. faulty_in_range d h world site index s l.1.0.1 l.0 l.1.1 w;
              waiting = λ world pairs few w. waiting_in_range d world pairs w;
              ending = λ world fault w. ends_in_range d world fault w;
            };
        reads = λ world wire m e is. subst ReadingInRange is e;
        plans = λ world site index event correct e w. (planned world site index event correct e w).outputs;
        updates = λ world client op l known left w. update_in_range d h client (world.customers client).time op l.1.0 l.0 left;
        sealing = λ world site index s l w.
            sealed_message_in_range s _ l.0 l.1.1 ((omega arith, h.keeps.seals (server_at site index) (world.leaves site index) s (l.0.0, l.1.1)), l.1.0.1);
        assigns = λ world site index leading view local number value l w.
            let k = l.0.0 in
            let f = l.1.1 in
            let seal = h.keeps.seals (server_at site index) (world.leaves site index) _ (k, f) in
            ((k.0, k.1, client_seal_short d h world value (k.1, f.4), (omega arith, seal)), (f.1, f.2, f.3, f.4, l.1.0.1));
      }
