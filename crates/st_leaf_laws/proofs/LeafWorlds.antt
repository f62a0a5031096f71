-- In every world two entries of what was handed out with one party and one leaf are of one statement, where a server's duty
-- makes its statements with leaves that count up and hands out what it made.
use Rattle.std.proofs.Common.{◌≡◌, ◌≤◌, ◌<◌, ℕ, ◌+◌, Bool, true, false, cond, nat_eq, List, [], ◌∷◌, ◌++◌, sym, subst, refl, ◌∙◌, ap, arith, append-nil}
use Rattle.std.proofs.lemmas.Bool.{eqb-true, eq-eqb, and_parts}
use Rattle.std.specs.Prelude.{◌&&◌, Option, Some, None, nat_lt}
use Rattle.std.specs.Option.{IfSome}
use Rattle.std.specs.List.{AllByRecursion as Each}
use Rattle.st_words.specs.declared.ids.ServerId.{ServerId}
use Rattle.st_words.specs.declared.ids.ClientId.{ClientId}
use Rattle.st_words.specs.declared.ids.Who.{Who}
use Rattle.st_words.specs.declared.ids.Who.TheVariants as parties
use Rattle.st_words.specs.declared.statement.Statement.{Statement}
use Rattle.st_words.specs.declared.statement.Statement.TheVariants.{Prepare}
use Rattle.st_message.specs.declared.event.Output.{Output}
use Rattle.st_message.specs.declared.event.Plan.{Plan}
use Rattle.st_message.specs.declared.change.Change.{Change}
use Rattle.st_message.specs.declared.change.Heard.{Heard}
use Rattle.st_message.specs.declared.made.MadeSeal.{MadeSeal}
use Rattle.st_schedule.specs.declared.line.Dest.{Dest}
use Rattle.st_schedule.specs.declared.line.Line.{Line}
use Rattle.st_protocol.specs.Words.{server_at, client_at}
use Rattle.st_protocol.specs.Keeping.{given, joined}
use Rattle.st_protocol.specs.State.{Seat}
use Rattle.st_protocol.specs.Duty.{Event, Reading, Pen, duty}
use Rattle.st_protocol.specs.World.{Deployment, Fault, Node, Pair, Customer, Answered, World, empty, fresh_node, has_handed, handed, with_node, with_customer, with_waiting, uses_leaf, ends, hands, seat_of, reads, pen_at, sends_to, notes_seal, hands_one, hands_out, settled, plan_at, with_reply, answered, agree_on}
use Rattle.st_protocol.specs.Schedule.{restarted, then_assigns, seals, steps}
use Rattle.st_protocol.proofs.GatherLaws.{joined-push}
use Rattle.st_frame_laws.proofs.ChoiceLaws.{chosen_any, append_all, each_any, each_weaker}
use Rattle.st_frame_laws.proofs.NodeFrame.{after_plan, nodes_hands_one, node_itself, node_has, ListsAt, settled_at, stopped_at, full_at, set_at, restarted_at}
use Rattle.st_frame_laws.specs.Events.{IsKeptByEvents, waits_at}
use Rattle.st_frame_laws.proofs.WorldFrame.{steps_kept}
use Rattle.st_leaf_laws.proofs.LeafFacts.{InOrder, IsMade, one_statement, made_before, Agree, OneEach, one_more}

-- the seal in an output is over a statement that was made with its leaf
abbrev pub OutputMade : ℕ → List Change → Output → Type 0
OutputMade site xs o = IfSome o.leaf (λ leaf. IfSome (handed site o.message) (λ s. IsMade leaf s xs))

-- What is claimed of records: leaves count up, and every event keeps this and hands out what was made.
pub record LeavesCount (Wire : Type 0) (B : Seat → List (List Change) → Type 0) : Type 0 where
  pub order : (seat : Seat) (bodies : List (List Change)) → B seat bodies → InOrder 0 (joined bodies)
  pub first : (seat : Seat) → B seat []
  pub event : (read : Wire → Reading) (pen : Pen) (seat : Seat) (bodies : List (List Change)) (heard : List Heard) (event : Event Wire) → B seat bodies →
      B seat (bodies ++ (duty read pen seat bodies heard event).changes ∷ [])
      × Each (OutputMade seat.site (joined (bodies ++ (duty read pen seat bodies heard event).changes ∷ []))) (duty read pen seat bodies heard event).outputs

-- an entry of a server is of its records, one of a client is below its time
abbrev pub EntryAt : (ℕ → ℕ → Node) → (ℕ → Customer) → Who → ℕ → Statement → Type 0
EntryAt nodes customers (parties.Server server) leaf s = IsMade leaf s (joined (nodes server.site server.index).bodies)
EntryAt nodes customers (parties.Client client) leaf s = leaf < (customers client.0).time

abbrev pub EntryHas : (ℕ → ℕ → Node) → (ℕ → Customer) → MadeSeal → Type 0
EntryHas nodes customers x = EntryAt nodes customers x.who x.leaf x.statement

-- a record with a body more
more_bodies : (bodies : List (List Change)) (changes : List Change) (leaf : ℕ) (s : Statement) → IsMade leaf s (joined bodies) → IsMade leaf s (joined (bodies ++ changes ∷ []))
more_bodies bodies changes leaf s m = subst (IsMade leaf s) (sym (joined-push bodies changes)) (made_before leaf s (joined bodies) changes m)

-- a client's number
client_number : Who → ℕ
client_number (parties.Server server) = 0
client_number (parties.Client client) = client.0

-- a client that was changed, and what was handed out before
now_below : {Wire : Type 0} (world : World Wire) (client : ℕ) (customer : Customer) (leaf : ℕ) → leaf < customer.time → leaf < ((with_customer world client customer).customers client).time
unfolding with_customer
now_below world client customer leaf h = subst (λ b. leaf < (cond b customer (world.customers client)).time) (sym (eq-eqb client client refl)) h

customer_made : {Wire : Type 0} (world : World Wire) (client : ℕ) (customer : Customer) → (with_customer world client customer).made ≡ world.made
unfolding with_customer
customer_made world client customer = refl

module _ {Wire : Type 0} (d : Deployment Wire) (B : Seat → List (List Change) → Type 0) (k : LeavesCount Wire B) where
  -- a server's records, and what may be there after a restart
  abbrev pub NodeCounts : ℕ → ℕ → Node → Type 0
  NodeCounts site index node = ListsAt (λ bodies heard. B (seat_of d site index) bodies) (B (seat_of d site index)) node

  -- A world in which one leaf is of one statement.
  pub record WorldCounts (world : World Wire) : Type 0 where
    pub nodes : (site index : ℕ) → NodeCounts site index (world.nodes site index)
    pub entries : Each (EntryHas world.nodes world.customers) world.made
    pub one : OneEach world.made

  -- ---- one entry more

  -- an entry agrees with a new one of its party
  agrees : (nodes : ℕ → ℕ → Node) (customers : ℕ → Customer) → ((site index : ℕ) → InOrder 0 (joined (nodes site index).bodies)) → (y : MadeSeal) →
      ((server : ServerId) → y.who ≡ parties.Server server → IsMade y.leaf y.statement (joined (nodes server.site server.index).bodies)) →
      ((client : ClientId) → y.who ≡ parties.Client client → (customers client.0).time ≤ y.leaf) → (x : MadeSeal) → EntryHas nodes customers x → Agree x y
  agrees nodes customers order y of_server of_client x h who leaf = by x.who refl h
    where
      by : (w : Who) → x.who ≡ w → EntryAt nodes customers w x.leaf x.statement → x.statement ≡ y.statement
      by (parties.Server server) is m =
          one_statement 0 x.leaf x.statement y.statement (joined (nodes server.site server.index).bodies) (order server.site server.index) m
          (subst (λ n. IsMade n y.statement (joined (nodes server.site server.index).bodies)) (sym leaf) (of_server server (sym who ∙ is)))
      by (parties.Client client) is m = absurd (let top = of_client client (sym who ∙ is) in omega (arith, m, top, leaf))

  -- a server's seal is handed out
  server_hands : (world : World Wire) (site index leaf : ℕ) (s : Statement) → IsMade leaf s (joined (world.nodes site index).bodies) → WorldCounts world →
      WorldCounts (hands world (server_at site index) leaf s)
  unfolding hands
  server_hands world site index leaf s m w = by (has_handed world.made (server_at site index) leaf s)
    where
      new : MadeSeal
      new = record { who = server_at site index; leaf = leaf; statement = s }

      by : (b : Bool) → WorldCounts (record world { made = cond b world.made (world.made ++ new ∷ []) })
      by true = record { nodes = w.nodes; entries = w.entries; one = w.one }
      by false =
          record {
            nodes = w.nodes;
            entries = append_all (EntryHas world.nodes world.customers) world.made (new ∷ []) w.entries (m, tt);
            one =
                one_more world.made new w.one
                (each_weaker (EntryHas world.nodes world.customers) (λ x. Agree x new)
                (agrees world.nodes world.customers (λ s i. k.order (seat_of d s i) (world.nodes s i).bodies (w.nodes s i).lists) new
                (λ server is. subst (λ (who : Who). EntryAt world.nodes world.customers who leaf s) is m) (λ client is. absurd (let no : server_at site index ≡ parties.Client client = is in cc)))
                world.made w.entries);
          }

  -- one message of a server's
  one_out : (world : World Wire) (site index : ℕ) (o : Output) → OutputMade site (joined (world.nodes site index).bodies) o → WorldCounts world → WorldCounts (hands_one d site index world o)
  unfolding hands_one notes_seal sends_to
  one_out world site index o m w = sent (by o.leaf (handed site o.message) m)
    where
      by : (leaf : Option ℕ) (x : Option Statement) → IfSome leaf (λ l. IfSome x (λ s. IsMade l s (joined (world.nodes site index).bodies))) →
          WorldCounts (given leaf world (λ n. given x world (λ s. hands world (server_at site index) n s)))
      by None x h = w
      by (Some n) None h = w
      by (Some n) (Some s) h = server_hands world site index n s h w

      sent : WorldCounts (notes_seal d site index world o) → WorldCounts (hands_one d site index world o)
      sent h = record { nodes = h.nodes; entries = h.entries; one = h.one }

  -- all of them
  outs : (site index : ℕ) (world : World Wire) (outputs : List Output) → Each (OutputMade site (joined (world.nodes site index).bodies)) outputs → WorldCounts world →
      WorldCounts (hands_out d site index world outputs)
  outs site index world [] m w = w
  outs site index world (o ∷ os) m w =
      outs site index (hands_one d site index world o) os
      (subst (λ (nodes : ℕ → ℕ → Node). Each (OutputMade site (joined (nodes site index).bodies)) os) (sym (nodes_hands_one d site index world o)) m.1) (one_out world site index o m.0 w)

  -- ---- a server changed

  -- the server's own records at least
  changed : (world : World Wire) (site index : ℕ) (node : Node) → NodeCounts site index node →
      ((leaf : ℕ) (s : Statement) → IsMade leaf s (joined (world.nodes site index).bodies) → IsMade leaf s (joined node.bodies)) → WorldCounts world → WorldCounts (with_node world site index node)
  unfolding with_node
  changed world site index node h more w =
      record {
        nodes = node_has NodeCounts world site index node h w.nodes;
        entries = each_weaker (EntryHas world.nodes world.customers) _ (λ x. entry x.who x.leaf x.statement) world.made w.entries;
        one = w.one;
      }
    where
      keeps : (s i leaf : ℕ) (t : Statement) (b : Bool) → (nat_eq site s && nat_eq index i) ≡ b → IsMade leaf t (joined (world.nodes s i).bodies) →
          IsMade leaf t (joined (cond b node (world.nodes s i)).bodies)
      keeps s i leaf t true e g =
          let parts = and_parts (nat_eq site s) (nat_eq index i) e in
          more leaf t
          (subst (λ n. IsMade leaf t (joined (world.nodes n index).bodies)) (sym (eqb-true site s parts.0))
          (subst (λ n. IsMade leaf t (joined (world.nodes s n).bodies)) (sym (eqb-true index i parts.1)) g))
      keeps s i leaf t false e g = g

      entry : (who : Who) (leaf : ℕ) (t : Statement) → EntryAt world.nodes world.customers who leaf t →
          EntryAt (λ s i. cond (nat_eq site s && nat_eq index i) node (world.nodes s i)) world.customers who leaf t
      entry (parties.Server server) leaf t g = keeps server.site server.index leaf t (nat_eq site server.site && nat_eq index server.index) refl g
      entry (parties.Client client) leaf t g = g

  -- a client changed, whose time doesn't fall
  customer_changed : (world : World Wire) (client : ℕ) (customer : Customer) → (world.customers client).time ≤ customer.time → WorldCounts world → WorldCounts (with_customer world client customer)
  unfolding with_customer
  customer_changed world client customer later w =
      record { nodes = w.nodes; entries = each_weaker (EntryHas world.nodes world.customers) _ (λ x. entry x.who x.leaf x.statement) world.made w.entries; one = w.one }
    where
      at : (c leaf : ℕ) (b : Bool) → nat_eq client c ≡ b → leaf < (world.customers c).time → leaf < (cond b customer (world.customers c)).time
      at c leaf true e g = let here = subst (λ n. leaf < (world.customers n).time) (sym (eqb-true client c e)) g in omega (arith, here, later)
      at c leaf false e g = g

      entry : (who : Who) (leaf : ℕ) (t : Statement) → EntryAt world.nodes world.customers who leaf t → EntryAt world.nodes (λ c. cond (nat_eq client c) customer (world.customers c)) who leaf t
      entry (parties.Server server) leaf t g = g
      entry (parties.Client c) leaf t g = at c.0 leaf (nat_eq client c.0) refl g

  -- a client's seal is handed out, and its time is one more
  client_hands : (world : World Wire) (client : ℕ) (s : Statement) → WorldCounts world →
      WorldCounts (hands (with_customer world client (waits_at ((world.customers client).time + 1))) (client_at client) (world.customers client).time s)
  unfolding hands client_number
  client_hands world client s w = by (has_handed asks.made (client_at client) time s)
    where
      time : ℕ
      time = (world.customers client).time

      asks : World Wire
      asks = with_customer world client (waits_at (time + 1))

      new : MadeSeal
      new = record { who = client_at client; leaf = time; statement = s }

      later : WorldCounts asks
      later = customer_changed world client (waits_at (time + 1)) (omega arith) w

      agree : Each (λ x. Agree x new) world.made
      agree =
          each_weaker (EntryHas world.nodes world.customers) (λ x. Agree x new)
          (agrees world.nodes world.customers (λ s i. k.order (seat_of d s i) (world.nodes s i).bodies (w.nodes s i).lists) new
          (λ server is. absurd (let no : client_at client ≡ parties.Server server = is in cc)) (λ c is. let same : client ≡ c.0 = ap client_number is in subst (λ n. (world.customers n).time ≤ time) same (omega arith)))
          world.made w.entries

      by : (b : Bool) → WorldCounts (record asks { made = cond b asks.made (asks.made ++ new ∷ []) })
      by true = record { nodes = later.nodes; entries = later.entries; one = later.one }
      by false =
          record {
            nodes = later.nodes;
            entries = append_all (EntryHas asks.nodes asks.customers) asks.made (new ∷ []) later.entries (now_below world client (waits_at (time + 1)) time (omega arith), tt);
            one = one_more asks.made new later.one (subst (λ (made : List MadeSeal). Each (λ x. Agree x new) made) (sym (customer_made world client (waits_at (time + 1)))) agree);
          }

  -- the time of a client that takes a Reply
  answered_time : (customer : Customer) (site index : ℕ) (a : Answered) → (answered d (with_reply d customer site index a) site a).time ≡ customer.time
  answered_time customer site index a = by (nat_lt d.f (agree_on d (with_reply d customer site index a) site a))
    where
      by : (b : Bool) →
          (cond b (record { time = customer.time; waits = false; replies = λ s i. None; result = Some a }) (with_reply d customer site index a)).time ≡ customer.time
      by true = refl
      by false = refl

  -- a client's update
  submitted : (world : World Wire) (client : ℕ) (s : Statement) (wire : Wire) (to : List Dest) → WorldCounts world →
      WorldCounts (sends_to d (hands (with_customer world client (waits_at ((world.customers client).time + 1))) (client_at client) (world.customers client).time s) wire to)
  unfolding sends_to
  submitted world client s wire to w = let h = handed_out in record { nodes = h.nodes; entries = h.entries; one = h.one }
    where
      time : ℕ
      time = (world.customers client).time

      asks : World Wire
      asks = with_customer world client (waits_at (time + 1))

      handed_out : WorldCounts (hands asks (client_at client) time s)
      handed_out = client_hands world client s w

  -- a faulty server's line changes no server and hands out nothing that is noted
  sealed_counts : (world : World Wire) (site index : ℕ) (s : Statement) → WorldCounts world → WorldCounts (seals d world site index s).world
  unfolding seals then_assigns sends_to uses_leaf
  sealed_counts world site index (Prepare leading view local number value) w = record { nodes = w.nodes; entries = w.entries; one = w.one }
  sealed_counts world site index _ w = record { nodes = w.nodes; entries = w.entries; one = w.one }

  waiting_counts : (world : World Wire) (pairs : List Pair) → WorldCounts world → WorldCounts (with_waiting world pairs)
  unfolding with_waiting
  waiting_counts world pairs w = record { nodes = w.nodes; entries = w.entries; one = w.one }

  ending_counts : (world : World Wire) (fault : Option Fault) → WorldCounts world → WorldCounts (ends world fault)
  unfolding ends
  ending_counts world fault w = record { nodes = w.nodes; entries = w.entries; one = w.one }

  -- a server after a restart
  restarted_counts : (world : World Wire) (site index : ℕ) (again : Bool) → WorldCounts world → WorldCounts (with_node world site index (restarted d (world.nodes site index) again))
  restarted_counts world site index again w =
      changed world site index (restarted d (world.nodes site index) again)
      (restarted_at (λ bodies heard. B (seat_of d site index) bodies) (B (seat_of d site index)) d (λ bodies heard b. b) (λ bodies b. b) (world.nodes site index) again (w.nodes site index)) more w
    where
      more : (leaf : ℕ) (s : Statement) → IsMade leaf s (joined (world.nodes site index).bodies) → IsMade leaf s (joined (restarted d (world.nodes site index) again).bodies)
      more leaf s m =
          chosen_any (λ (n : Node). IsMade leaf s (joined n.bodies)) (cond again (world.nodes site index).apart None) _ _ m (λ changes. more_bodies (world.nodes site index).bodies changes leaf s m)

  -- a plan that is handed out
  settled_counts : (world : World Wire) (site index : ℕ) (event : Event Wire) → WorldCounts world →
      WorldCounts (hands_out d site index (with_node world site index (settled d (world.nodes site index) (plan_at d world site index event))) (plan_at d world site index event).outputs)
  settled_counts world site index event w =
      outs site index (with_node world site index node) plan.outputs (subst (λ (n : Node). Each (OutputMade site (joined n.bodies)) plan.outputs) (sym (node_itself world site index node)) out)
      (changed world site index node bodies more w)
    where
      old : List (List Change)
      old = (world.nodes site index).bodies

      plan : Plan
      plan = plan_at d world site index event

      node : Node
      node = settled d (world.nodes site index) plan

      done : B (seat_of d site index) (old ++ plan.changes ∷ []) × Each (OutputMade site (joined (old ++ plan.changes ∷ []))) plan.outputs
      done = k.event (reads d) (pen_at d site index) (seat_of d site index) old (world.nodes site index).heard event (w.nodes site index).lists

      bodies : NodeCounts site index node
      bodies =
          settled_at (λ bodies heard. B (seat_of d site index) bodies) (B (seat_of d site index)) d (world.nodes site index) plan (λ e. (w.nodes site index).lists) done.0

      more : (leaf : ℕ) (s : Statement) → IsMade leaf s (joined old) → IsMade leaf s (joined node.bodies)
      more leaf s m = after_plan (λ bodies. IsMade leaf s (joined bodies)) old plan.changes (λ e. m) (more_bodies old plan.changes leaf s m)

      out : Each (OutputMade site (joined node.bodies)) plan.outputs
      out =
          after_plan (λ bodies. Each (OutputMade site (joined bodies)) plan.outputs) old plan.changes
          (λ e. subst (λ (xs : List Change). Each (OutputMade site xs) plan.outputs) (ap (λ (changes : List Change). joined (old ++ changes ∷ [])) e ∙ (joined-push old [] ∙ append-nil (joined old))) done.1)
          done.1

  -- Every event keeps it, whatever is delivered.
  pub counts_are_kept : IsKeptByEvents d WorldCounts (λ world wire. Unit {0}) (λ line. Unit {0})
  counts_are_kept =
      record {
        sent = λ world n wire h e. tt;
        outside = λ world to bytes l fair h. tt;
        settles = λ world site index event correct runs e room goes h. settled_counts world site index event h;
        fills = λ world site index correct h.
            changed world site index _ (full_at (λ bodies heard. B (seat_of d site index) bodies) (B (seat_of d site index)) d (world.nodes site index) (h.nodes site index)) (λ leaf s m. m) h;
        stops = λ world site index event correct runs e stop h.
            changed world site index _
            (stopped_at (λ bodies heard. B (seat_of d site index) bodies) (B (seat_of d site index)) d (world.nodes site index) (plan_at d world site index event).changes
            (k.event (reads d) (pen_at d site index) (seat_of d site index) (world.nodes site index).bodies (world.nodes site index).heard event (h.nodes site index).lists).0 (h.nodes site index))
            (λ leaf s m. m) h;
        setting = λ world site index call correct h.
            changed world site index _ (set_at (λ bodies heard. B (seat_of d site index) bodies) (B (seat_of d site index)) d (world.nodes site index) call (h.nodes site index)) (λ leaf s m. m) h;
        restarting = λ world site index again correct h. restarted_counts world site index again h;
        submitting = λ world client op l known left h. submitted world client _ _ _ h;
        answering = λ world client wire site to time number result signed e reads mine good waits new h.
            customer_changed world client _ (let same = answered_time (world.customers client) site signed.index (record { number = number; result = result }) in omega (arith, same)) h;
        sealing = λ world site index s l there faulty may left h. sealed_counts world site index s h;
        waiting = λ world pairs few h. waiting_counts world pairs h;
        ending = λ world fault h. ending_counts world fault h;
      }

  -- before the first line
  empty_counts : WorldCounts empty
  unfolding empty fresh_node
  empty_counts = record { nodes = λ site index. record { lists = k.first (seat_of d site index); apart = tt }; entries = tt; one = tt }

  -- In the world of any lines all this is so.
  pub worlds_count : (all : List Line) → WorldCounts (steps d empty all)
  worlds_count all = steps_kept d WorldCounts (λ world wire. Unit {0}) (λ line. Unit {0}) counts_are_kept empty all (each_any all) empty_counts
