-- In the world of lines in range each union that a server recorded as made is one of a quorum of reports.
use Rattle.std.proofs.Common.{◌≡◌, ℕ, ◌+◌, List, [], ◌∷◌, ◌++◌, subst}
use Rattle.std.specs.Prelude.{Some, None}
use Rattle.std.specs.List.{AllByRecursion as Each}
use Rattle.st_words.specs.declared.statement.Statement.{Statement}
use Rattle.st_words.specs.declared.statement.Statement.TheVariants.{ClientUpdate, LocalUnion, GlobalUnion}
use Rattle.st_message.specs.declared.event.Plan.{Plan}
use Rattle.st_message.specs.declared.change.Change.{Change}
use Rattle.st_message.specs.declared.change.Change.TheVariants.{Made}
use Rattle.st_message.specs.declared.change.Heard.{Heard}
use Rattle.st_message.specs.declared.made.MadeSeal.{MadeSeal}
use Rattle.st_schedule.specs.declared.line.Line.{Line}
use Rattle.st_protocol.specs.Words.{client_at, an_update}
use Rattle.st_protocol.specs.Keeping.{joined}
use Rattle.st_protocol.specs.State.{Term, union_of}
use Rattle.st_protocol.specs.Duty.{Event}
use Rattle.st_protocol.specs.World.{Deployment, Node, World, empty, fresh_node, with_node, with_customer, with_waiting, ends, hands, sends_to, hands_out, seat_of, pen_at, reads, settled, plan_at}
use Rattle.st_protocol.specs.Schedule.{seals, steps}
use Rattle.st_ranges.specs.Ranges.{MessageInRange, ReadingInRange}
use Rattle.st_ranges.specs.Deployments.{DeploymentInRange, LineInRange}
use Rattle.st_ranges.proofs.WorldLaws.{WorldInRange, empty_in_range}
use Rattle.st_frame_laws.specs.Events.{EventHas, IsKeptByEvents, waits_at}
use Rattle.st_frame_laws.proofs.ChoiceLaws.{append_all, joined_all, each_has}
use Rattle.st_frame_laws.proofs.PartFrame.{ReadingHas, reading_has, event_reads}
use Rattle.st_frame_laws.proofs.NodeFrame.{nodes_hands_out, seals_same, seals_made, node_has, same_nodes, ListsAt, settled_at, stopped_at, full_at, set_at, restarted_at}
use Rattle.st_frame_laws.proofs.WorldFrame.{steps_kept}
use Rattle.st_honest_laws.specs.Honest.{SealsAreRead}
use Rattle.st_honest_laws.proofs.MadeLaws.{Covers, covers_node, covers_hands, covers_out}
use Rattle.st_honest_laws.proofs.HonestWorlds.{Kept, Delivered, honest_is_kept, empty_has}
use Rattle.st_honest_laws.proofs.RangedLaws.{ReadsInRange, ranged}
use Rattle.st_log_laws.proofs.CheckedLaws.{reads_checked}
use Rattle.st_union_laws.specs.Unions.{HasRecorded}
use Rattle.st_union_laws.proofs.UnionParts.{Brings, IsUnited, UnitesAt}
use Rattle.st_union_laws.proofs.UnionCourse.{duty_unites}
use Rattle.st_union_laws.proofs.ReadReports.{AreBehind, read_brings}

module _ {Wire : Type 0} (d : Deployment Wire) (final : List MadeSeal) where
  -- ---- one server

  -- of a site's server: a union that it makes is one of reports
  abbrev pub Fine : ℕ → Change → Type 0
  Fine site x = UnitesAt (AreBehind d final) site x

  -- so of a server's bodies
  abbrev Bodies : ℕ → List (List Change) → Type 0
  Bodies site bodies = Each (Each (Fine site)) bodies

  -- a server's lists, of which nothing is asked of what it heard
  abbrev Lists : ℕ → List (List Change) → List Heard → Type 0
  Lists site bodies heard = Bodies site bodies

  -- a server, and what may be there after a restart
  abbrev NodeHas : ℕ → ℕ → Node → Type 0
  NodeHas site index node = ListsAt (Lists site) (Bodies site) node

  -- all servers
  abbrev AllHave : World Wire → Type 0
  AllHave world = (s i : ℕ) → NodeHas s i (world.nodes s i)

  -- one body more
  added : (site : ℕ) (bodies : List (List Change)) (body : List Change) → Bodies site bodies → Each (Fine site) body → Bodies site (bodies ++ body ∷ [])
  added site bodies body h p = append_all (Each (Fine site)) bodies (body ∷ []) h (p, tt)

  -- before the first line
  empty_all : AllHave empty
  unfolding empty fresh_node
  empty_all s i = record { lists = tt; apart = tt }

  -- ---- every event

  module _ (h : DeploymentInRange d) (formats : SealsAreRead d MessageInRange) where
    -- ranges and honest seals
    abbrev Honest : World Wire → Type 0
    Honest world = Kept d final MessageInRange formats (WorldInRange d) (ReadsInRange d h) (LineInRange d) (ranged d h) world

    -- and what may be delivered there
    abbrev Wires : World Wire → Wire → Type 0
    Wires world wire = Delivered d final MessageInRange formats (WorldInRange d) (ReadsInRange d h) (LineInRange d) (ranged d h) world wire

    -- what is delivered
    wire_brings : (world : World Wire) → Covers final world.made → (wire : Wire) → Wires world wire → ReadingHas (Brings (AreBehind d final)) (reads d wire)
    wire_brings world c wire there =
        reading_has (Brings (AreBehind d final)) (reads d wire)
        (λ m e.
        let checked = reads_checked d MessageInRange formats wire m (λ n is. subst ReadingInRange is there.0) e in
        read_brings d final wire m checked (subst ReadingInRange checked.read there.0) (there.1 c m checked.read))

    -- a plan
    planned : (world : World Wire) (site index : ℕ) (event : Event Wire) → EventHas (Wires world) event → Covers final world.made → Each (Fine site) (plan_at d world site index event).changes
    planned world site index event e c =
        duty_unites (AreBehind d final) (seat_of d site index) (pen_at d site index) (world.nodes site index).bodies (world.nodes site index).heard (reads d) event
        (event_reads (Brings (AreBehind d final)) (Wires world) (reads d) (wire_brings world c) event e)

    -- that all servers have it, where `final` has all that was handed out
    abbrev Have : World Wire → Type 0
    Have world = Covers final world.made → AllHave world

    -- both facts
    abbrev pub Both : World Wire → Type 0
    Both world = Honest world × Have world

    -- a plan that is handed out
    settles_has : (world : World Wire) (site index : ℕ) (event : Event Wire) → EventHas (Wires world) event → Have world →
        Have (hands_out d site index (with_node world site index (settled d (world.nodes site index) (plan_at d world site index event))) (plan_at d world site index event).outputs)
    settles_has world site index event e w c =
        let plan : Plan = plan_at d world site index event in
        let node : Node = world.nodes site index in
        let changed : World Wire = with_node world site index (settled d node plan) in
        let before : Covers final world.made = covers_node final world site index (settled d node plan) (covers_out final d site index changed plan.outputs c).0 in
        let there : NodeHas site index node = w before site index in
        let p : Each (Fine site) plan.changes = planned world site index event e before in
        same_nodes NodeHas changed (hands_out d site index changed plan.outputs) (nodes_hands_out d site index changed plan.outputs)
        (node_has NodeHas world site index (settled d node plan) (settled_at (Lists site) (Bodies site) d node plan (λ none. there.lists) (added site node.bodies plan.changes there.lists p)) (w before))

    -- one server is changed
    changes_has : (world : World Wire) (site index : ℕ) (node : Node) → (Covers final world.made → NodeHas site index (world.nodes site index) → NodeHas site index node) → Have world → Have (with_node world site index node)
    changes_has world site index node give w c =
        let before : Covers final world.made = covers_node final world site index node c in node_has NodeHas world site index node (give before (w before site index)) (w before)

    -- Every event keeps both.
    both_kept : IsKeptByEvents d Both Wires (LineInRange d)
    unfolding with_customer with_waiting hands sends_to ends
    both_kept =
        let k = honest_is_kept d final MessageInRange formats (WorldInRange d) (ReadsInRange d h) (LineInRange d) (ranged d h) in
        record {
          sent = λ world n wire w e. k.sent world n wire w.0 e;
          outside = λ world to bytes l fair w. k.outside world to bytes l fair w.0;
          settles = λ world site index event correct runs e room goes w. (k.settles world site index event correct runs e room goes w.0, settles_has world site index event e w.1);
          fills = λ world site index correct w.
              (k.fills world site index correct w.0, changes_has world site index _ (λ c n. full_at (Lists site) (Bodies site) d (world.nodes site index) n) w.1);
          stops = λ world site index event correct runs e stop w.
              let node : Node = world.nodes site index in
              let plan : Plan = plan_at d world site index event in (
                k.stops world site index event correct runs e stop w.0,
                changes_has world site index _
                    (λ c n. stopped_at (Lists site) (Bodies site) d node plan.changes (added site node.bodies plan.changes n.lists (planned world site index event e c)) n) w.1,
              );
          setting = λ world site index call correct w.
              (k.setting world site index call correct w.0, changes_has world site index _ (λ c n. set_at (Lists site) (Bodies site) d (world.nodes site index) call n) w.1);
          restarting = λ world site index again correct w. (
            k.restarting world site index again correct w.0,
            changes_has world site index _ (λ c n. restarted_at (Lists site) (Bodies site) d (λ bodies heard b. b) (λ bodies b. b) (world.nodes site index) again n) w.1,
          );
          submitting = λ world client op l known left w. (
            k.submitting world client op l known left w.0,
            λ c. w.1
                (covers_hands final (with_customer world client (waits_at ((world.customers client).time + 1))) (client_at client) (world.customers client).time
                (ClientUpdate (an_update client ((world.customers client).time + 1) op)) c).0,
          );
          answering = λ world client wire site to time number result signed e reads mine good waits new w. (k.answering world client wire site to time number result signed e reads mine good waits new w.0, w.1);
          sealing = λ world site index s l there faulty may left w. (
            k.sealing world site index s l there faulty may left w.0,
            λ c. same_nodes NodeHas world (seals d world site index s).world (seals_same d world site index s) (w.1 (subst (Covers final) (seals_made d world site index s) c)),
          );
          waiting = λ world pairs few w. (k.waiting world pairs few w.0, w.1);
          ending = λ world fault w. (k.ending world fault w.0, w.1);
        }

-- ---- the law

module _ {Wire : Type 0} (d : Deployment Wire) (h : DeploymentInRange d) (formats : SealsAreRead d MessageInRange) (all : List Line) (l : Each (LineInRange d) all) where
  -- the world of these lines
  abbrev last : World Wire
  last = steps d empty all

  -- all servers have it there
  all_have : AllHave d last.made last
  all_have =
      (steps_kept d (Both d last.made h formats) (Wires d last.made h formats) (LineInRange d) (both_kept d last.made h formats) empty all l
      ((empty_in_range d h, empty_has d last.made), λ c. empty_all d last.made)).1 (λ who s made. made)

  -- A union that a server recorded as made is the union of reports of its site.
  pub is_united : (s i : ℕ) (t : Statement) (term : Term) → HasRecorded last s i t → union_of t ≡ Some term → IsUnited (AreBehind d last.made) s t
  is_united s i t term made of =
      by t of
      (each_has (Fine d last.made s) (joined (last.nodes s i).bodies) (Made made.0 t) (joined_all (Fine d last.made s) (last.nodes s i).bodies (all_have s i).lists) made.1)
    where
      by : (t : Statement) → union_of t ≡ Some term → Fine d last.made s (Made made.0 t) → IsUnited (AreBehind d last.made) s t
      by (LocalUnion site local greatest base items) e fine = fine
      by (GlobalUnion site view base items) e fine = fine
      by _ e fine = absurd (let none : None ≡ Some term = e in cc)
