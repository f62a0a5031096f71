-- In the world of lines in range each server's records hold certificates alone, and so do the messages that were sent.
use Rattle.std.proofs.Common.{◌≡◌, ◌∙◌, ap, ℕ, Bool, true, List, [], ◌∷◌, ◌++◌, length, sym, subst, refl, arith}
use Rattle.std.proofs.lemmas.Bool.{and_from}
use Rattle.std.specs.Prelude.{Option, Some, None, slice_get}
use Rattle.std.specs.Option.{IfSome}
use Rattle.std.specs.List.{AllByRecursion as Each}
use Rattle.st_words.specs.declared.ids.Who.{Who}
use Rattle.st_words.specs.declared.statement.Item.{Item}
use Rattle.st_words.specs.declared.statement.Statement.{Statement}
use Rattle.st_words.specs.declared.statement.Statement.TheVariants.{LocalReport, GlobalReport}
use Rattle.st_seal.specs.declared.quorum.Signed.{Signed}
use Rattle.st_message.specs.declared.message.Message.{Message}
use Rattle.st_message.specs.declared.event.Output.{Output}
use Rattle.st_message.specs.declared.event.Plan.{Plan}
use Rattle.st_message.specs.declared.change.Change.{Change}
use Rattle.st_message.specs.declared.change.Heard.{Heard}
use Rattle.st_schedule.specs.declared.line.Line.{Line}
use Rattle.st_protocol.specs.Words.{Bytes}
use Rattle.st_protocol.specs.Keeping.{joined}
use Rattle.st_protocol.specs.State.{Seat, Answers}
use Rattle.st_protocol.specs.Questions.{questions}
use Rattle.st_protocol.specs.Duty.{Event, Clean}
use Rattle.st_protocol.specs.World.{Deployment, Node, World, empty, fresh_node, seat_of, pen_at, reads, settled, stands_stopped, plan_at}
use Rattle.st_protocol.specs.Schedule.{sealed_message, steps}
use Rattle.st_protocol.proofs.QuestionLaws.{one_body}
use Rattle.st_ranges.specs.Ranges.{MessageInRange, ReadingInRange}
use Rattle.st_ranges.specs.Deployments.{DeploymentInRange, LineInRange}
use Rattle.st_ranges.proofs.WorldLaws.{WorldInRange, empty_in_range}
use Rattle.st_frame_laws.specs.Events.{EventHas, IsKeptByEvents}
use Rattle.st_frame_laws.proofs.ChoiceLaws.{append_all, append_parts, joined_all, found_has}
use Rattle.st_frame_laws.proofs.StateFrame.{forgets_has, nothing_has}
use Rattle.st_frame_laws.proofs.PartFrame.{ReadingHas, reading_has, event_reads}
use Rattle.st_frame_laws.proofs.NodeFrame.{AreNodesKept, nodes_beside, ListsAt, settled_at, stopped_at, full_at, set_at, restarted_at}
use Rattle.st_frame_laws.proofs.SentFrame.{AreWiresKept, sent_beside}
use Rattle.st_frame_laws.proofs.WorldFrame.{steps_kept}
use Rattle.st_honest_laws.specs.Honest.{SealsAreRead}
use Rattle.st_honest_laws.proofs.RangedLaws.{ReadsInRange, ranged}
use Rattle.st_log_laws.proofs.CheckedLaws.{reads_checked}
use Rattle.st_certificate_laws.specs.Certified.{prepare_of, proposal_of, record_is_certified, items_are_certified, message_is_certified}
use Rattle.st_certificate_laws.proofs.CertificateFacts.{Recorded, certificate_facts, TakenHas}
use Rattle.st_certificate_laws.proofs.CertificateCourse.{AnswersHave, Sends}
use Rattle.st_certificate_laws.proofs.CertificateDuty.{PlanHas, forgets, duty_has}
use Rattle.st_certificate_laws.proofs.ReadLaws.{read_brings}

-- what a faulty server seals holds no certificate: a report in range has no items there
no_items : (holds : Who → Statement → Bytes → Bool) (f sites : ℕ) (of_item : Item → Statement) (items : List Item) → 0 ≡ length items → items_are_certified holds f sites of_item items [] ≡ true
unfolding items_are_certified
no_items holds f sites of_item [] e = refl
no_items holds f sites of_item (i ∷ is) e = absurd (omega (arith, e))

-- so does no message that it seals
sealed_has : (holds : Who → Statement → Bytes → Bool) (f sites : ℕ) (s : Statement) (signed : Signed) → MessageInRange (sealed_message s signed) → message_is_certified holds f sites (sealed_message s signed) ≡ true
sealed_has holds f sites (LocalReport site local index view base items) signed r = and_from _ true (no_items holds f sites (prepare_of site.0) items r.0.1.2) refl
sealed_has holds f sites (GlobalReport site view index base items) signed r = and_from _ true (no_items holds f sites (proposal_of holds f sites) items r.0.1.2) refl
sealed_has holds f sites _ signed r = refl

module _ {Wire : Type 0} (d : Deployment Wire) where
  -- ---- one server

  -- a record of the server's
  abbrev Fine : Seat → Change → Type 0
  Fine seat x = Recorded d.formats.holds seat x

  -- the server's answers
  abbrev State : Seat → Answers → Type 0
  State seat state = AnswersHave d.formats.holds seat state

  -- a server's lists, and its bodies alone, as a restart leaves them
  abbrev Lists : ℕ → ℕ → List (List Change) → List Heard → Type 0
  Lists s i bodies heard = State (seat_of d s i) (questions (seat_of d s i) bodies heard) × Each (Each (Fine (seat_of d s i))) bodies

  -- so of its bodies alone, as a restart leaves them
  abbrev Bodies : ℕ → ℕ → List (List Change) → Type 0
  Bodies s i bodies = Lists s i bodies []

  -- a server, and what may be there after a restart
  abbrev NodeHas : ℕ → ℕ → Node → Type 0
  NodeHas s i node = ListsAt (Lists s i) (Bodies s i) node

  -- what a message on its way is read as
  abbrev WireIs : Wire → Type 0
  WireIs wire = (m : Message) → d.formats.read wire ≡ Clean m → message_is_certified d.formats.holds d.f d.sites m ≡ true

  module _ (s i : ℕ) where
    -- a server that forgets what it heard
    lost : (bodies : List (List Change)) (heard : List Heard) → Lists s i bodies heard → Bodies s i bodies
    lost bodies heard h = (forgets d.formats.holds (seat_of d s i) bodies (forgets_has (certificate_facts d.formats.holds (seat_of d s i)) (seat_of d s i) bodies heard h.0.facts), h.1)

    module _ (node : Node) (plan : Plan) (h : NodeHas s i node) (p : PlanHas d.formats.holds (seat_of d s i) node.bodies node.heard plan) where
      -- its lists with a plan's
      added : Lists s i (node.bodies ++ plan.changes ∷ []) (node.heard ++ plan.heard)
      added = (p.state, append_all (Each (Fine (seat_of d s i))) node.bodies (plan.changes ∷ []) h.lists.1 (p.changes, tt))

      -- a plan that is handed out
      settled_has : NodeHas s i (settled d node plan)
      settled_has =
          settled_at (Lists s i) (Bodies s i) d node plan
          (λ none. (
            subst (State (seat_of d s i))
                (ap (λ (changes : List Change). questions (seat_of d s i) (node.bodies ++ changes ∷ []) (node.heard ++ plan.heard)) none ∙ one_body (seat_of d s i) node.bodies (node.heard ++ plan.heard) [])
                p.state,
            h.lists.1,
          ))
          added

      -- a plan whose changes are being written
      stopped_has : NodeHas s i (stands_stopped d node plan.changes)
      stopped_has = stopped_at (Lists s i) (Bodies s i) d node plan.changes (lost (node.bodies ++ plan.changes ∷ []) (node.heard ++ plan.heard) added) h

    -- before the first line
    fresh_has : NodeHas s i fresh_node
    unfolding fresh_node
    fresh_has = record { lists = (forgets d.formats.holds (seat_of d s i) [] (nothing_has (certificate_facts d.formats.holds (seat_of d s i)) (seat_of d s i)), tt); apart = tt }

  -- ---- every event

  module _ (h : DeploymentInRange d) (formats : SealsAreRead d MessageInRange) where
    -- what is delivered
    wire_brings : (site index : ℕ) (wire : Wire) → ReadingInRange (d.formats.read wire) → ReadingHas (TakenHas d.formats.holds (seat_of d site index)) (reads d wire)
    wire_brings site index wire inside =
        reading_has (TakenHas d.formats.holds (seat_of d site index)) (reads d wire)
        (λ m e.
        let checked = reads_checked d MessageInRange formats wire m (λ n is. subst ReadingInRange is inside) e in
        read_brings d site index wire m checked (subst ReadingInRange checked.read inside))

    -- a plan
    planned : (world : World Wire) (site index : ℕ) (event : Event Wire) → EventHas (ReadsInRange d h world) event → NodeHas site index (world.nodes site index) →
        PlanHas d.formats.holds (seat_of d site index) (world.nodes site index).bodies (world.nodes site index).heard (plan_at d world site index event)
    planned world site index event e w =
        duty_has d.formats.holds (seat_of d site index) (pen_at d site index) (world.nodes site index).bodies (world.nodes site index).heard w.lists.0 (reads d) event
        (event_reads (TakenHas d.formats.holds (seat_of d site index)) (ReadsInRange d h world) (reads d) (wire_brings site index) event e)

    -- where one server is changed
    nodes_have : AreNodesKept d (WorldInRange d) (ReadsInRange d h) NodeHas
    nodes_have =
        record {
          settling = λ world site index event runs e r w. settled_has site index (world.nodes site index) (plan_at d world site index event) w (planned world site index event e w);
          stopping = λ world site index event runs e r w. stopped_has site index (world.nodes site index) (plan_at d world site index event) w (planned world site index event e w);
          filling = λ site index node runs w. full_at (Lists site index) (Bodies site index) d node w;
          setting = λ site index node call runs w. set_at (Lists site index) (Bodies site index) d node call w;
          restarting = λ site index node kept runs w. restarted_at (Lists site index) (Bodies site index) d (lost site index) (λ bodies b. b) node kept w;
        }

    -- ranges, and all servers
    abbrev Servers : World Wire → Type 0
    Servers world = WorldInRange d world × ((s i : ℕ) → NodeHas s i (world.nodes s i))

    -- a message that is sent
    wire_is : (m : Message) → MessageInRange m → message_is_certified d.formats.holds d.f d.sites m ≡ true → WireIs (d.formats.encode m)
    wire_is m inside g n e = subst (λ (x : Message). message_is_certified d.formats.holds d.f d.sites x ≡ true) (sym (formats.sent m n inside e)) g

    -- messages of a server's
    wires_are : (site index : ℕ) (outputs : List Output) → Each (λ (o : Output). MessageInRange o.message) outputs → Each (Sends d.formats.holds (seat_of d site index)) outputs →
        Each (λ (o : Output). WireIs (d.formats.encode o.message)) outputs
    wires_are site index [] i g = tt
    wires_are site index (o ∷ os) i g = (wire_is o.message i.0 g.0, wires_are site index os i.1 g.1)

    -- all that is sent
    wires_have : AreWiresKept d Servers (ReadsInRange d h) (LineInRange d) WireIs
    wires_have =
        record {
          planned = λ world site index event runs e r.
              wires_are site index (plan_at d world site index event).outputs ((ranged d h).plans world site index event runs e r.0) (planned world site index event e (r.1 site index)).outputs;
          updates = λ world client op l known left r. wire_is _ ((ranged d h).updates world client op l known left r.0) refl;
          sealed = λ world site index s l r.
              let inside = (ranged d h).sealing world site index s l r.0 in wire_is _ inside (sealed_has d.formats.holds d.f d.sites s _ inside);
          assigns = λ world site index leading view local number value l r. wire_is _ ((ranged d h).assigns world site index leading view local number value l r.0) refl;
        }

    -- Every event keeps all.
    all_kept : IsKeptByEvents d (λ world. Servers world × Each WireIs world.sent) (ReadsInRange d h) (LineInRange d)
    all_kept =
        sent_beside d Servers (ReadsInRange d h) (LineInRange d) WireIs (nodes_beside d (WorldInRange d) (ReadsInRange d h) (LineInRange d) NodeHas (ranged d h).kept nodes_have) wires_have

    -- ---- the laws

    module _ (all : List Line) (l : Each (LineInRange d) all) where
      -- the world of these lines
      abbrev last : World Wire
      last = steps d empty all

      -- all of it holds there
      all_have : Servers last × Each WireIs last.sent
      unfolding empty
      all_have = steps_kept d (λ world. Servers world × Each WireIs world.sent) (ReadsInRange d h) (LineInRange d) all_kept empty all l ((empty_in_range d h, fresh_has), tt)

      -- What each server recorded is certified,
      pub records_certified : (s i : ℕ) → Each (λ (x : Change). record_is_certified d.formats.holds d.f d.sites s x ≡ true) (joined (last.nodes s i).bodies)
      records_certified s i = joined_all (Fine (seat_of d s i)) (last.nodes s i).bodies (all_have.0.1 s i).lists.1

      -- and what may be there after a restart;
      pub apart_certified : (s i : ℕ) → IfSome (last.nodes s i).apart (λ changes. Each (λ (x : Change). record_is_certified d.formats.holds d.f d.sites s x ≡ true) changes)
      apart_certified s i = by (last.nodes s i).apart (all_have.0.1 s i).apart
        where
          by : (x : Option (List Change)) → IfSome x (λ changes. Bodies s i ((last.nodes s i).bodies ++ changes ∷ [])) →
              IfSome x (λ changes. Each (λ (x : Change). record_is_certified d.formats.holds d.f d.sites s x ≡ true) changes)
          by None g = tt
          by (Some changes) g = (append_parts (Each (Fine (seat_of d s i))) (last.nodes s i).bodies (changes ∷ []) g.1).1.0

      -- and so is what was sent.
      pub sent_certified : (n : ℕ) (wire : Wire) (m : Message) → slice_get last.sent n ≡ Some wire → d.formats.read wire ≡ Clean m → message_is_certified d.formats.holds d.f d.sites m ≡ true
      sent_certified n wire m e is = subst (λ (x : Option Wire). IfSome x WireIs) e (found_has WireIs last.sent n all_have.1) m is
