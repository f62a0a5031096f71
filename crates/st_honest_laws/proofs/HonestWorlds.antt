-- Each seal in a world that checks, and is named as of a correct server or a client, is over a statement that this party
-- has handed out.
use Rattle.std.proofs.Common.{◌≡◌, ℕ, ◌+◌, ◌-◌, Bool, true, false, cond, nat_eq, nat_lt, List, [], ◌∷◌, ◌++◌, sym, subst, refl, ◌∙◌, ap}
use Rattle.std.proofs.lemmas.Bool.{eqb-true, and_parts}
use Rattle.std.specs.Prelude.{nat_le, ◌&&◌, ◌%◌, ◌≤◌, not, Option, Some, None, map, slice_get}
use Rattle.std.specs.Option.{IfSome}
use Rattle.std.specs.List.{AllByRecursion as Each}
use Rattle.st_words.specs.declared.ids.Who.TheVariants as parties
use Rattle.st_words.specs.declared.value.Value.{Value}
use Rattle.st_words.specs.declared.value.Value.TheVariants as values
use Rattle.st_words.specs.declared.value.Update.{Update}
use Rattle.st_words.specs.declared.statement.Item.{Item}
use Rattle.st_words.specs.declared.statement.Statement.{Statement}
use Rattle.st_words.specs.declared.statement.Statement.TheVariants.{Prepare, Proposal, Accept, LocalVc, GlobalVc, LocalReport, GlobalReport, LocalUnion, GlobalUnion, Reply, ClientUpdate}
use Rattle.st_message.specs.declared.message.Message.{Message}
use Rattle.st_message.specs.declared.message.Message.TheVariants as messages
use Rattle.st_message.specs.declared.event.Output.{Output}
use Rattle.st_message.specs.declared.event.Plan.{Plan}
use Rattle.st_message.specs.declared.event.Scope.TheVariants as scopes
use Rattle.st_message.specs.declared.change.Change.{Change}
use Rattle.st_message.specs.declared.change.Change.TheVariants.{EnterLocal, EnterGlobal, Made, Prepared, Accepted, Union, Executed}
use Rattle.st_message.specs.declared.change.Heard.{Heard}
use Rattle.st_message.specs.declared.made.MadeSeal.{MadeSeal}
use Rattle.st_message.specs.declared.reason.Reason.TheVariants.{BadSeal}
use Rattle.st_schedule.specs.declared.line.Line.{Line}
use Rattle.st_schedule.specs.declared.line.Line.TheVariants as lines
use Rattle.st_protocol.specs.Words.{Bytes, a_local_vc, a_prepare, server_at, client_at, an_update, site_of}
use Rattle.st_protocol.specs.Keeping.{given, gathered, open_if}
use Rattle.st_protocol.specs.State.{Seat, Word, Answers, open_number}
use Rattle.st_protocol.specs.Questions.{questions}
use Rattle.st_protocol.specs.Assigning.{is_empty}
use Rattle.st_protocol.specs.Known.{Sealed, seals_of}
use Rattle.st_protocol.specs.Duty.{Event, Deliver, LocalTimeout, GlobalTimeout, Tick, Reading, Faulty, Clean}
use Rattle.st_protocol.specs.World.{SealIn, Deployment, Fault, Node, Pair, Customer, World, empty, fresh_node, has_made, handed, Forged, first_bad, with_node, with_customer, with_waiting, ends, hands, seat_of, is_server, checks_in, bad_seal, with_seals, read_known, reads, pen_at, dests_of, sends_to, hands_out, settled, stands_stopped, plan_at}
use Rattle.st_protocol.specs.Schedule.{sealed_message, restarted, client_seal_of, seals, is_correct_who, is_honest, forged_by, is_sealable, steps}
use Rattle.st_protocol.proofs.QuestionLaws.{one_body}
use Rattle.st_honest_laws.specs.Honest.{without_place, in_change, SealsAreRead, IsHonest}
use Rattle.st_frame_laws.specs.Exact.{StatementInDeployment, MessageIsExact}
use Rattle.st_frame_laws.proofs.ExactLaws.{known_parts}
use Rattle.st_frame_laws.proofs.ChoiceLaws.{append_all, each_any, found_has}
use Rattle.st_frame_laws.proofs.StateFrame.{StateHas, forgets_has, nothing_has}
use Rattle.st_frame_laws.proofs.OwnFrame.{own_nothing}
use Rattle.st_frame_laws.proofs.PartFrame.{ReadingHas, event_reads}
use Rattle.st_frame_laws.specs.Events.{EventHas, IsKeptByEvents, waits_at}
use Rattle.st_frame_laws.proofs.NodeFrame.{nodes_hands_out, seals_same, seals_made, node_has, same_nodes, nothing_asked, ListsAt, settled_at, stopped_at, full_at, set_at, restarted_at}
use Rattle.st_frame_laws.proofs.SentFrame.{sent_out, sent_seals}
use Rattle.st_frame_laws.proofs.WorldFrame.{steps_kept}
use Rattle.st_honest_laws.proofs.SealFacts.{SignedHas, QuorumHas, ClientHas, ValueHas, ItemsHave, ReportHas, MessageHas, Leads, RecordHas, seal_facts, quorum_seals, proof_seals, view_seals, message_seals, seals_message}
use Rattle.st_honest_laws.proofs.SealParts.{TakenHas, Led}
use Rattle.st_honest_laws.proofs.SealMore.{NoneAbove}
use Rattle.st_honest_laws.proofs.SealCourse.{OwnSeal, HandsOwn, Owns, HeardSeals, OutputSeals, ListsHave, PlanHas, duty_has}
use Rattle.st_honest_laws.proofs.MadeLaws.{Covers, covers_node, covers_hands, OwnIsMade, covers_out}

-- Another fact R of worlds that events keep, by which all that is sent has In, and all that may be delivered is read as
-- a message with In, if as any.
pub record SendsIn {Wire : Type 0} (d : Deployment Wire) (R : World Wire → Type 0) (DR : World Wire → Wire → Type 0) (L : Line → Type 0) (In : Message → Type 0) : Type 0 where
  pub kept : IsKeptByEvents d R DR L
  pub reads : (world : World Wire) (wire : Wire) (m : Message) → DR world wire → d.formats.read wire ≡ Clean m → In m
  pub plans : (world : World Wire) (site index : ℕ) (event : Event Wire) → d.faulty site index ≡ false → EventHas (DR world) event → R world → Each (λ (o : Output). In o.message) (plan_at d world site index event).outputs
  pub updates : (world : World Wire) (client : ℕ) (op : Bytes) → L (lines.Client (record { 0 = client }) op) → nat_lt client d.clients ≡ true → nat_le d.capacity (world.customers client).time ≡ false → R world →
      In (messages.Update (an_update client ((world.customers client).time + 1) op)
      (d.formats.seal (client_at client) (world.customers client).time (ClientUpdate (an_update client ((world.customers client).time + 1) op))))
  pub sealing : (world : World Wire) (site index : ℕ) (s : Statement) → L (lines.Seal (record { site = site; index = index }) s) → R world →
      In (sealed_message s (record { index = index; seal = d.formats.seal (server_at site index) (world.leaves site index) s }))
  pub assigns : (world : World Wire) (site index leading view local number : ℕ) (value : Value) →
      L (lines.Seal (record { site = site; index = index }) (Prepare (record { 0 = leading }) (record { 0 = view }) (record { 0 = local }) (record { 0 = number }) value)) → R world →
      In (messages.Assign (record { 0 = view }) (record { 0 = local }) (record { 0 = number }) value (client_seal_of d world value)
      (record { index = index; seal = d.formats.seal (server_at site index) (world.leaves site index) (Prepare (record { 0 = leading }) (record { 0 = view }) (record { 0 = local }) (record { 0 = number }) value) }))

-- of a correct party and a seal that checks, it is not so that the statement wasn't made
not_unmade : (correct checks made : Bool) → not (correct && checks && not made) ≡ true → correct ≡ true → checks ≡ true → made ≡ true
not_unmade true true true h c k = refl
not_unmade true true false h c k = h
not_unmade true false made h c k = absurd (let no : false ≡ true = k in cc)
not_unmade false checks made h c k = absurd (let no : false ≡ true = c in cc)

-- of a list without a bad seal, the first is good, and so are the others
good_parts : (good : SealIn → Bool) (x : SealIn) (xs : List SealIn) → first_bad good (x ∷ xs) ≡ None → (good x ≡ true) × (first_bad good xs ≡ None)
unfolding first_bad
good_parts good x xs e = by (good x) refl e
  where
    by : (b : Bool) → good x ≡ b → cond b (first_bad good xs) (Some x.place) ≡ None → (good x ≡ true) × (first_bad good xs ≡ None)
    by true is none = (is, none)
    by false is none = absurd (let no : Some x.place ≡ None = none in cc)

-- no seals are of items without Quorums
no_quorums : (H : Sealed → Type 0) (of_item : Item → Statement) (items : List Item) → ItemsHave H of_item items []
unfolding ItemsHave
no_quorums H of_item [] = tt
no_quorums H of_item (i ∷ is) = tt

-- no place is there where none is at fault
none_given : (place : Option ℕ) → given place None (λ p. Some (Forged p)) ≡ None → place ≡ None
none_given None e = refl
none_given (Some p) e = absurd (let no : Some (Forged p) ≡ None = e in cc)

-- of a server that heard nothing
pub none_above_nothing : (seat : Seat) (bodies : List (List Change)) → NoneAbove (questions seat bodies []).hand
unfolding questions gathered
none_above_nothing seat bodies n s = by (open_number (questions seat bodies []).here n)
  where
    by : (b : Bool) → IfSome (open_if b None) (λ (w : Word). w.view + 1 ≤ cond b 0 0)
    by true = tt
    by false = tt

module _ {Wire : Type 0} (d : Deployment Wire) (final : List MadeSeal) where
  -- all seals in what a message on its way is read as
  abbrev pub WireHas : Wire → Type 0
  WireHas wire = (m : Message) → d.formats.read wire ≡ Clean m → MessageHas (IsHonest d final) d.sites m

  -- a server's lists, and its bodies alone, as a restart leaves them
  abbrev pub Lists : ℕ → ℕ → List (List Change) → List Heard → Type 0
  Lists site index bodies heard = ListsHave (IsHonest d final) (seat_of d site index) bodies heard

  abbrev pub Bodies : ℕ → ℕ → List (List Change) → Type 0
  Bodies site index bodies = StateHas (seal_facts (IsHonest d final) (seat_of d site index)) (questions (seat_of d site index) bodies []) × Each (Each (RecordHas (IsHonest d final) (seat_of d site index))) bodies

  -- a server's lists, and what may be there after a restart
  abbrev pub NodeHas : ℕ → ℕ → Node → Type 0
  NodeHas site index node = ListsAt (Lists site index) (Bodies site index) node

  -- All seals in a world.
  pub record WorldHas (world : World Wire) : Type 0 where
    pub nodes : (site index : ℕ) → NodeHas site index (world.nodes site index)
    pub sent : Each WireHas world.sent

  -- so it is where `final` has all that was handed out
  abbrev pub Honest : World Wire → Type 0
  Honest world = Covers final world.made → WorldHas world

  -- ---- a server's lists

  -- with one server changed
  changed_has : (world : World Wire) (site index : ℕ) (node : Node) → NodeHas site index node → WorldHas world → WorldHas (with_node world site index node)
  unfolding with_node
  changed_has world site index node h w = record { nodes = node_has NodeHas world site index node h w.nodes; sent = w.sent }

  -- a server that forgets what it heard
  again : (site index : ℕ) (bodies : List (List Change)) → Bodies site index bodies → Lists site index bodies []
  again site index bodies h =
      record {
        state = h.0;
        level = none_above_nothing (seat_of d site index) bodies;
        own =
            own_nothing (ReportHas (IsHonest d final) d.sites) (λ c. QuorumHas (IsHonest d final) c.statement c.quorum) (MessageHas (IsHonest d final) d.sites) (λ r h. h) (λ s q h. h) (seat_of d site index)
            bodies;
        changes = h.1;
        messages = tt;
      }

  -- a server after a restart
  restarted_has : (site index : ℕ) (node : Node) (kept : Bool) → NodeHas site index node → NodeHas site index (restarted d node kept)
  restarted_has site index node kept h =
      restarted_at (Lists site index) (Bodies site index) d
      (λ bodies heard l. (forgets_has (seal_facts (IsHonest d final) (seat_of d site index)) (seat_of d site index) bodies heard l.state, l.changes)) (again site index) node kept h

  -- the lists after a plan whose changes are none, and of one
  module _ (site index : ℕ) (node : Node) (plan : Plan) (h : NodeHas site index node) (p : PlanHas (IsHonest d final) (seat_of d site index) node.bodies node.heard plan) where
    module _ (own : Each (HandsOwn (IsHonest d final) (seat_of d site index)) plan.outputs) where
      heard_more : Each (HeardSeals (IsHonest d final) (seat_of d site index)) (node.heard ++ plan.heard)
      heard_more = append_all (HeardSeals (IsHonest d final) (seat_of d site index)) node.heard plan.heard h.lists.messages (p.messages own)

      no_changes : plan.changes ≡ [] → Lists site index node.bodies (node.heard ++ plan.heard)
      no_changes none =
          let e : questions (seat_of d site index) (node.bodies ++ plan.changes ∷ []) (node.heard ++ plan.heard) ≡ questions (seat_of d site index) node.bodies (node.heard ++ plan.heard) =
          ap (λ (changes : List Change). questions (seat_of d site index) (node.bodies ++ changes ∷ []) (node.heard ++ plan.heard)) none ∙ one_body (seat_of d site index) node.bodies (node.heard ++ plan.heard) [] in
          record {
            state = subst (StateHas (seal_facts (IsHonest d final) (seat_of d site index))) e p.state;
            level = subst (λ (q : Answers). NoneAbove q.hand) e p.level;
            own = subst (λ (q : Answers). Owns (IsHonest d final) (seat_of d site index) q.own) e (p.own own);
            changes = h.lists.changes;
            messages = heard_more;
          }

      -- a server after a plan that is handed out
      settled_has : NodeHas site index (settled d node plan)
      settled_has =
          settled_at (Lists site index) (Bodies site index) d node plan no_changes
          (record {
            state = p.state;
            level = p.level;
            own = p.own own;
            changes = append_all (Each (RecordHas (IsHonest d final) (seat_of d site index))) node.bodies (plan.changes ∷ []) h.lists.changes (p.changes, tt);
            messages = heard_more;
          })

    -- a server that stops while it writes a plan's changes
    stopped_has : NodeHas site index (stands_stopped d node plan.changes)
    stopped_has =
        stopped_at (Lists site index) (Bodies site index) d node plan.changes (
          forgets_has (seal_facts (IsHonest d final) (seat_of d site index)) (seat_of d site index) (node.bodies ++ plan.changes ∷ []) (node.heard ++ plan.heard) p.state,
          append_all (Each (RecordHas (IsHonest d final) (seat_of d site index))) node.bodies (plan.changes ∷ []) h.lists.changes (p.changes, tt),
        )
        h

  -- ---- what is handed out

  -- a server's own seals
  own_made : (site index : ℕ) (outputs : List Output) → Each (OwnIsMade final d site index) outputs → Each (HandsOwn (IsHonest d final) (seat_of d site index)) outputs
  own_made site index [] h = tt
  own_made site index (o ∷ os) h = (one o.leaf (handed site o.message) h.0, own_made site index os h.1)
    where
      one : (leaf : Option ℕ) (x : Option Statement) → IfSome leaf (λ leaf. IfSome x (λ s. has_made final (server_at site index) s ≡ true)) →
          IfSome leaf (λ leaf. IfSome x (OwnSeal (IsHonest d final) (seat_of d site index)))
      one None x g = tt
      one (Some n) None g = tt
      one (Some n) (Some s) g = λ seal correct holds. g

  -- where a client is changed, or what waits, or the world ends
  customer_has : (world : World Wire) (client : ℕ) (customer : Customer) → Honest world → Honest (with_customer world client customer)
  unfolding with_customer
  customer_has world client customer h c = record { nodes = (h c).nodes; sent = (h c).sent }

  waiting_has : (world : World Wire) (pairs : List Pair) → Honest world → Honest (with_waiting world pairs)
  unfolding with_waiting
  waiting_has world pairs h c = record { nodes = (h c).nodes; sent = (h c).sent }

  ending_has : (world : World Wire) (fault : Option Fault) → Honest world → Honest (ends world fault)
  unfolding ends
  ending_has world fault h c = record { nodes = (h c).nodes; sent = (h c).sent }

  -- before the first line
  pub empty_has : Honest empty
  unfolding empty fresh_node
  empty_has c =
      record {
        nodes = λ site index. record { lists = again site index [] (nothing_has (seal_facts (IsHonest d final) (seat_of d site index)) (seat_of d site index), tt); apart = tt };
        sent = tt;
      }

  module _ (In : Message → Type 0) (formats : SealsAreRead d In) where
    -- a message that is sent
    wire_has : (m : Message) → In m → MessageHas (IsHonest d final) d.sites m → WireHas (d.formats.encode m)
    wire_has m inside h n e = subst (λ (x : Message). MessageHas (IsHonest d final) d.sites x) (sym (formats.sent m n inside e)) h

    -- messages of a server's
    wires_have : (site index : ℕ) (outputs : List Output) → Each (λ (o : Output). In o.message) outputs → Each (OutputSeals (IsHonest d final) (seat_of d site index)) outputs →
        Each (λ (o : Output). WireHas (d.formats.encode o.message)) outputs
    wires_have site index [] i h = tt
    wires_have site index (o ∷ os) i h = (wire_has o.message i.0 h.0, wires_have site index os i.1 h.1)

    -- ---- what is delivered

    -- the site of a statement leads its view
    led : (s : Statement) → StatementInDeployment d s → (seat : Seat) → seat.sites ≡ d.sites → Leads (IsHonest d final) seat s
    led (Prepare site view local number value) h seat is = subst (λ n. site.0 ≡ view.0 % n) (sym is) (sym h.0.1)
    led (Proposal site view local number value) h seat is = subst (λ n. site.0 ≡ view.0 % n) (sym is) (sym h.0.1)
    led _ h seat is = tt

    led_message : (site index : ℕ) (m : Message) → MessageIsExact d m → Led (IsHonest d final) (seat_of d site index) m
    led_message site index (messages.Share s signed) h = led s h.0 (seat_of d site index) refl
    led_message site index (messages.Certificate s q) h = led s h.0 (seat_of d site index) refl
    led_message site index _ h = tt

    -- a message on its way, as a server reads it
    reads_have : (site index : ℕ) (wire : Wire) → WireHas wire → ReadingHas (TakenHas (IsHonest d final) (seat_of d site index)) (reads d wire)
    reads_have site index wire h = by (read_known d wire) refl
      where
        sealed : (m : Message) → TakenHas (IsHonest d final) (seat_of d site index) m → (bad : Option ℕ) → ReadingHas (TakenHas (IsHonest d final) (seat_of d site index)) (given bad (Clean m) (λ place. Faulty (BadSeal place)))
        sealed m g None = g
        sealed m g (Some place) = tt

        by : (r : Reading) → read_known d wire ≡ r → ReadingHas (TakenHas (IsHonest d final) (seat_of d site index)) (with_seals d r)
        by (Faulty reason) e = tt
        by (Clean m) e = sealed m (h m (known_parts d wire m e).0, led_message site index m (formats.exact wire m e)) (bad_seal d m)

    -- bytes from outside in which no seal is forged
    module _ (world : World Wire) (c : Covers final world.made) where
      fair_seals : (seals : List SealIn) → first_bad (is_honest d world) seals ≡ None → Each (IsHonest d final) (map without_place seals)
      fair_seals [] e = tt
      fair_seals (x ∷ xs) e =
          let parts = good_parts (is_honest d world) x xs e in
          (λ correct holds. c x.who x.statement (not_unmade (is_correct_who d x.who) (checks_in d x) (has_made world.made x.who x.statement) parts.0 correct holds), fair_seals xs parts.1)

      outside_has : (wire : Wire) → ((m : Message) → d.formats.read wire ≡ Clean m → In m) → forged_by d world (d.formats.read wire) ≡ None → WireHas wire
      outside_has wire inside e m is =
          seals_message (IsHonest d final) d.sites m
          (subst (Each (IsHonest d final)) (formats.seals wire m (inside m is) is)
          (fair_seals (d.formats.seals_in m) (none_given (first_bad (is_honest d world) (d.formats.seals_in m)) (subst (λ (r : Reading). forged_by d world r ≡ None) is e))))

    -- ---- a faulty server's seal

    module _ (site index : ℕ) (faulty : d.faulty site index ≡ true) where
      -- whatever it seals
      faulty_has : (s : Statement) (seal : Bytes) → (IsHonest d final) (record { who = server_at site index; statement = s; seal = seal })
      faulty_has s seal correct holds = absurd (let no : false ≡ true = subst (λ b. not b ≡ true) faulty (and_parts (is_server d site index) (not (d.faulty site index)) correct).1 in cc)

      signed_has : (s : Statement) (seal : Bytes) → site_of s ≡ site → SignedHas (IsHonest d final) s (record { index = index; seal = seal })
      signed_has s seal is = subst (λ n. (IsHonest d final) (record { who = server_at n index; statement = s; seal = seal })) (sym is) (faulty_has s seal)

      sealed_has : (s : Statement) (seal : Bytes) → is_sealable d site index s ≡ true → MessageHas (IsHonest d final) d.sites (sealed_message s (record { index = index; seal = seal }))
      sealed_has (Prepare s view local number value) seal e = signed_has (Prepare s view local number value) seal (eqb-true s.0 site (and_parts (nat_eq s.0 site) _ e).0)
      sealed_has (LocalReport s local i view base items) seal e =
          let parts = and_parts (nat_eq s.0 site) (nat_eq i index) e in (
            subst (λ n. SignedHas (IsHonest d final) (LocalReport s local i view base items) (record { index = n; seal = seal })) (sym (eqb-true i index parts.1))
                (signed_has (LocalReport s local i view base items) seal (eqb-true s.0 site parts.0)),
            (no_quorums (IsHonest d final) _ items, tt),
          )
      sealed_has (GlobalReport s view i base items) seal e =
          let parts = and_parts (nat_eq s.0 site) (nat_eq i index) e in (
            subst (λ n. SignedHas (IsHonest d final) (GlobalReport s view i base items) (record { index = n; seal = seal })) (sym (eqb-true i index parts.1))
                (signed_has (GlobalReport s view i base items) seal (eqb-true s.0 site parts.0)),
            (no_quorums (IsHonest d final) _ items, tt),
          )
      sealed_has (Proposal s view local number value) seal e = signed_has (Proposal s view local number value) seal (eqb-true s.0 site e)
      sealed_has (Accept s view number value) seal e = signed_has (Accept s view number value) seal (eqb-true s.0 site e)
      sealed_has (LocalVc s local) seal e = signed_has (LocalVc s local) seal (eqb-true s.0 site e)
      sealed_has (GlobalVc s view) seal e = signed_has (GlobalVc s view) seal (eqb-true s.0 site e)
      sealed_has (LocalUnion s local greatest base items) seal e = signed_has (LocalUnion s local greatest base items) seal (eqb-true s.0 site e)
      sealed_has (GlobalUnion s view base items) seal e = signed_has (GlobalUnion s view base items) seal (eqb-true s.0 site e)
      sealed_has (Reply s client time number result) seal e = signed_has (Reply s client time number result) seal (eqb-true s.0 site e)
      sealed_has (ClientUpdate update) seal e = signed_has (ClientUpdate update) seal (eqb-true (site_of (ClientUpdate update)) site e)

      -- the assignment that goes out with a Prepare
      assigned : (leading view local number : ℕ) (value : Value) (seal : Bytes) →
          is_sealable d site index (Prepare (record { 0 = leading }) (record { 0 = view }) (record { 0 = local }) (record { 0 = number }) value) ≡ true →
          SignedHas (IsHonest d final) (a_prepare (view % d.sites) view local number value) (record { index = index; seal = seal })
      assigned leading view local number value seal e =
          signed_has (a_prepare (view % d.sites) view local number value) seal (eqb-true (view % d.sites) site (and_parts (nat_eq leading site) (nat_eq (view % d.sites) site) e).1)

    -- the client's own seal with a value
    client_seal_has : (world : World Wire) (value : Value) → Covers final world.made → ValueHas (IsHonest d final) value (client_seal_of d world value)
    client_seal_has world values.Noop c = tt
    client_seal_has world (values.Update u) c = by (has_made world.made (parties.Client u.client) (ClientUpdate u)) refl
      where
        by : (b : Bool) → has_made world.made (parties.Client u.client) (ClientUpdate u) ≡ b →
            is_empty (cond b (d.formats.seal (parties.Client u.client) (u.time - 1) (ClientUpdate u)) []) ≡ false →
            ClientHas (IsHonest d final) u (cond b (d.formats.seal (parties.Client u.client) (u.time - 1) (ClientUpdate u)) [])
        by true made e = λ correct holds. c (parties.Client u.client) (ClientUpdate u) made
        by false made e = absurd (let no : true ≡ false = e in cc)

    -- ---- every event

    module _ (R : World Wire → Type 0) (DR : World Wire → Wire → Type 0) (L : Line → Type 0) (ranges : SendsIn d R DR L In) where
      -- both facts
      abbrev pub Kept : World Wire → Type 0
      Kept world = R world × Honest world

      abbrev pub Delivered : World Wire → Wire → Type 0
      Delivered world wire = DR world wire × (Covers final world.made → WireHas wire)

      -- both of what is delivered at an event
      event_parts : (world : World Wire) (event : Event Wire) → EventHas (Delivered world) event → EventHas (DR world) event × (Covers final world.made → EventHas WireHas event)
      event_parts world (Deliver wire) h = h
      event_parts world LocalTimeout h = (tt, λ c. tt)
      event_parts world GlobalTimeout h = (tt, λ c. tt)
      event_parts world Tick h = (tt, λ c. tt)

      -- a plan
      plan_has : (world : World Wire) (site index : ℕ) (event : Event Wire) → (Covers final world.made → EventHas WireHas event) → (c : Covers final world.made) → WorldHas world →
          PlanHas (IsHonest d final) (seat_of d site index) (world.nodes site index).bodies (world.nodes site index).heard (plan_at d world site index event)
      plan_has world site index event e c w =
          duty_has (IsHonest d final) (seat_of d site index) (pen_at d site index) (λ who s correct holds. absurd (let no : true ≡ false = sym holds ∙ formats.none who s in cc))
          (world.nodes site index).bodies (world.nodes site index).heard (w.nodes site index).lists (reads d) event
          (event_reads (TakenHas (IsHonest d final) (seat_of d site index)) WireHas (reads d) (reads_have site index) event (e c))

      -- a plan that is handed out
      settles_has : (world : World Wire) (site index : ℕ) (event : Event Wire) → d.faulty site index ≡ false → EventHas (DR world) event → (Covers final world.made → EventHas WireHas event) → R world → Honest world →
          Honest (hands_out d site index (with_node world site index (settled d (world.nodes site index) (plan_at d world site index event))) (plan_at d world site index event).outputs)
      unfolding with_node
      settles_has world site index event correct er e r h c =
          let plan : Plan = plan_at d world site index event in
          let node : Node = settled d (world.nodes site index) plan in
          let changed : World Wire = with_node world site index node in
          let parts = covers_out final d site index changed plan.outputs c in
          let before : Covers final world.made = covers_node final world site index node parts.0 in
          let w : WorldHas world = h before in
          let p : PlanHas (IsHonest d final) (seat_of d site index) (world.nodes site index).bodies (world.nodes site index).heard plan = plan_has world site index event e before w in
          let own : Each (HandsOwn (IsHonest d final) (seat_of d site index)) plan.outputs = own_made site index plan.outputs parts.1 in
          let there : WorldHas changed = changed_has world site index node (settled_has site index (world.nodes site index) plan (w.nodes site index) p own) w in
          record {
            nodes = same_nodes NodeHas changed (hands_out d site index changed plan.outputs) (nodes_hands_out d site index changed plan.outputs) there.nodes;
            sent = sent_out d WireHas site index changed plan.outputs there.sent (wires_have site index plan.outputs (ranges.plans world site index event correct er r) (p.outputs own));
          }

      -- a server changed
      changes_has : (world : World Wire) (site index : ℕ) (node : Node) → (WorldHas world → Covers final world.made → NodeHas site index node) → Honest world → Honest (with_node world site index node)
      changes_has world site index node give h c =
          let before : Covers final world.made = covers_node final world site index node c in changed_has world site index node (give (h before) before) (h before)

      -- a client's update
      submits_has : (world : World Wire) (client : ℕ) (op : Bytes) → L (lines.Client (record { 0 = client }) op) → nat_lt client d.clients ≡ true → nat_le d.capacity (world.customers client).time ≡ false → R world → Honest world →
          Honest (sends_to d
          (hands (with_customer world client (waits_at ((world.customers client).time + 1))) (client_at client) (world.customers client).time (ClientUpdate (an_update client ((world.customers client).time + 1) op)))
          (d.formats.encode (messages.Update (an_update client ((world.customers client).time + 1) op)
          (d.formats.seal (client_at client) (world.customers client).time (ClientUpdate (an_update client ((world.customers client).time + 1) op)))))
          (dests_of d scopes.All))
      unfolding sends_to with_customer hands
      submits_has world client op l known left r h c =
          let u : Update = an_update client ((world.customers client).time + 1) op in
          let asks : World Wire = with_customer world client (waits_at ((world.customers client).time + 1)) in
          let parts = covers_hands final asks (client_at client) (world.customers client).time (ClientUpdate u) c in
          let w : WorldHas world = h parts.0 in
          let m : Message = messages.Update u (d.formats.seal (client_at client) (world.customers client).time (ClientUpdate u)) in
          record {
            nodes = w.nodes;
            sent = append_all WireHas world.sent (d.formats.encode m ∷ []) w.sent (wire_has m (ranges.updates world client op l known left r) (λ correct holds. parts.1), tt);
          }

      -- a faulty server's line
      seals_has : (world : World Wire) (site index : ℕ) (s : Statement) → L (lines.Seal (record { site = site; index = index }) s) → d.faulty site index ≡ true → is_sealable d site index s ≡ true → R world →
          Honest world → Honest (seals d world site index s).world
      seals_has world site index s l faulty may r h c =
          let before : Covers final world.made = subst (Covers final) (seals_made d world site index s) c in
          let w : WorldHas world = h before in
          let seal : Bytes = d.formats.seal (server_at site index) (world.leaves site index) s in
          record {
            nodes = same_nodes NodeHas world (seals d world site index s).world (seals_same d world site index s) w.nodes;
            sent =
                sent_seals d WireHas world site index s w.sent (wire_has (sealed_message s (record { index = index; seal = seal })) (ranges.sealing world site index s l r) (sealed_has site index faulty s seal may))
                (λ leading view local number value is.
                wire_has (messages.Assign (record { 0 = view }) (record { 0 = local }) (record { 0 = number }) value (client_seal_of d world value) (record { index = index; seal = seal }))
                (subst
                (λ (x : Statement).
                In (messages.Assign (record { 0 = view }) (record { 0 = local }) (record { 0 = number }) value (client_seal_of d world value)
                (record { index = index; seal = d.formats.seal (server_at site index) (world.leaves site index) x })))
                (sym is) (ranges.assigns world site index leading view local number value (subst (λ (x : Statement). L (lines.Seal (record { site = site; index = index }) x)) is l) r)) (
                  client_seal_has world value before,
                  assigned site index faulty leading view local number value seal (subst (λ (x : Statement). is_sealable d site index x ≡ true) is may),
                ));
          }

      -- Every event keeps both.
      pub honest_is_kept : IsKeptByEvents d Kept Delivered L
      honest_is_kept =
          record {
            sent = λ world n wire h e. (ranges.kept.sent world n wire h.0 e, λ c. subst (λ (x : Option Wire). IfSome x WireHas) e (found_has WireHas world.sent n (h.1 c).sent));
            outside = λ world to bytes l fair h.
                let there : DR world (d.formats.raw bytes) = ranges.kept.outside world to bytes l fair h.0 in
                (there, λ c. outside_has world c (d.formats.raw bytes) (λ m is. ranges.reads world (d.formats.raw bytes) m there is) fair);
            settles = λ world site index event correct runs e room goes h.
                let parts = event_parts world event e in
                (ranges.kept.settles world site index event correct runs parts.0 room goes h.0, settles_has world site index event correct parts.0 parts.1 h.0 h.1);
            fills = λ world site index correct h. (
              ranges.kept.fills world site index correct h.0,
              changes_has world site index _ (λ w c. full_at (Lists site index) (Bodies site index) d (world.nodes site index) (w.nodes site index)) h.1,
            );
            stops = λ world site index event correct runs e stop h.
                let parts = event_parts world event e in (
                  ranges.kept.stops world site index event correct runs parts.0 stop h.0,
                  changes_has world site index _ (λ w c. stopped_has site index (world.nodes site index) (plan_at d world site index event) (w.nodes site index) (plan_has world site index event parts.1 c w)) h.1,
                );
            setting = λ world site index call correct h. (
              ranges.kept.setting world site index call correct h.0,
              changes_has world site index _ (λ w c. set_at (Lists site index) (Bodies site index) d (world.nodes site index) call (w.nodes site index)) h.1,
            );
            restarting = λ world site index again correct h.
                (ranges.kept.restarting world site index again correct h.0, changes_has world site index _ (λ w c. restarted_has site index (world.nodes site index) again (w.nodes site index)) h.1);
            submitting = λ world client op l known left h. (ranges.kept.submitting world client op l known left h.0, submits_has world client op l known left h.0 h.1);
            answering = λ world client wire site to time number result signed e reads mine good waits new h.
                (ranges.kept.answering world client wire site to time number result signed e.0 reads mine good waits new h.0, customer_has world client _ h.1);
            sealing = λ world site index s l there faulty may left h. (ranges.kept.sealing world site index s l there faulty may left h.0, seals_has world site index s l faulty may h.0 h.1);
            waiting = λ world pairs few h. (ranges.kept.waiting world pairs few h.0, waiting_has world pairs h.1);
            ending = λ world fault h. (ranges.kept.ending world fault h.0, ending_has world fault h.1);
          }

-- ---- the law

-- Where no range is asked for.
pub trivial_sends : {Wire : Type 0} (d : Deployment Wire) (L : Line → Type 0) → SendsIn d (λ world. Unit {0}) (λ world wire. Unit {0}) L (λ m. Unit {0})
trivial_sends d L =
    record {
      kept = nothing_asked d L;
      reads = λ world wire m e is. tt;
      plans = λ world site index event correct e h. each_any (plan_at d world site index event).outputs;
      updates = λ world client op l known left h. tt;
      sealing = λ world site index s l h. tt;
      assigns = λ world site index leading view local number value l h. tt;
    }

module _ {Wire : Type 0} (d : Deployment Wire) (R : World Wire → Type 0) (DR : World Wire → Wire → Type 0) (L : Line → Type 0) (In : Message → Type 0) (formats : SealsAreRead d In)
    (ranges : SendsIn d R DR L In) (all : List Line) (lines_in : Each L all) (first : R empty) where
  -- what was handed out in the end
  abbrev final : List MadeSeal
  final = (steps d empty all).made

  -- The world of these lines is honest.
  pub world_is_honest : WorldHas d final (steps d empty all)
  world_is_honest =
      (steps_kept d (Kept d final In formats R DR L ranges) (Delivered d final In formats R DR L ranges) L (honest_is_kept d final In formats R DR L ranges) empty all lines_in
      (first, empty_has d final)).1 (λ who s h. h)

  -- So each seal that checks, of a correct party, in a message that was sent, is over a statement that the party has made;
  pub sent_honest : (n : ℕ) (wire : Wire) (m : Message) → slice_get (steps d empty all).sent n ≡ Some wire → d.formats.read wire ≡ Clean m → Each (IsHonest d final) (seals_of d.sites m)
  sent_honest n wire m e is =
      message_seals (IsHonest d final) d.sites m (subst (λ (x : Option Wire). IfSome x (WireHas d final)) e (found_has (WireHas d final) (steps d empty all).sent n world_is_honest.sent) m is)

  -- in what a server heard; and in what it recorded.
  pub heard_honest : (site index : ℕ) → Each (λ (m : Heard). Each (IsHonest d final) (seals_of d.sites m.message)) ((steps d empty all).nodes site index).heard
  heard_honest site index = by ((steps d empty all).nodes site index).heard (world_is_honest.nodes site index).lists.messages
    where
      by : (heard : List Heard) → Each (HeardSeals (IsHonest d final) (seat_of d site index)) heard → Each (λ (m : Heard). Each (IsHonest d final) (seals_of d.sites m.message)) heard
      by [] h = tt
      by (m ∷ ms) h = (message_seals (IsHonest d final) d.sites m.message h.0, by ms h.1)

  pub records_honest : (site index : ℕ) → Each (Each (λ x. Each (IsHonest d final) (in_change site x))) ((steps d empty all).nodes site index).bodies
  records_honest site index = bodies ((steps d empty all).nodes site index).bodies (world_is_honest.nodes site index).lists.changes
    where
      change : (x : Change) → RecordHas (IsHonest d final) (seat_of d site index) x → Each (IsHonest d final) (in_change site x)
      change (EnterLocal local q) h = quorum_seals (IsHonest d final) (a_local_vc site local.0) q h
      change (EnterGlobal view words) h = view_seals (IsHonest d final) view.0 words h
      change (Made leaf s) h = tt
      change (Prepared s q) h = quorum_seals (IsHonest d final) s q h
      change (Accepted s q) h = quorum_seals (IsHonest d final) s q h
      change (Union s q) h = quorum_seals (IsHonest d final) s q h
      change (Executed number p) h = proof_seals (IsHonest d final) number.0 p h

      body : (xs : List Change) → Each (RecordHas (IsHonest d final) (seat_of d site index)) xs → Each (λ x. Each (IsHonest d final) (in_change site x)) xs
      body [] h = tt
      body (x ∷ xs) h = (change x h.0, body xs h.1)

      bodies : (xss : List (List Change)) → Each (Each (RecordHas (IsHonest d final) (seat_of d site index))) xss → Each (Each (λ x. Each (IsHonest d final) (in_change site x))) xss
      bodies [] h = tt
      bodies (xs ∷ more) h = (body xs h.0, bodies more h.1)
