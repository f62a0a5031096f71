-- Each reply that a client keeps of a correct server was handed out by it as a Reply to the client's last update, and so was
-- the client's result by some correct server.
use Rattle.std.proofs.Common.{◌≡◌, ℕ, ◌<◌, Bool, true, false, cond, nat_eq, List, [], ◌∷◌, refl, sym, ◌∙◌, ap, subst}
use Rattle.std.proofs.lemmas.Bool.{and_parts, eqb-true}
use Rattle.std.proofs.lemmas.Option.{same_Some}
use Rattle.std.specs.Prelude.{◌&&◌, nat_lt, Option, Some, None}
use Rattle.std.specs.List.{AllByRecursion as Each}
use Rattle.st_words.specs.declared.statement.Statement.{Statement}
use Rattle.st_words.specs.declared.statement.Statement.TheVariants.{Prepare}
use Rattle.st_seal.specs.declared.quorum.Signed.{Signed}
use Rattle.st_message.specs.declared.message.Message.{Message}
use Rattle.st_message.specs.declared.message.Message.TheVariants as messages
use Rattle.st_message.specs.declared.event.Output.{Output}
use Rattle.st_message.specs.declared.event.Plan.{Plan}
use Rattle.st_message.specs.declared.made.MadeSeal.{MadeSeal}
use Rattle.st_message.specs.declared.reason.Reason.TheVariants.{BadSeal}
use Rattle.st_schedule.specs.declared.line.Line.{Line}
use Rattle.st_protocol.specs.Words.{Bytes, server_at, client_at, a_reply}
use Rattle.st_protocol.specs.Keeping.{given}
use Rattle.st_protocol.specs.Known.{in_quorum, seals_of}
use Rattle.st_protocol.specs.Duty.{Faulty, Clean}
use Rattle.st_protocol.specs.World.{Deployment, Node, Answered, Customer, World, empty, fresh_customer, has_made, handed, with_node, with_customer, with_waiting, uses_leaf, ends, hands, sends_to, notes_seal, hands_one, hands_out, settled, plan_at, bad_seal, read_known, reads, with_seals, with_reply, agree_on, answered, awaits, is_correct}
use Rattle.st_protocol.specs.Schedule.{then_assigns, seals, steps}
use Rattle.st_ranges.specs.Ranges.{MessageInRange, ReadingInRange}
use Rattle.st_ranges.specs.Deployments.{DeploymentInRange, LineInRange}
use Rattle.st_ranges.proofs.WorldLaws.{WorldInRange, empty_in_range}
use Rattle.st_frame_laws.specs.Events.{waits_at, IsKeptByEvents}
use Rattle.st_frame_laws.proofs.NodeFrame.{seals_made}
use Rattle.st_frame_laws.proofs.WorldFrame.{steps_kept}
use Rattle.st_honest_laws.specs.Honest.{SealsAreRead, IsHonest}
use Rattle.st_honest_laws.proofs.SealFacts.{message_seals}
use Rattle.st_honest_laws.proofs.MadeLaws.{Covers, covers_hands, covers_out}
use Rattle.st_honest_laws.proofs.HonestWorlds.{Kept, Delivered, honest_is_kept, empty_has}
use Rattle.st_honest_laws.proofs.RangedLaws.{ReadsInRange, ranged}
use Rattle.st_answer_laws.specs.Fair.{HasFewFaulty}
use Rattle.st_log_laws.proofs.CheckedLaws.{IsChecked, reads_checked}
use Rattle.st_result_laws.proofs.VoucherLaws.{Voucher, voucher}

-- ---- what leaves the clients

module _ {Wire : Type 0} (d : Deployment Wire) where
  -- a server's messages do
  customers_notes : (site index : ℕ) (world : World Wire) (o : Output) → (notes_seal d site index world o).customers ≡ world.customers
  unfolding notes_seal hands
  customers_notes site index world o = by o.leaf (handed site o.message)
    where
      by : (leaf : Option ℕ) (x : Option Statement) → (given leaf world (λ n. given x world (λ s. hands world (server_at site index) n s))).customers ≡ world.customers
      by None x = refl
      by (Some n) None = refl
      by (Some n) (Some s) = refl

  -- one message
  customers_one : (site index : ℕ) (world : World Wire) (o : Output) → (hands_one d site index world o).customers ≡ world.customers
  unfolding hands_one sends_to
  customers_one site index world o = customers_notes site index world o

  -- and all of them
  customers_out : (site index : ℕ) (world : World Wire) (outputs : List Output) → (hands_out d site index world outputs).customers ≡ world.customers
  customers_out site index world [] = refl
  customers_out site index world (o ∷ os) = customers_out site index (hands_one d site index world o) os ∙ customers_one site index world o

  -- a faulty server's line does
  customers_seals : (world : World Wire) (site index : ℕ) (s : Statement) → (seals d world site index s).world.customers ≡ world.customers
  unfolding seals then_assigns sends_to uses_leaf
  customers_seals world site index (Prepare leading view local number value) = refl
  customers_seals world site index _ = refl

  -- ---- what is claimed of a client

  module _ (final : List MadeSeal) where
    -- a server handed out this answer to the client's update of this time
    abbrev pub Gave : ℕ → ℕ → Answered → ℕ → ℕ → Type 0
    Gave client time a site index = has_made final (server_at site index) (a_reply site client time a.number a.result) ≡ true

    -- a correct server did
    pub record IsGiven (client time : ℕ) (a : Answered) : Type 0 where
      pub site : ℕ
      pub index : ℕ
      pub correct : is_correct d site index ≡ true
      pub gave : Gave client time a site index

    -- each reply of a correct server was handed out by it, and the result by some
    pub record IsServed (client : ℕ) (customer : Customer) : Type 0 where
      pub replies : (site index : ℕ) (a : Answered) → customer.replies site index ≡ Some a → is_correct d site index ≡ true → Gave client customer.time a site index
      pub result : (a : Answered) → customer.result ≡ Some a → IsGiven client customer.time a

    -- so of all clients
    abbrev pub AreServed : World Wire → Type 0
    AreServed world = (c : ℕ) → IsServed c (world.customers c)

    -- ---- a client changed

    -- a client that asks anew
    asks_served : (client time : ℕ) → IsServed client (waits_at time)
    asks_served client time =
        record { replies = λ site index a e correct. absurd (let no : None ≡ Some a = e in cc); result = λ a e. absurd (let no : None ≡ Some a = e in cc) }

    -- with one reply more
    reply_served : (client : ℕ) (customer : Customer) (site index : ℕ) (a : Answered) → IsServed client customer → (is_correct d site index ≡ true → Gave client customer.time a site index) →
        IsServed client (with_reply d customer site index a)
    reply_served client customer site index a h new =
        record { replies = λ s i b e correct. by s i b (nat_eq site s && nat_eq index i) refl e correct; result = h.result }
      where
        by : (s i : ℕ) (b : Answered) (test : Bool) → (nat_eq site s && nat_eq index i) ≡ test → cond test (Some a) (customer.replies s i) ≡ Some b → is_correct d s i ≡ true → Gave client customer.time b s i
        by s i b true is e =
            let parts = and_parts (nat_eq site s) (nat_eq index i) is in
            subst (λ n. is_correct d n i ≡ true → Gave client customer.time b n i) (eqb-true site s parts.0)
            (subst (λ n. is_correct d site n ≡ true → Gave client customer.time b site n) (eqb-true index i parts.1)
            (subst (λ (x : Answered). is_correct d site index ≡ true → Gave client customer.time x site index) (same_Some a b e) new))
        by s i b false is e = h.replies s i b e

    -- with the result, if f+1 replies of the site are alike
    answered_served : HasFewFaulty d → (client : ℕ) (customer : Customer) (site : ℕ) (a : Answered) → site < d.sites → IsServed client customer → IsServed client (answered d customer site a)
    answered_served few client customer site a there h = by (nat_lt d.f (agree_on d customer site a)) refl
      where
        given_by : Voucher d customer site a → IsGiven client customer.time a
        given_by v = record { site = site; index = v.index; correct = v.correct; gave = h.replies site v.index a v.replied v.correct }

        by : (test : Bool) → nat_lt d.f (agree_on d customer site a) ≡ test →
            IsServed client (cond test (record { time = customer.time; waits = false; replies = λ s i. None; result = Some a }) customer)
        by true many =
            record {
              replies = λ s i b e correct. absurd (let no : None ≡ Some b = e in cc);
              result = λ b e. subst (IsGiven client customer.time) (same_Some a b e) (given_by (voucher d customer site a there (few.few_faulty site there) many));
            }
        by false few_alike = h

    -- with one client changed
    customer_served : (world : World Wire) (client : ℕ) (customer : Customer) → IsServed client customer → AreServed world → AreServed (with_customer world client customer)
    unfolding with_customer
    customer_served world client customer h w c = by (nat_eq client c) refl
      where
        by : (b : Bool) → nat_eq client c ≡ b → IsServed c (cond b customer (world.customers c))
        by true e = subst (λ n. IsServed n customer) (eqb-true client c e) h
        by false e = w c

    -- the same clients
    same_customers : (world new : World Wire) → new.customers ≡ world.customers → AreServed world → AreServed new
    same_customers world new e h = subst (λ (customers : ℕ → Customer). (c : ℕ) → IsServed c (customers c)) (sym e) h

-- ---- every event

module _ {Wire : Type 0} (d : Deployment Wire) (few : HasFewFaulty d) (h : DeploymentInRange d) (formats : SealsAreRead d MessageInRange) (final : List MadeSeal) where
  -- ranges and honest seals
  abbrev FairWorld : World Wire → Type 0
  FairWorld world = Kept d final MessageInRange formats (WorldInRange d) (ReadsInRange d h) (LineInRange d) (ranged d h) world

  -- what may be delivered
  abbrev FairWire : World Wire → Wire → Type 0
  FairWire world wire = Delivered d final MessageInRange formats (WorldInRange d) (ReadsInRange d h) (LineInRange d) (ranged d h) world wire

  -- every event keeps both
  fair : IsKeptByEvents d FairWorld FairWire (LineInRange d)
  fair = honest_is_kept d final MessageInRange formats (WorldInRange d) (ReadsInRange d h) (LineInRange d) (ranged d h)

  -- so clients are served, where `final` has all that was handed out
  abbrev ServedWorld : World Wire → Type 0
  ServedWorld world = FairWorld world × (Covers final world.made → AreServed d final world)

  -- A Reply whose seal checks is of one of the sites, and of a correct server it is over what this handed out.
  reply_given : (world : World Wire) (wire : Wire) (site to time number : ℕ) (result : Bytes) (signed : Signed) → FairWire world wire →
      read_known d wire ≡ Clean (messages.Reply (a_reply site to time number result) signed) → bad_seal d (messages.Reply (a_reply site to time number result) signed) ≡ None → Covers final world.made →
      (site < d.sites) × (is_correct d site signed.index ≡ true → has_made final (server_at site signed.index) (a_reply site to time number result) ≡ true)
  unfolding seals_of in_quorum
  reply_given world wire site to time number result signed e read good c =
      let m : Message = messages.Reply (a_reply site to time number result) signed in
      let is : reads d wire ≡ Clean m = ap (λ r. with_seals d r) read ∙ ap (λ bad. given bad (Clean m) (λ place. Faulty (BadSeal place))) good in
      let checked : IsChecked d wire m = reads_checked d MessageInRange formats wire m (λ n r. subst ReadingInRange r e.0) is in
      let honest : Each (IsHonest d final) (seals_of d.sites m) = message_seals (IsHonest d final) d.sites m (e.1 c m checked.read) in
      (checked.exact.0.0, λ correct. honest.0 correct checked.holds.0)

  -- a Reply that a client takes
  takes_served : (world : World Wire) (client : ℕ) (wire : Wire) (site to time number : ℕ) (result : Bytes) (signed : Signed) → FairWire world wire →
      read_known d wire ≡ Clean (messages.Reply (a_reply site to time number result) signed) → client ≡ to → bad_seal d (messages.Reply (a_reply site to time number result) signed) ≡ None →
      awaits d (world.customers client) time ≡ true → Covers final world.made → AreServed d final world →
      AreServed d final (with_customer world client
      (answered d (with_reply d (world.customers client) site signed.index (record { number = number; result = result })) site (record { number = number; result = result })))
  takes_served world client wire site to time number result signed e read mine good waits c w =
      let a : Answered = record { number = number; result = result } in
      let customer : Customer = world.customers client in
      let is : time ≡ customer.time = eqb-true time customer.time (and_parts customer.waits (nat_eq time customer.time) waits).1 in
      let given = reply_given world wire site to time number result signed e read good c in
      let gave : (is_correct d site signed.index ≡ true → Gave d final client customer.time a site signed.index) =
      subst (λ t. is_correct d site signed.index ≡ true → Gave d final client t a site signed.index) is
      (subst (λ n. is_correct d site signed.index ≡ true → Gave d final n time a site signed.index) (sym mine) given.1) in
      customer_served d final world client (answered d (with_reply d customer site signed.index a) site a)
      (answered_served d final few client (with_reply d customer site signed.index a) site a given.0 (reply_served d final client customer site signed.index a (w client) gave)) w

  -- a plan that is handed out
  settles_served : (world : World Wire) (site index : ℕ) (node : Node) (outputs : List Output) → (Covers final world.made → AreServed d final world) →
      Covers final (hands_out d site index (with_node world site index node) outputs).made → AreServed d final (hands_out d site index (with_node world site index node) outputs)
  unfolding with_node
  settles_served world site index node outputs w c =
      let changed : World Wire = with_node world site index node in
      same_customers d final changed (hands_out d site index changed outputs) (customers_out d site index changed outputs) (w (covers_out final d site index changed outputs c).0)

  -- changing a client hands out nothing
  same_made : (world : World Wire) (client : ℕ) (customer : Customer) → Covers final (with_customer world client customer).made → Covers final world.made
  unfolding with_customer
  same_made world client customer c = c

  -- a client's update
  submits_served : (world : World Wire) (client time leaf : ℕ) (s : Statement) → (Covers final world.made → AreServed d final world) →
      Covers final (hands (with_customer world client (waits_at time)) (client_at client) leaf s).made → AreServed d final (hands (with_customer world client (waits_at time)) (client_at client) leaf s)
  unfolding hands
  submits_served world client time leaf s w c =
      let asks : World Wire = with_customer world client (waits_at time) in
      let before : Covers final asks.made = (covers_hands final asks (client_at client) leaf s c).0 in
      customer_served d final world client (waits_at time) (asks_served d final client time) (w (same_made world client (waits_at time) before))

  -- a faulty server's line
  seals_served : (world : World Wire) (site index : ℕ) (s : Statement) → (Covers final world.made → AreServed d final world) → Covers final (seals d world site index s).world.made →
      AreServed d final (seals d world site index s).world
  seals_served world site index s w c =
      same_customers d final world (seals d world site index s).world (customers_seals d world site index s) (w (subst (Covers final) (seals_made d world site index s) c))

  -- Every event keeps it.
  served_is_kept : IsKeptByEvents d ServedWorld FairWire (LineInRange d)
  unfolding with_node with_waiting ends sends_to
  served_is_kept =
      record {
        sent = λ world n wire w e. fair.sent world n wire w.0 e;
        outside = λ world to bytes l forged w. fair.outside world to bytes l forged w.0;
        settles = λ world site index event correct runs e room goes w.
            let plan : Plan = plan_at d world site index event in
            (fair.settles world site index event correct runs e room goes w.0, settles_served world site index (settled d (world.nodes site index) plan) plan.outputs w.1);
        fills = λ world site index correct w. (fair.fills world site index correct w.0, w.1);
        stops = λ world site index event correct runs e stop w. (fair.stops world site index event correct runs e stop w.0, w.1);
        setting = λ world site index call correct w. (fair.setting world site index call correct w.0, w.1);
        restarting = λ world site index again correct w. (fair.restarting world site index again correct w.0, w.1);
        submitting = λ world client op l known left w. (fair.submitting world client op l known left w.0, submits_served world client _ _ _ w.1);
        answering = λ world client wire site to time number result signed e read mine good waits new w. (
          fair.answering world client wire site to time number result signed e read mine good waits new w.0,
          λ c. let before : Covers final world.made = same_made world client _ c in takes_served world client wire site to time number result signed e read mine good waits before (w.1 before),
        );
        sealing = λ world site index s l there faulty may left w. (fair.sealing world site index s l there faulty may left w.0, seals_served world site index s w.1);
        waiting = λ world pairs fewer w. (fair.waiting world pairs fewer w.0, w.1);
        ending = λ world fault w. (fair.ending world fault w.0, w.1);
      }

  -- before the first line
  empty_served : AreServed d final empty
  unfolding empty fresh_customer
  empty_served c = record { replies = λ site index a e correct. absurd (let no : None ≡ Some a = e in cc); result = λ a e. absurd (let no : None ≡ Some a = e in cc) }

module _ {Wire : Type 0} (d : Deployment Wire) (few : HasFewFaulty d) (h : DeploymentInRange d) (formats : SealsAreRead d MessageInRange) (all : List Line) (l : Each (LineInRange d) all) where
  -- So in the world of lines in range.
  pub clients_served : (c : ℕ) → IsServed d (steps d empty all).made c ((steps d empty all).customers c)
  clients_served =
      let final : List MadeSeal = (steps d empty all).made in
      (steps_kept d (ServedWorld d few h formats final) (FairWire d few h formats final) (LineInRange d) (served_is_kept d few h formats final) empty all l
      ((empty_in_range d h, empty_has d final), λ c. empty_served d few h formats final)).1 (λ who s made. made)
