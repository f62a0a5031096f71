-- The servers of a world, each by itself: what is kept where one server's node is changed holds of each after every event.
-- With it what every walk needs: the seat of the answers, the lists after a plan, and what changes no server.
use Rattle.std.proofs.Common.{◌≡◌, ℕ, Bool, true, false, cond, nat_eq, List, [], ◌∷◌, ◌++◌, sym, subst, refl, ap}
use Rattle.std.proofs.lemmas.Bool.{eqb-true, eq-eqb, and_parts, and_from}
use Rattle.std.specs.Prelude.{◌&&◌, not, Option, Some, None}
use Rattle.std.specs.Option.{IfSome}
use Rattle.st_words.specs.declared.statement.Statement.{Statement}
use Rattle.st_words.specs.declared.statement.Statement.TheVariants.{Prepare}
use Rattle.st_message.specs.declared.event.Output.{Output}
use Rattle.st_message.specs.declared.event.Plan.{Plan}
use Rattle.st_message.specs.declared.change.Change.{Change}
use Rattle.st_message.specs.declared.change.Change.TheVariants.{EnterLocal, EnterGlobal}
use Rattle.st_message.specs.declared.change.Heard.{Heard}
use Rattle.st_schedule.specs.declared.line.Line.{Line}
use Rattle.st_protocol.specs.Words.{server_at}
use Rattle.st_protocol.specs.Keeping.{given}
use Rattle.st_protocol.specs.State.{Seat, Answers}
use Rattle.st_protocol.specs.Questions.{here_of, questions}
use Rattle.st_protocol.specs.Growth.{here_after, notes, takes, cuts, after, hears}
use Rattle.st_protocol.specs.Duty.{Event}
use Rattle.st_protocol.specs.World.{Deployment, Node, World, is_nil, handed, with_node, with_customer, with_waiting, uses_leaf, ends, hands, is_server, is_correct, sends_to, notes_seal, hands_one, hands_out, settled, stands_full, stands_stopped, plan_at}
use Rattle.st_protocol.specs.Schedule.{set_to_stop, restarted, then_assigns, seals, steps}
use Rattle.st_protocol.proofs.GatherLaws.{fold-keeps}
use Rattle.st_frame_laws.specs.Events.{EventHas, IsKeptByEvents}
use Rattle.st_frame_laws.proofs.ChoiceLaws.{chosen_any, each_any, when_has}
use Rattle.st_frame_laws.proofs.WorldFrame.{steps_kept}

-- ---- where the answers stand

-- the state after a change, and after something is heard
pub here_then : (state : Answers) (x : Change) → (after state x).here ≡ here_after x state.here
unfolding after notes cuts
here_then state x = refl

pub here_hears : (state : Answers) (m : Heard) → (hears state m).here ≡ state.here
unfolding hears takes cuts
here_hears state m = refl

-- what was heard doesn't move a server
pub same_here : (seat : Seat) (bodies : List (List Change)) (heard others : List Heard) → (questions seat bodies heard).here ≡ (questions seat bodies others).here
unfolding questions
same_here seat bodies heard others = refl

-- a change leaves the seat, and so does what is heard
pub seat_after : (state : Answers) (x : Change) → (after state x).here.seat ≡ state.here.seat
unfolding after notes cuts
seat_after state (EnterLocal x q) = refl
seat_after state (EnterGlobal y words) = refl
seat_after state _ = refl

pub seat_hears : (state : Answers) (m : Heard) → (hears state m).here.seat ≡ state.here.seat
unfolding hears takes cuts
seat_hears state m = refl

-- the seat of the answers
pub seat_of_questions : (seat : Seat) (bodies : List (List Change)) (heard : List Heard) → (questions seat bodies heard).here.seat ≡ seat
unfolding questions here_of
seat_of_questions seat bodies heard = refl

-- ---- the bodies after a plan

pub after_plan : (P : List (List Change) → Type 0) (bodies : List (List Change)) (changes : List Change) → (changes ≡ [] → P bodies) → P (bodies ++ changes ∷ []) →
    P (cond (is_nil changes) bodies (bodies ++ changes ∷ []))
after_plan P bodies [] h k = h refl
after_plan P bodies (x ∷ xs) h k = k

-- ---- what changes no server

module _ {Wire : Type 0} (d : Deployment Wire) where
  -- a seal that is noted
  notes_nodes : (site index : ℕ) (world : World Wire) (o : Output) → (notes_seal d site index world o).nodes ≡ world.nodes
  unfolding notes_seal hands
  notes_nodes site index world o = by o.leaf (handed site o.message)
    where
      by : (leaf : Option ℕ) (x : Option Statement) → (given leaf world (λ n. given x world (λ s. hands world (server_at site index) n s))).nodes ≡ world.nodes
      by None x = refl
      by (Some n) None = refl
      by (Some n) (Some s) = refl

  -- messages that are handed out
  pub nodes_hands_one : (site index : ℕ) (world : World Wire) (o : Output) → (hands_one d site index world o).nodes ≡ world.nodes
  unfolding hands_one sends_to
  nodes_hands_one site index world o = notes_nodes site index world o

  pub nodes_hands_out : (site index : ℕ) (world : World Wire) (outputs : List Output) → (hands_out d site index world outputs).nodes ≡ world.nodes
  nodes_hands_out site index world outputs = fold-keeps (λ (w : World Wire). w.nodes) (hands_one d site index) (nodes_hands_one site index) world outputs

  -- a faulty server's seal, which also hands out nothing that is noted
  pub seals_same : (world : World Wire) (site index : ℕ) (s : Statement) → (seals d world site index s).world.nodes ≡ world.nodes
  unfolding seals then_assigns sends_to uses_leaf
  seals_same world site index (Prepare leading view local number value) = refl
  seals_same world site index _ = refl

  pub seals_made : (world : World Wire) (site index : ℕ) (s : Statement) → (seals d world site index s).world.made ≡ world.made
  unfolding seals then_assigns sends_to uses_leaf
  seals_made world site index (Prepare leading view local number value) = refl
  seals_made world site index _ = refl

  -- a correct server runs code
  pub runs_of : (site index : ℕ) → is_correct d site index ≡ true → d.faulty site index ≡ false
  runs_of site index e = by (d.faulty site index) (and_parts (is_server d site index) (not (d.faulty site index)) e).1
    where
      by : (b : Bool) → not b ≡ true → b ≡ false
      by true f = absurd (let no : false ≡ true = f in cc)
      by false f = refl

-- ---- each server

-- a server that was changed
pub node_itself : {Wire : Type 0} (world : World Wire) (site index : ℕ) (node : Node) → (with_node world site index node).nodes site index ≡ node
unfolding with_node
node_itself world site index node =
    ap (λ b. cond b node (world.nodes site index)) (and_from (nat_eq site site) (nat_eq index index) (eq-eqb site site refl) (eq-eqb index index refl))

-- either of two servers
if_node : (Q : Node → Type 0) (b : Bool) (x y : Node) → (b ≡ true → Q x) → Q y → Q (cond b x y)
if_node Q true x y h k = h refl
if_node Q false x y h k = k

module _ {Wire : Type 0} (P : ℕ → ℕ → Node → Type 0) where
  abbrev pub EachNode : World Wire → Type 0
  EachNode world = (site index : ℕ) → P site index (world.nodes site index)

  -- with one server changed
  pub node_has : (world : World Wire) (site index : ℕ) (node : Node) → P site index node → EachNode world → EachNode (with_node world site index node)
  unfolding with_node
  node_has world site index node h w s i =
      if_node (P s i) (nat_eq site s && nat_eq index i) node (world.nodes s i)
      (λ e.
      let parts = and_parts (nat_eq site s) (nat_eq index i) e in
      subst (λ n. P n i node) (eqb-true site s parts.0) (subst (λ n. P site n node) (eqb-true index i parts.1) h))
      (w s i)

  -- with the same servers
  pub same_nodes : (world new : World Wire) → new.nodes ≡ world.nodes → EachNode world → EachNode new
  same_nodes world new e h = subst (λ (nodes : ℕ → ℕ → Node). (s i : ℕ) → P s i (nodes s i)) (sym e) h

-- P is kept where a server's node is changed, in a world with R, by what may be delivered with D.
pub record AreNodesKept {Wire : Type 0} (d : Deployment Wire) (R : World Wire → Type 0) (D : World Wire → Wire → Type 0) (P : ℕ → ℕ → Node → Type 0) : Type 0 where
  pub settling : (world : World Wire) (site index : ℕ) (event : Event Wire) → d.faulty site index ≡ false → EventHas (D world) event → R world → P site index (world.nodes site index) →
      P site index (settled d (world.nodes site index) (plan_at d world site index event))
  pub stopping : (world : World Wire) (site index : ℕ) (event : Event Wire) → d.faulty site index ≡ false → EventHas (D world) event → R world → P site index (world.nodes site index) →
      P site index (stands_stopped d (world.nodes site index) (plan_at d world site index event).changes)
  pub filling : (site index : ℕ) (node : Node) → d.faulty site index ≡ false → P site index node → P site index (stands_full d node)
  pub setting : (site index : ℕ) (node : Node) (call : ℕ) → d.faulty site index ≡ false → P site index node → P site index (set_to_stop node call)
  pub restarting : (site index : ℕ) (node : Node) (kept : Bool) → d.faulty site index ≡ false → P site index node → P site index (restarted d node kept)

module _ {Wire : Type 0} (d : Deployment Wire) where
  -- Every event keeps it of each server, beside R.
  pub nodes_beside : (R : World Wire → Type 0) (D : World Wire → Wire → Type 0) (L : Line → Type 0) (P : ℕ → ℕ → Node → Type 0) → IsKeptByEvents d R D L → AreNodesKept d R D P →
      IsKeptByEvents d (λ world. R world × EachNode P world) D L
  unfolding with_customer with_waiting hands sends_to ends
  nodes_beside R D L P k n =
      record {
        sent = λ world m wire h e. k.sent world m wire h.0 e;
        outside = λ world to bytes l fair h. k.outside world to bytes l fair h.0;
        settles = λ world site index event correct runs e room goes h.
            let plan : Plan = plan_at d world site index event in
            let node : Node = settled d (world.nodes site index) plan in
            let changed : World Wire = with_node world site index node in (
              k.settles world site index event correct runs e room goes h.0,
              same_nodes P changed (hands_out d site index changed plan.outputs) (nodes_hands_out d site index changed plan.outputs)
                  (node_has P world site index node (n.settling world site index event correct e h.0 (h.1 site index)) h.1),
            );
        fills = λ world site index correct h.
            (k.fills world site index correct h.0, node_has P world site index _ (n.filling site index (world.nodes site index) correct (h.1 site index)) h.1);
        stops = λ world site index event correct runs e stop h.
            (k.stops world site index event correct runs e stop h.0, node_has P world site index _ (n.stopping world site index event correct e h.0 (h.1 site index)) h.1);
        setting = λ world site index call correct h. (
          k.setting world site index call correct h.0,
          node_has P world site index _ (n.setting site index (world.nodes site index) call (runs_of d site index correct) (h.1 site index)) h.1,
        );
        restarting = λ world site index kept correct h. (
          k.restarting world site index kept correct h.0,
          node_has P world site index _ (n.restarting site index (world.nodes site index) kept (runs_of d site index correct) (h.1 site index)) h.1,
        );
        submitting = λ world client op l known left h. (k.submitting world client op l known left h.0, h.1);
        answering = λ world client wire site to time number result signed e reads mine good waits new h.
            (k.answering world client wire site to time number result signed e reads mine good waits new h.0, h.1);
        sealing = λ world site index s l there faulty may left h. (
          k.sealing world site index s l there faulty may left h.0,
          same_nodes P world (seals d world site index s).world (seals_same d world site index s) h.1,
        );
        waiting = λ world pairs few h. (k.waiting world pairs few h.0, h.1);
        ending = λ world fault h. (k.ending world fault h.0, h.1);
      }

  -- where nothing else is asked
  pub nothing_asked : (L : Line → Type 0) → IsKeptByEvents d (λ world. Unit {0}) (λ world wire. Unit {0}) L
  nothing_asked L =
      record {
        sent = λ world n wire h e. tt;
        outside = λ world to bytes l fair h. tt;
        settles = λ world site index event correct runs e room goes h. tt;
        fills = λ world site index correct h. tt;
        stops = λ world site index event correct runs e stop h. tt;
        setting = λ world site index call correct h. tt;
        restarting = λ world site index kept correct h. tt;
        submitting = λ world client op l known left h. tt;
        answering = λ world client wire site to time number result signed e reads mine good waits new h. tt;
        sealing = λ world site index s l there faulty may left h. tt;
        waiting = λ world pairs few h. tt;
        ending = λ world fault h. tt;
      }

  -- So it holds of each server after all lines.
  pub nodes_kept : (P : ℕ → ℕ → Node → Type 0) → AreNodesKept d (λ world. Unit {0}) (λ world wire. Unit {0}) P → (world : World Wire) (all : List Line) → EachNode P world → EachNode P (steps d world all)
  nodes_kept P n world all h =
      (steps_kept d (λ world. Unit {0} × EachNode P world) (λ world wire. Unit {0}) (λ line. Unit {0})
      (nodes_beside (λ world. Unit {0}) (λ world wire. Unit {0}) (λ line. Unit {0}) P (nothing_asked (λ line. Unit {0})) n) world all (each_any all) (tt, h)).1

  -- what a body more keeps of a server's bodies
  pub pushes_kept : (B : ℕ → ℕ → List (List Change) → Type 0) → ((site index : ℕ) (bodies : List (List Change)) (body : List Change) → B site index bodies → B site index (bodies ++ body ∷ [])) →
      AreNodesKept d (λ world. Unit {0}) (λ world wire. Unit {0}) (λ site index node. B site index node.bodies)
  pushes_kept B push =
      record {
        settling = λ world site index event runs e r h.
            let plan : Plan = plan_at d world site index event in
            after_plan (B site index) (world.nodes site index).bodies plan.changes (λ none. h) (push site index (world.nodes site index).bodies plan.changes h);
        stopping = λ world site index event runs e r h. h;
        filling = λ site index node runs h. h;
        setting = λ site index node call runs h. h;
        restarting = λ site index node kept runs h.
            chosen_any (λ (n : Node). B site index n.bodies) (cond kept node.apart None) _ _ h (λ changes. push site index node.bodies changes h);
      }

-- ---- a server's lists, and what may be there after a restart

module _ (Lists : List (List Change) → List Heard → Type 0) (Bodies : List (List Change) → Type 0) where
  pub record ListsAt (node : Node) : Type 0 where
    pub lists : Lists node.bodies node.heard
    pub apart : IfSome node.apart (λ changes. Bodies (node.bodies ++ changes ∷ []))

  module _ {Wire : Type 0} (d : Deployment Wire) where
    -- after a plan that is handed out
    pub settled_at : (node : Node) (plan : Plan) → (plan.changes ≡ [] → Lists node.bodies (node.heard ++ plan.heard)) → Lists (node.bodies ++ plan.changes ∷ []) (node.heard ++ plan.heard) →
        ListsAt (settled d node plan)
    settled_at node plan none h =
        record { lists = after_plan (λ bodies. Lists bodies (node.heard ++ plan.heard)) node.bodies plan.changes none h; apart = tt }

    -- where a device call fails while a plan's changes are written
    pub stopped_at : (node : Node) (changes : List Change) → Bodies (node.bodies ++ changes ∷ []) → ListsAt node → ListsAt (stands_stopped d node changes)
    stopped_at node changes p h =
        record { lists = h.lists; apart = when_has (λ (xs : List Change). Bodies (node.bodies ++ xs ∷ [])) (nat_eq node.stop 4) changes (λ last. p) }

    -- a full journal
    pub full_at : (node : Node) → ListsAt node → ListsAt (stands_full d node)
    full_at node h = record { lists = h.lists; apart = tt }

    -- a stop that is set
    pub set_at : (node : Node) (call : ℕ) → ListsAt node → ListsAt (set_to_stop node call)
    set_at node call h = record { lists = h.lists; apart = h.apart }

    -- a restart, where nothing that was heard is left
    pub restarted_at : ((bodies : List (List Change)) (heard : List Heard) → Lists bodies heard → Bodies bodies) → ((bodies : List (List Change)) → Bodies bodies → Lists bodies []) → (node : Node) (kept : Bool) →
        ListsAt node → ListsAt (restarted d node kept)
    restarted_at forgets again node kept h = by kept node.apart h.apart
      where
        by : (kept : Bool) (apart : Option (List Change)) → IfSome apart (λ changes. Bodies (node.bodies ++ changes ∷ [])) → ListsAt (restarted d (record node { apart = apart }) kept)
        by true None g = record { lists = again node.bodies (forgets node.bodies node.heard h.lists); apart = tt }
        by true (Some changes) g = record { lists = again (node.bodies ++ changes ∷ []) g; apart = tt }
        by false apart g = record { lists = again node.bodies (forgets node.bodies node.heard h.lists); apart = tt }
