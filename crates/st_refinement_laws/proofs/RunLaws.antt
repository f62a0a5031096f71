-- An event whose plan may be is a run of mini-steps, from the plain world before it to the plain world after it.
use Rattle.std.proofs.Common.{◌≡◌, ℕ, ◌<◌, ◌==◌, Bool, true, false, cond, nat_eq, List, [], ◌∷◌, ◌++◌, refl, sym, ◌∙◌, ap, subst}
use Rattle.std.specs.Prelude.{◌&&◌, Option, Some, None}
use Rattle.std.proofs.lemmas.Bool.{eqb-true, eq-eqb}
use Rattle.st_words.specs.declared.ids.Who.{Who}
use Rattle.st_words.specs.declared.statement.Statement.{Statement}
use Rattle.st_message.specs.declared.change.Change.{Change}
use Rattle.st_message.specs.declared.event.Output.{Output}
use Rattle.st_message.specs.declared.event.Plan.{Plan}
use Rattle.st_message.specs.declared.made.MadeSeal.{MadeSeal}
use Rattle.st_counts.specs.Counts.{Has, AllOf}
use Rattle.st_registers.specs.Steps.{IsRun}
use Rattle.st_agreement.specs.MiniSteps.{MiniStep, hands, IsCurrent, with_record, with_made}
use Rattle.st_agreement.specs.Records.{made_of}
use Rattle.st_agreement.specs.Runs.{recordings}
use Rattle.st_agreement.specs.Sites.{AreSites}
use Rattle.st_agreement.specs.Worlds as plain
use Rattle.st_agreement.proofs.PendingLaws.{pending-run}
use Rattle.st_schedule.specs.declared.done.Done.TheVariants as done
use Rattle.st_words.specs.declared.value.Update.{Update}
use Rattle.st_protocol.specs.Words.{server_at}
use Rattle.st_protocol.specs.Keeping.{given}
use Rattle.st_protocol.specs.World.{Deployment, World, Node, is_nil, handed, has_handed, with_node, hands as hands_seal, sends_to, notes_seal, hands_one, hands_out, settled, comes_to, is_full_by, is_stopped_by, stands_full, stands_stopped, stepped}
use Rattle.st_answer_laws.specs.Plain.{onto, newest, with_made_by, made_by, with_update_of, updates_of, sites_in, plain_of, last_of, Leads}
use Rattle.st_answer_laws.specs.Support.{MayHand, MayPlan}
use Rattle.st_answer_laws.proofs.RecordLaws.{newest-push}

-- ---- runs one after the other

-- the same number, either way round
eqb-sym : (a b : ℕ) → nat_eq a b ≡ nat_eq b a
eqb-sym a b = by_test (nat_eq a b) (nat_eq b a) refl refl
  where
    by_test : (x y : Bool) → nat_eq a b ≡ x → nat_eq b a ≡ y → x ≡ y
    by_test true true e f = refl
    by_test false false e f = refl
    by_test true false e f = let yes : nat_eq b a ≡ true = eq-eqb b a (sym (eqb-true a b e)) in absurd (cc)
    by_test false true e f = let yes : nat_eq a b ≡ true = eq-eqb a b (sym (eqb-true b a f)) in absurd (cc)

module _ {Wire : Type 0} (d : Deployment Wire) where
  -- nothing is done
  pub leads-refl : (w : plain.World) → Leads d w w
  leads-refl w = record { worlds = []; run = tt; ends = refl }

  -- one run and then another
  pub leads-trans : (a b c : plain.World) → Leads d a b → Leads d b c → Leads d a c
  leads-trans a b c first next =
      let joint = both a first.worlds next.worlds first.run (subst (λ x. IsRun (MiniStep (sites_in d)) x next.worlds) (sym first.ends) next.run) in
      record {
        worlds = first.worlds ++ next.worlds;
        run = joint.0;
        ends = joint.1 ∙ ap (λ x. last_of d x next.worlds) first.ends ∙ next.ends;
      }
    where
      both : (w : plain.World) (xs ys : List plain.World) → IsRun (MiniStep (sites_in d)) w xs → IsRun (MiniStep (sites_in d)) (last_of d w xs) ys →
          IsRun (MiniStep (sites_in d)) w (xs ++ ys) × (last_of d w (xs ++ ys) ≡ last_of d (last_of d w xs) ys)
      both w [] ys run more = (more, refl)
      both w (x ∷ xs) ys run more = let rest = both x xs ys run.1 more in ((run.0, rest.0), rest.1)

  -- ---- records

  -- the plain world in which server k of site s has recorded the changes
  unfoldable pub with_records : plain.World → ℕ → ℕ → List Change → plain.World
  with_records w s k cs = record w { records = λ site server. cond (site == s && server == k) (onto cs (w.records site server)) (w.records site server) }

  -- they are recorded one by one
  pub recordings-last : (w : plain.World) (s k : ℕ) (cs : List Change) → last_of d w (recordings w s k cs) ≡ with_records w s k cs
  unfolding with_records with_record
  recordings-last w s k [] = λ i. record w { records = λ site server. by_test (site == s && server == k) (w.records site server) i }
    where
      by_test : (b : Bool) (rs : List Change) → rs ≡ cond b rs rs
      by_test true rs = refl
      by_test false rs = refl
  recordings-last w s k (c ∷ cs) = recordings-last (with_record w s k c) s k cs ∙ (λ i. record w { records = λ site server. by_test (site == s && server == k) (w.records site server) i })
    where
      by_test : (b : Bool) (rs : List Change) → cond b (onto cs (cond b (c ∷ rs) rs)) (cond b (c ∷ rs) rs) ≡ cond b (onto cs (c ∷ rs)) rs
      by_test true rs = refl
      by_test false rs = refl

  -- a node with a body more
  pub plain-with_node : (world : World Wire) (s k : ℕ) (node : Node) (cs : List Change) → newest node.bodies ≡ onto cs (newest (world.nodes s k).bodies) →
      with_records (plain_of d world) s k cs ≡ plain_of d (with_node world s k node)
  unfolding with_records with_node
  plain-with_node world s k node cs e = λ i. record (plain_of d world) { records = λ site server. at site server i }
    where
      by_test : (a b : Bool) (site server : ℕ) → nat_eq s site ≡ a → nat_eq k server ≡ b →
          cond (a && b) (onto cs (newest (world.nodes site server).bodies)) (newest (world.nodes site server).bodies) ≡ newest (cond (a && b) node (world.nodes site server)).bodies
      by_test true true site server f g =
          let of_site : s ≡ site = eqb-true s site f in
          let of_server : k ≡ server = eqb-true k server g in
          ap (λ (n : Node). onto cs (newest n.bodies)) (λ i. world.nodes (sym of_site i) (sym of_server i)) ∙ sym e
      by_test true false site server f g = refl
      by_test false b site server f g = refl

      at : (site server : ℕ) → cond (site == s && server == k) (onto cs (newest (world.nodes site server).bodies)) (newest (world.nodes site server).bodies) ≡ newest (cond (nat_eq s site && nat_eq k server) node (world.nodes site server)).bodies
      at site server =
          ap (λ b. cond (b && (server == k)) (onto cs (newest (world.nodes site server).bodies)) (newest (world.nodes site server).bodies)) (eqb-sym site s)
          ∙ ap (λ b. cond (nat_eq s site && b) (onto cs (newest (world.nodes site server).bodies)) (newest (world.nodes site server).bodies)) (eqb-sym server k)
          ∙ by_test (nat_eq s site) (nat_eq k server) site server refl refl

  -- ---- what is handed out

  -- one seal more
  pub made_by-push : (who : Who) (xs : List MadeSeal) (x : MadeSeal) (ts : List Statement) → made_by who (xs ++ x ∷ []) ts ≡ with_made_by who x (made_by who xs ts)
  unfolding made_by
  made_by-push who [] x ts = refl
  made_by-push who (y ∷ ys) x ts = made_by-push who ys x (with_made_by who y ts)

  pub updates_of-push : (xs : List MadeSeal) (x : MadeSeal) (us : List Update) → updates_of (xs ++ x ∷ []) us ≡ with_update_of x.who x.statement (updates_of xs us)
  unfolding updates_of
  updates_of-push [] x us = refl
  updates_of-push (y ∷ ys) x us = updates_of-push ys x (with_update_of y.who y.statement us)

  -- the plain world in which the server handed the statement out
  plain-made : (world : World Wire) (s k leaf : ℕ) (t : Statement) →
      with_made (plain_of d world) s k t ≡ plain_of d (record world { made = world.made ++ record { who = server_at s k; leaf = leaf; statement = t } ∷ [] })
  unfolding with_made
  plain-made world s k leaf t = λ i. record { records = (plain_of d world).records; made = λ site server. at site server i; updates = sym (updates_of-push world.made x []) i }
    where
      x : MadeSeal
      x = record { who = server_at s k; leaf = leaf; statement = t }

      at : (site server : ℕ) → cond (site == s && server == k) (t ∷ made_by (server_at site server) world.made []) (made_by (server_at site server) world.made []) ≡ made_by (server_at site server) (world.made ++ x ∷ []) []
      at site server =
          ap (λ b. cond (b && (server == k)) (t ∷ made_by (server_at site server) world.made []) (made_by (server_at site server) world.made [])) (eqb-sym site s)
          ∙ ap (λ b. cond (nat_eq s site && b) (t ∷ made_by (server_at site server) world.made []) (made_by (server_at site server) world.made [])) (eqb-sym server k)
          ∙ sym (made_by-push (server_at site server) world.made x [])

  module _ (s k : ℕ) (exists : s < d.sites) (correct : Has k ((sites_in d).correct s)) where
    -- a statement that is recorded and current is handed out, unless its seal was before
    hands-run : (world : World Wire) (leaf : ℕ) (t : Statement) → Has t (made_of ((plain_of d world).records s k)) → IsCurrent t ((plain_of d world).records s k) →
        Leads d (plain_of d world) (plain_of d (hands_seal world (server_at s k) leaf t))
    unfolding hands_seal
    hands-run world leaf t recorded current = by_test (has_handed world.made (server_at s k) leaf t)
      where
        by_test : (b : Bool) → Leads d (plain_of d world) (plain_of d (record world { made = cond b world.made (world.made ++ record { who = server_at s k; leaf = leaf; statement = t } ∷ []) }))
        by_test true = leads-refl (plain_of d world)
        by_test false =
            record {
              worlds = with_made (plain_of d world) s k t ∷ [];
              run = (hands (record { site = s; server = k; statement = t; exists = exists; correct = correct; recorded = recorded; current = current; next = refl }), tt);
              ends = plain-made world s k leaf t;
            }

    -- one output
    output-run : (world : World Wire) (rs : List Change) (o : Output) → (plain_of d world).records s k ≡ rs → MayHand s rs o → Leads d (plain_of d world) (plain_of d (notes_seal d s k world o))
    unfolding notes_seal
    output-run world rs o is may = by_leaf o.leaf refl
      where
        by_statement : (leaf : ℕ) → o.leaf ≡ Some leaf → (x : Option Statement) → handed s o.message ≡ x → Leads d (plain_of d world) (plain_of d (given x world (λ t. hands_seal world (server_at s k) leaf t)))
        by_statement leaf e None f = leads-refl (plain_of d world)
        by_statement leaf e (Some t) f =
            let h = may leaf t e f in
            hands-run world leaf t (subst (λ (z : List Change). Has t (made_of z)) (sym is) h.0) (subst (λ (z : List Change). IsCurrent t z) (sym is) h.1)

        by_leaf : (x : Option ℕ) → o.leaf ≡ x → Leads d (plain_of d world) (plain_of d (given x world (λ leaf. given (handed s o.message) world (λ t. hands_seal world (server_at s k) leaf t))))
        by_leaf None e = leads-refl (plain_of d world)
        by_leaf (Some leaf) e = by_statement leaf e (handed s o.message) refl

    -- the nodes stay
    pub nodes-hands_one : (world : World Wire) (o : Output) → (hands_one d s k world o).nodes ≡ world.nodes
    unfolding hands_one sends_to notes_seal hands_seal
    nodes-hands_one world o = by_leaf o.leaf
      where
        by_statement : (leaf : ℕ) (x : Option Statement) → (given x world (λ t. hands_seal world (server_at s k) leaf t)).nodes ≡ world.nodes
        by_statement leaf None = refl
        by_statement leaf (Some t) = refl

        by_leaf : (x : Option ℕ) → (given x world (λ leaf. given (handed s o.message) world (λ t. hands_seal world (server_at s k) leaf t))).nodes ≡ world.nodes
        by_leaf None = refl
        by_leaf (Some leaf) = by_statement leaf (handed s o.message)

    -- sending changes no plain world
    plain-hands_one : (world : World Wire) (o : Output) → plain_of d (notes_seal d s k world o) ≡ plain_of d (hands_one d s k world o)
    unfolding hands_one sends_to
    plain-hands_one world o = refl

    -- all outputs
    pub outputs-run : (world : World Wire) (rs : List Change) (os : List Output) → (plain_of d world).records s k ≡ rs → AllOf (MayHand s rs) os → Leads d (plain_of d world) (plain_of d (hands_out d s k world os))
    outputs-run world rs [] is may = leads-refl (plain_of d world)
    outputs-run world rs (o ∷ os) is may =
        leads-trans (plain_of d world) (plain_of d (hands_one d s k world o)) (plain_of d (hands_out d s k world (o ∷ os)))
        (subst (λ x. Leads d (plain_of d world) x) (plain-hands_one world o) (output-run world rs o is may.0))
        (outputs-run (hands_one d s k world o) rs os (ap (λ (n : ℕ → ℕ → Node). newest (n s k).bodies) (nodes-hands_one world o) ∙ is) may.1)

    -- ---- the event

    -- the body that a plan adds
    settled-bodies : (node : Node) (plan : Plan) → newest (settled d node plan).bodies ≡ onto plan.changes (newest node.bodies)
    settled-bodies node plan = by_changes plan.changes
      where
        by_changes : (cs : List Change) → newest (cond (is_nil cs) node.bodies (node.bodies ++ cs ∷ [])) ≡ onto cs (newest node.bodies)
        by_changes [] = refl
        by_changes (c ∷ cs) = newest-push node.bodies (c ∷ cs)

    records-there : (world : World Wire) (node : Node) → (plain_of d (with_node world s k node)).records s k ≡ newest node.bodies
    unfolding with_node
    records-there world node = ap (λ b. newest (cond b node (world.nodes s k)).bodies) (both (eq-eqb s s refl) (eq-eqb k k refl))
      where
        both : {a b : Bool} → a ≡ true → b ≡ true → (a && b) ≡ true
        both {a} {b} x y = ap (λ z. z && b) x ∙ y

    -- a node with the same bodies is the same
    pub plain-same : (world : World Wire) (node : Node) → node.bodies ≡ (world.nodes s k).bodies → plain_of d world ≡ plain_of d (with_node world s k node)
    unfolding with_records
    plain-same world node e =
        (λ i. record (plain_of d world) { records = λ site server. by_test (site == s && server == k) ((plain_of d world).records site server) i })
        ∙ plain-with_node world s k node [] (ap newest e)
      where
        by_test : (b : Bool) (rs : List Change) → rs ≡ cond b rs rs
        by_test true rs = refl
        by_test false rs = refl

    -- An event whose plan may be is a run of mini-steps.
    pub event-run : (world : World Wire) (plan : Plan) → AreSites (sites_in d) → MayPlan (sites_in d) (plain_of d world) s (newest (world.nodes s k).bodies) plan →
        Leads d (plain_of d world) (plain_of d (comes_to d world s k plan).world)
    unfolding comes_to
    event-run world plan sites may = by_full (is_full_by d (world.nodes s k) plan) (is_stopped_by d (world.nodes s k) plan)
      where
        node : Node
        node = world.nodes s k

        after_records : World Wire
        after_records = with_node world s k (settled d node plan)

        goes : Leads d (plain_of d world) (plain_of d (hands_out d s k after_records plan.outputs))
        goes =
            leads-trans (plain_of d world) (plain_of d after_records) (plain_of d (hands_out d s k after_records plan.outputs))
            (record {
              worlds = recordings (plain_of d world) s k plan.changes;
              run = pending-run (sites_in d) (plain_of d world) s k plan.changes sites exists correct may.may;
              ends = recordings-last (plain_of d world) s k plan.changes ∙ plain-with_node world s k (settled d node plan) plan.changes (settled-bodies node plan);
            })
            (outputs-run after_records (onto plan.changes (newest node.bodies)) plan.outputs (records-there world (settled d node plan) ∙ settled-bodies node plan) may.hands)

        same : (other : Node) → other.bodies ≡ node.bodies → Leads d (plain_of d world) (plain_of d (with_node world s k other))
        same other e = subst (λ x. Leads d (plain_of d world) x) (plain-same world other e) (leads-refl (plain_of d world))

        by_stop : (b : Bool) → Leads d (plain_of d world)
            (plain_of d (cond b (stepped (with_node world s k (stands_stopped d node plan.changes)) done.Stopped) (stepped (hands_out d s k after_records plan.outputs) (done.Outcome plan.outcome))).world)
        by_stop true = same (stands_stopped d node plan.changes) refl
        by_stop false = goes

        by_full : (b c : Bool) → Leads d (plain_of d world)
            (plain_of d (cond b (stepped (with_node world s k (stands_full d node)) done.Full)
            (cond c (stepped (with_node world s k (stands_stopped d node plan.changes)) done.Stopped) (stepped (hands_out d s k after_records plan.outputs) (done.Outcome plan.outcome)))).world)
        by_full true c = same (stands_full d node) refl
        by_full false c = by_stop c
