-- Every line keeps that a world refines a run, if each event of a server at it is honest.
use Rattle.std.proofs.Common.{◌≡◌, ℕ, ◌<◌, Bool, true, false, cond, zero, suc, nat_eq, nat_le, List, [], ◌∷◌, ◌++◌, refl, sym, ap, subst}
use Rattle.std.specs.Prelude.{IsTrue, ◌&&◌, not, Option, Some, None, is_some, slice_get}
use Rattle.st_words.specs.declared.value.Update.{Update}
use Rattle.st_words.specs.declared.statement.Statement.{Statement}
use Rattle.st_words.specs.declared.statement.Statement.TheVariants.{Prepare, Reply, ClientUpdate}
use Rattle.st_seal.specs.declared.quorum.Signed.{Signed}
use Rattle.st_message.specs.declared.message.Message.{Message}
use Rattle.st_message.specs.declared.message.Message.TheVariants as messages
use Rattle.st_message.specs.declared.made.MadeSeal.{MadeSeal}
use Rattle.st_schedule.specs.declared.line.Dest.{Dest}
use Rattle.st_schedule.specs.declared.line.Dest.TheVariants as dests
use Rattle.st_schedule.specs.declared.line.Line.{Line}
use Rattle.st_schedule.specs.declared.line.Line.TheVariants as lines
use Rattle.st_schedule.specs.declared.done.Done.TheVariants as done
use Rattle.st_agreement.specs.MiniSteps.{asks, first, with_update}
use Rattle.st_agreement.specs.Runs.{MayRecord}
use Rattle.st_agreement.specs.Sites.{AreSites}
use Rattle.st_agreement.specs.Worlds as plain
use Rattle.st_protocol.specs.Words.{Bytes, client_at, server_at}
use Rattle.st_protocol.specs.Keeping.{given}
use Rattle.st_protocol.specs.Duty.{Deliver, Tick, Reading, Faulty, Clean}
use Rattle.st_protocol.specs.World.{Deployment, World, Node, Pair, Customer, Fault, BadReference, Answered, same_dest, bad_seal, is_server, is_correct, Stepped, stepped, has_made, has_handed, with_node, with_customer, with_waiting, uses_leaf, ends, hands as hands_seal, sends_to, delivers, client_takes, on_reply, on_checked_reply, read_known}
use Rattle.st_protocol.specs.Schedule.{is_pair, without, Flowing, timeout_event, set_to_stop, drops, counts, flows_first, flows, submits, then_assigns, seals, forged_by, is_reference, goes, step, goes_on, steps}
use Rattle.st_ranges.specs.Deployments.{KeepsRanges}
use Rattle.st_answer_laws.specs.Fair.{HasFewFaulty}
use Rattle.st_answer_laws.specs.Plain.{newest, made_by, updates_of, sites_in, plain_of, Leads, RefinesFrom}
use Rattle.st_refinement_laws.specs.Lines.{IsDelivery, IsFirst, AreFlows, IsLine, AreHonestLines}
use Rattle.st_counts.specs.Counts.{Has, AllOf}
use Rattle.st_answer_laws.specs.Sound.{IsSound, IsSoundHeard, IsHonestEvent}
use Rattle.st_refinement_laws.proofs.SoundLaws.{Kept, heard-kept, kept-with_node, kept-hands}
use Rattle.st_answer_laws.proofs.NormalLaws.{not-true}
use Rattle.st_answer_laws.proofs.SealLaws.{second-of-two}
use Rattle.st_refinement_laws.proofs.RunLaws.{plain-same, leads-refl, leads-trans, made_by-push, updates_of-push}
use Rattle.st_refinement_laws.proofs.WorldLaws.{may-leads, refines-serves, refines-restart, refines-node, runs-exists, runs-correct}

module _ {Wire : Type 0} (d : Deployment Wire) (few : HasFewFaulty d) (ranges : KeepsRanges d) (sites : AreSites (sites_in d)) (start : plain.World) (from : Leads d first start) where
  -- the same nodes and the same seals: the same plain world
  plain-of-same : (world new : World Wire) → new.nodes ≡ world.nodes → new.made ≡ world.made → plain_of d world ≡ plain_of d new
  plain-of-same world new nodes made = λ i. record { records = λ s k. newest (sym nodes i s k).bodies; made = λ s k. made_by (server_at s k) (sym made i) []; updates = updates_of (sym made i) [] }

  -- a run leads on, and no node changes
  refines-on : (world new : World Wire) → new.nodes ≡ world.nodes → Kept world new → Leads d (plain_of d world) (plain_of d new) → RefinesFrom d start world → RefinesFrom d start new
  refines-on world new nodes kept leads go =
      record {
        leads = leads-trans d start (plain_of d world) (plain_of d new) go.leads leads;
        apart = λ s k cs exists correct e.
            let same : new.nodes s k ≡ world.nodes s k = ap (λ (n : ℕ → ℕ → Node). n s k) nodes in
            subst (λ (x : Node). MayRecord (sites_in d) (plain_of d new) s (newest x.bodies) cs) (sym same)
            (may-leads d few ranges sites (plain_of d world) (plain_of d new) s (newest (world.nodes s k).bodies) cs exists leads (go.apart s k cs exists correct (subst (λ (x : Node). x.apart ≡ Some cs) same e)));
        heard = λ s k exists correct.
            let same : new.nodes s k ≡ world.nodes s k = ap (λ (n : ℕ → ℕ → Node). n s k) nodes in
            subst (λ (x : Node). AllOf (IsSoundHeard d new) x.heard) (sym same) (heard-kept d world new kept (world.nodes s k).heard (go.heard s k exists correct));
      }

  refines-same : (world new : World Wire) → new.nodes ≡ world.nodes → new.made ≡ world.made → RefinesFrom d start world → RefinesFrom d start new
  refines-same world new nodes made go = refines-on world new nodes (λ who t h. subst (λ (z : List MadeSeal). IsTrue (has_made z who t)) (sym made) h) (subst (λ x. Leads d (plain_of d world) x) (plain-of-same world new nodes made) (leads-refl d (plain_of d world))) go

  -- ---- what changes neither

  refines-waiting : (world : World Wire) (ps : List Pair) → RefinesFrom d start world → RefinesFrom d start (with_waiting world ps)
  unfolding with_waiting
  refines-waiting world ps go = refines-same world _ refl refl go

  refines-customer : (world : World Wire) (c : ℕ) (x : Customer) → RefinesFrom d start world → RefinesFrom d start (with_customer world c x)
  unfolding with_customer
  refines-customer world c x go = refines-same world _ refl refl go

  refines-ends : (world : World Wire) (fault : Option Fault) → RefinesFrom d start world → RefinesFrom d start (ends world fault)
  unfolding ends
  refines-ends world fault go = refines-same world _ refl refl go

  refines-sends : (world : World Wire) (wire : Wire) (to : List Dest) → RefinesFrom d start world → RefinesFrom d start (sends_to d world wire to)
  unfolding sends_to
  refines-sends world wire to go = refines-same world _ refl refl go

  refines-leaf : (world : World Wire) (s k : ℕ) → RefinesFrom d start world → RefinesFrom d start (uses_leaf world s k)
  unfolding uses_leaf
  refines-leaf world s k go = refines-same world _ refl refl go

  -- ---- a client

  -- a client hands out its update
  refines-asks : (world : World Wire) (c leaf : ℕ) (u : Update) → RefinesFrom d start world → RefinesFrom d start (hands_seal world (client_at c) leaf (ClientUpdate u))
  unfolding hands_seal
  refines-asks world c leaf u go = refines-on world _ refl (kept-hands d world (client_at c) leaf (ClientUpdate u)) (by_test (has_handed world.made (client_at c) leaf (ClientUpdate u))) go
    where
      x : MadeSeal
      x = record { who = client_at c; leaf = leaf; statement = ClientUpdate u }

      by_test : (b : Bool) → Leads d (plain_of d world) (plain_of d (record world { made = cond b world.made (world.made ++ x ∷ []) }))
      by_test true = leads-refl d (plain_of d world)
      by_test false =
          record {
            worlds = with_update (plain_of d world) u ∷ [];
            run = (asks u refl, tt);
            ends = λ i. record { records = (plain_of d world).records; made = λ s k. sym (made_by-push d (server_at s k) world.made x []) i; updates = sym (updates_of-push d world.made x []) i };
          }

  -- either of two
  refines-cond : (b : Bool) (v w : Stepped Wire) → RefinesFrom d start v.world → RefinesFrom d start w.world → RefinesFrom d start (cond b v w).world
  refines-cond true v w h k = h
  refines-cond false v w h k = k

  refines-given : {A : Type 0} (o : Option A) (v : Stepped Wire) (f : A → Stepped Wire) → RefinesFrom d start v.world → ((a : A) → o ≡ Some a → RefinesFrom d start (f a).world) → RefinesFrom d start (given o v f).world
  refines-given None v f h k = h
  refines-given (Some a) v f h k = k a refl

  refines-submits : (world : World Wire) (c : ℕ) (op : Bytes) → RefinesFrom d start world → RefinesFrom d start (submits d world c op).world
  unfolding submits
  refines-submits world c op go = refines-cond (nat_le d.capacity (world.customers c).time) _ _ go (refines-sends _ _ _ (refines-asks _ c _ _ (refines-customer world c _ go)))

  -- a client takes a message
  refines-checked : (world : World Wire) (c : ℕ) (x : Customer) (s k t : ℕ) (a : Answered) → RefinesFrom d start world → RefinesFrom d start (on_checked_reply d world c x s k t a).world
  unfolding on_checked_reply
  refines-checked world c x s k t a go = refines-cond (is_some (x.replies s k)) _ _ go (refines-cond (x.waits && nat_eq t x.time) _ _ (refines-customer world c _ go) go)

  refines-reply : (world : World Wire) (c : ℕ) (m : Message) (t : Statement) (signed : Signed) → RefinesFrom d start world → RefinesFrom d start (on_reply d world c m t signed).world
  refines-reply world c m (Reply site to time number result) signed go =
      refines-cond (nat_eq c to.0) _ _ (refines-given (bad_seal d m) _ _ (refines-checked world c (world.customers c) site.0 signed.index time _ go) (λ place e. go)) go
  refines-reply world c m _ signed go = go

  refines-takes : (world : World Wire) (c : ℕ) (r : Reading) → RefinesFrom d start world → RefinesFrom d start (client_takes d world c r).world
  refines-takes world c (Faulty reason) go = go
  refines-takes world c (Clean (messages.Reply t signed)) go = refines-reply world c (messages.Reply t signed) t signed go
  refines-takes world c (Clean _) go = go

  -- ---- deliveries

  refines-delivers : (world : World Wire) (to : Dest) (wire : Wire) → IsDelivery d (λ w m. IsSound d w m) world to wire → RefinesFrom d start world → RefinesFrom d start (delivers d world to wire).world
  unfolding delivers
  refines-delivers world (dests.Server server) wire honest go = refines-serves d few ranges sites start from world server.site server.index (Deliver wire) honest go
  refines-delivers world (dests.Client client) wire honest go = refines-takes world client.0 (read_known d wire) go

  refines-flows : (k : ℕ) (x : Flowing Wire) → AreFlows d (λ w m. IsSound d w m) k x → RefinesFrom d start x.world → RefinesFrom d start (flows d k x).world
  unfolding flows flows_first
  refines-flows zero x honest go = go
  refines-flows (suc k) x honest go = refines-flows k (flows_first d x x.world.waiting) honest.1 (by_pairs x.world.waiting honest.0)
    where
      by_wire : (p : Pair) (ps : List Pair) (o : Option Wire) → slice_get x.world.sent p.message ≡ o → ((wire : Wire) → slice_get x.world.sent p.message ≡ Some wire → IsDelivery d (λ w m. IsSound d w m) (with_waiting x.world ps) p.to wire) →
          RefinesFrom d start (given o x (λ wire. counts d x (delivers d (with_waiting x.world ps) p.to wire))).world
      by_wire p ps None e h = go
      by_wire p ps (Some wire) e h = refines-delivers (with_waiting x.world ps) p.to wire (h wire e) (refines-waiting x.world ps go)

      by_pairs : (ps : List Pair) → IsFirst d (λ w m. IsSound d w m) x ps → RefinesFrom d start (flows_first d x ps).world
      by_pairs [] h = go
      by_pairs (p ∷ ps) h = by_wire p ps (slice_get x.world.sent p.message) refl h

  -- ---- lines

  refines-drops : (world : World Wire) (test : Pair → Bool) → RefinesFrom d start world → RefinesFrom d start (drops d world test).world
  unfolding drops
  refines-drops world test go = refines-waiting world (without test world.waiting) go

  refines-assigns : (world : World Wire) (t : Statement) (signed : Signed) → RefinesFrom d start world → RefinesFrom d start (then_assigns d world t signed)
  unfolding then_assigns
  refines-assigns world (Prepare site view local number value) signed go = refines-sends world _ _ go
  refines-assigns world _ signed go = go

  refines-seals : (world : World Wire) (s k : ℕ) (t : Statement) → RefinesFrom d start world → RefinesFrom d start (seals d world s k t).world
  unfolding seals
  refines-seals world s k t go = refines-assigns _ t _ (refines-sends (uses_leaf world s k) _ _ (refines-leaf world s k go))

  -- a call is set to fail: the records are as before, and so is what is apart
  refines-stop : (world : World Wire) (s k call : ℕ) → d.faulty s k ≡ false → RefinesFrom d start world → RefinesFrom d start (with_node world s k (set_to_stop (world.nodes s k) call))
  refines-stop world s k call runs go =
      let exists : s < d.sites = runs-exists d few ranges sites s k runs in
      let correct : Has k ((sites_in d).correct s) = runs-correct d few ranges sites s k runs in
      let same : plain_of d world ≡ plain_of d (with_node world s k (set_to_stop (world.nodes s k) call)) = plain-same d s k exists correct world (set_to_stop (world.nodes s k) call) refl in
      refines-node d few ranges sites start from world _ s k (set_to_stop (world.nodes s k) call) go refl
      (subst (λ x. Leads d (plain_of d world) x) same (leads-refl d (plain_of d world)))
      (kept-with_node d world s k (set_to_stop (world.nodes s k) call)) (heard-kept d world _ (kept-with_node d world s k (set_to_stop (world.nodes s k) call)) (world.nodes s k).heard (go.heard s k exists correct))
      (λ cs e. subst (λ x. MayRecord (sites_in d) x s (newest (world.nodes s k).bodies) cs) same (go.apart s k cs exists correct e))

  -- a reference to a correct server
  referred : (s k : ℕ) → is_correct d s k ≡ true → d.faulty s k ≡ false
  referred s k e = not-true (d.faulty s k) (second-of-two (is_server d s k) (not (d.faulty s k)) e)

  quiet : (world : World Wire) (global : Bool) → IsHonestEvent d world (timeout_event global)
  quiet world true = tt
  quiet world false = tt

  refines-line : (world : World Wire) (line : Line) → is_reference d world line ≡ true → IsLine d (λ w m. IsSound d w m) (λ w m. IsSound d w m) world line → RefinesFrom d start world → RefinesFrom d start (goes d world line).world
  refines-line world (lines.Client client op) is honest go = refines-submits world client.0 op go
  refines-line world (lines.Deliver m to) is honest go =
      refines-given (slice_get world.sent m) _ _ go (λ wire e. refines-delivers (with_waiting world (without (is_pair m to) world.waiting)) to wire (honest wire e) (refines-waiting world (without (is_pair m to) world.waiting) go))
  refines-line world (lines.Drop m to) is honest go = refines-drops world (is_pair m to) go
  refines-line world (lines.Lose to) is honest go = refines-drops world (λ p. same_dest p.to to) go
  refines-line world (lines.Flow k) is honest go = refines-flows k (record { world = world; pairs = 0; did = 0; ignored = 0 }) honest go
  refines-line world (lines.Timeout server global) is honest go = refines-serves d few ranges sites start from world server.site server.index (timeout_event global) (quiet world global) go
  refines-line world (lines.Tick server) is honest go = refines-serves d few ranges sites start from world server.site server.index Tick honest go
  refines-line world (lines.Stop server call) is honest go = refines-stop world server.site server.index call (referred server.site server.index is) go
  refines-line world (lines.Restart server kept) is honest go = refines-restart d few ranges sites start from world server.site server.index kept (referred server.site server.index is) go
  refines-line world (lines.Seal server t) is honest go = refines-seals world server.site server.index t go
  refines-line world (lines.Raw to bytes) is honest go = by_forged (forged_by d world (d.formats.read (d.formats.raw bytes))) refl
    where
      by_forged : (o : Option Fault) → forged_by d world (d.formats.read (d.formats.raw bytes)) ≡ o →
          RefinesFrom d start (given o (delivers d world to (d.formats.raw bytes)) (λ fault. stepped (ends world (Some fault)) (done.Dropped 0))).world
      by_forged None e = refines-delivers world to (d.formats.raw bytes) (honest e) go
      by_forged (Some fault) e = refines-ends world (Some fault) go
  refines-line world (lines.Show m) is honest go = refines-given (slice_get world.sent m) _ _ go (λ wire e. go)

  pub refines-step : (world : World Wire) (line : Line) → IsLine d (λ w m. IsSound d w m) (λ w m. IsSound d w m) world line → RefinesFrom d start world → RefinesFrom d start (goes_on d world line)
  unfolding step
  refines-step world line honest go = by_reference (is_reference d world line) refl
    where
      by_reference : (b : Bool) → is_reference d world line ≡ b → RefinesFrom d start (cond b (goes d world line) (stepped (ends world (Some BadReference)) (done.Dropped 0))).world
      by_reference true is = refines-line world line is honest go
      by_reference false is = refines-ends world (Some BadReference) go

  -- Honest lines keep that a world refines a run.
  pub refines-steps : (world : World Wire) (all : List Line) → AreHonestLines d world all → RefinesFrom d start world → RefinesFrom d start (steps d world all)
  refines-steps world [] honest go = go
  refines-steps world (line ∷ more) honest go = refines-steps (goes_on d world line) more honest.1 (refines-step world line honest.0 go)
