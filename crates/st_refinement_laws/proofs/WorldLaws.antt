-- Events, clients' updates and restarts keep that a world refines a run: its plain world is reached. So executed values agree.
use Rattle.std.proofs.Common.{◌≡◌, ℕ, ◌+◌, ◌<◌, Bool, true, false, cond, nat_eq, nat_lt, List, [], ◌∷◌, ◌++◌, refl, sym, ◌∙◌, ap, subst, inl, inr, arith}
use Rattle.std.specs.Prelude.{◌&&◌, not, Option, Some, None}
use Rattle.std.proofs.lemmas.Bool.{eqb-true, ltb-true}
use Rattle.st_words.specs.declared.value.Value.{Value}
use Rattle.st_message.specs.declared.change.Change.{Change}
use Rattle.st_message.specs.declared.event.Output.{Output}
use Rattle.st_message.specs.declared.event.Plan.{Plan}
use Rattle.st_message.specs.declared.message.Message.{Message}
use Rattle.st_schedule.specs.declared.done.Done.TheVariants as done
use Rattle.st_counts.specs.Counts.{Has, AllOf, numbers_below}
use Rattle.st_counts.proofs.CountLaws.{count-not, length-filter}
use Rattle.st_counts.proofs.MemberLaws.{has-filter, has-numbers_below}
use Rattle.st_registers.specs.Steps.{IsRun}
use Rattle.st_agreement.specs.MiniSteps.{MiniStep, Invariant, HasExecuted, first}
use Rattle.st_agreement.specs.Runs.{Reached, HasServers, MayRecord, recordings}
use Rattle.st_agreement.specs.Sites.{AreSites}
use Rattle.st_agreement.specs.Worlds as plain
use Rattle.st_agreement.proofs.PendingLaws.{pending-kept, pending-run}
use Rattle.st_agreement.proofs.RunLaws.{reached-invariant, run-executed}
use Rattle.st_agreement.proofs.WorldLaws.{step-extends}
use Rattle.st_protocol.specs.Keeping.{given, joined}
use Rattle.st_protocol.specs.State.{Answers}
use Rattle.st_protocol.specs.Questions.{questions}
use Rattle.st_protocol.specs.Duty.{Event, of_kind, plan_by}
use Rattle.st_protocol.specs.World.{Deployment, World, Node, Stand, Running, Stopped, Full, empty, fresh_node, servers_of, is_correct, with_node, settled, is_full_by, is_stopped_by, stands_full, stands_stopped, hands_one, hands_out, seat_of, pen_at, comes_to, plan_at, by_stand, serves, stepped}
use Rattle.st_protocol.specs.Schedule.{restarted}
use Rattle.st_ranges.specs.Deployments.{KeepsRanges}
use Rattle.st_answer_laws.specs.Fair.{HasFewFaulty}
use Rattle.st_answer_laws.specs.Plain.{newest, updates_of, made_by, sites_in, plain_of, last_of, Leads, RefinesFrom, Refines}
use Rattle.st_answer_laws.specs.Sound.{IsSound, IsSoundHeard, IsHonestEvent}
use Rattle.st_answer_laws.specs.Support.{MayPlan}
use Rattle.st_answer_laws.proofs.RecordLaws.{newest-push}
use Rattle.st_refinement_laws.proofs.RunLaws.{leads-refl, leads-trans, recordings-last, plain-with_node, plain-same, nodes-hands_one, event-run}
use Rattle.st_answer_laws.proofs.SealLaws.{has-servers, first-of-two, second-of-two}
use Rattle.st_message.specs.declared.change.Heard.{Heard}
use Rattle.st_answer_laws.proofs.WayLaws.{all-append}
use Rattle.st_refinement_laws.proofs.SoundLaws.{Kept, heard-kept, kept-with_node, kept-hands_out}
use Rattle.st_refinement_laws.proofs.EventLaws.{part-may, plan-may}

-- its correct servers are enough
pub are-sites : {Wire : Type 0} (d : Deployment Wire) → HasFewFaulty d → AreSites (sites_in d)
are-sites d few =
    let has : HasServers d.sites (λ s. d.f) (λ s. numbers_below (servers_of d)) (is_correct d) = has-servers d empty few in
    record {
      some = has.some;
      most = λ s exists. omega (arith, has.many s exists, has.few_faulty s exists, count-not (is_correct d s) (numbers_below (servers_of d)), length-filter (is_correct d s) (numbers_below (servers_of d)));
    }

module _ {Wire : Type 0} (d : Deployment Wire) (few : HasFewFaulty d) (ranges : KeepsRanges d) (sites : AreSites (sites_in d)) where
  -- ---- runs

  -- the last world of a run is one of its worlds
  pub last-has : (w : plain.World) (ws : List plain.World) → Has (last_of d w ws) (w ∷ ws)
  last-has w [] = inl refl
  last-has w (x ∷ xs) = inr (last-has x xs)

  -- a plain world to which a run leads is reached
  pub leads-reached : (w : plain.World) → Leads d first w → Reached (sites_in d) w
  leads-reached w leads =
      record {
        worlds = leads.worlds;
        run = leads.run;
        among = subst (λ x. Has x (first ∷ leads.worlds)) leads.ends (last-has first leads.worlds);
      }

  -- what may be recorded still may at the end of a run
  may-run : (w : plain.World) (ws : List plain.World) (s : ℕ) (rs cs : List Change) → s < d.sites → IsRun (MiniStep (sites_in d)) w ws → MayRecord (sites_in d) w s rs cs → MayRecord (sites_in d) (last_of d w ws) s rs cs
  may-run w [] s rs cs exists run may = may
  may-run w (x ∷ xs) s rs cs exists run may =
      may-run x xs s rs cs exists run.1 (pending-kept (sites_in d) w x s rs cs sites exists (step-extends (sites_in d) w x run.0) may)

  pub may-leads : (a b : plain.World) (s : ℕ) (rs cs : List Change) → s < d.sites → Leads d a b → MayRecord (sites_in d) a s rs cs → MayRecord (sites_in d) b s rs cs
  may-leads a b s rs cs exists leads may = subst (λ x. MayRecord (sites_in d) x s rs cs) leads.ends (may-run a leads.worlds s rs cs exists leads.run may)

  -- ---- at first

  pub refines-empty : Refines d empty
  unfolding empty fresh_node made_by updates_of joined
  refines-empty = record { leads = leads-refl d first; apart = λ s k cs exists correct e. absurd (let none : None ≡ Some cs = e in cc); heard = λ s k exists correct. tt }

  -- a server that runs code is a correct one of the deployment
  pub runs-exists : (s k : ℕ) → d.faulty s k ≡ false → s < d.sites
  runs-exists s k runs = ltb-true s d.sites (first-of-two (nat_lt s d.sites) (nat_lt k (servers_of d)) (ranges.runs s k runs))

  pub runs-correct : (s k : ℕ) → d.faulty s k ≡ false → Has k ((sites_in d).correct s)
  runs-correct s k runs =
      has-filter (is_correct d s) k (numbers_below (servers_of d)) (both (ranges.runs s k runs) runs)
      (has-numbers_below k (servers_of d) (ltb-true k (servers_of d) (second-of-two (nat_lt s d.sites) (nat_lt k (servers_of d)) (ranges.runs s k runs))))
    where
      both : {a b : Bool} → a ≡ true → b ≡ false → (a && not b) ≡ true
      both {a} {b} x y = ap (λ z. z && not b) x ∙ ap (λ z. not z) y

  module _ (start : plain.World) (from : Leads d first start) where
    -- the invariant holds, since the plain world is reached
    pub refines-invariant : (world : World Wire) → RefinesFrom d start world → Invariant (sites_in d) (plain_of d world)
    refines-invariant world goes = reached-invariant (sites_in d) (plain_of d world) sites (leads-reached (plain_of d world) (leads-trans d first start (plain_of d world) from goes.leads))

    -- ---- one server's node changes

    -- A server's node is changed, and a run leads to the new plain world.
    pub refines-node : (world new : World Wire) (s k : ℕ) (node : Node) → RefinesFrom d start world → new.nodes ≡ (with_node world s k node).nodes → Leads d (plain_of d world) (plain_of d new) → Kept world new → AllOf (IsSoundHeard d new) node.heard →
        ((cs : List Change) → node.apart ≡ Some cs → MayRecord (sites_in d) (plain_of d new) s (newest node.bodies) cs) → RefinesFrom d start new
    unfolding with_node
    refines-node world new s k node goes same leads kept sound own =
        record {
          leads = leads-trans d start (plain_of d world) (plain_of d new) goes.leads leads;
          apart = λ s2 k2 cs exists correct e.
              let at : new.nodes s2 k2 ≡ cond (nat_eq s s2 && nat_eq k k2) node (world.nodes s2 k2) = ap (λ (n : ℕ → ℕ → Node). n s2 k2) same in
              subst (λ (x : Node). MayRecord (sites_in d) (plain_of d new) s2 (newest x.bodies) cs) (sym at)
              (by_tests (nat_eq s s2) (nat_eq k k2) s2 k2 cs exists correct refl (subst (λ (x : Node). x.apart ≡ Some cs) at e));
          heard = λ s2 k2 exists correct.
              let at : new.nodes s2 k2 ≡ cond (nat_eq s s2 && nat_eq k k2) node (world.nodes s2 k2) = ap (λ (n : ℕ → ℕ → Node). n s2 k2) same in
              subst (λ (x : Node). AllOf (IsSoundHeard d new) x.heard) (sym at) (by_place (nat_eq s s2 && nat_eq k k2) s2 k2 (heard-kept d world new kept (world.nodes s2 k2).heard (goes.heard s2 k2 exists correct)));
        }
      where
        by_place : (b : Bool) (s2 k2 : ℕ) → AllOf (IsSoundHeard d new) (world.nodes s2 k2).heard → AllOf (IsSoundHeard d new) (cond b node (world.nodes s2 k2)).heard
        by_place true s2 k2 others = sound
        by_place false s2 k2 others = others

        by_tests : (a b : Bool) (s2 k2 : ℕ) (cs : List Change) → s2 < d.sites → Has k2 ((sites_in d).correct s2) → nat_eq s s2 ≡ a → (cond (a && b) node (world.nodes s2 k2)).apart ≡ Some cs →
            MayRecord (sites_in d) (plain_of d new) s2 (newest (cond (a && b) node (world.nodes s2 k2)).bodies) cs
        by_tests true true s2 k2 cs exists correct is e = subst (λ z. MayRecord (sites_in d) (plain_of d new) z (newest node.bodies) cs) (eqb-true s s2 is) (own cs e)
        by_tests true false s2 k2 cs exists correct is e = may-leads (plain_of d world) (plain_of d new) s2 (newest (world.nodes s2 k2).bodies) cs exists leads (goes.apart s2 k2 cs exists correct e)
        by_tests false b s2 k2 cs exists correct is e = may-leads (plain_of d world) (plain_of d new) s2 (newest (world.nodes s2 k2).bodies) cs exists leads (goes.apart s2 k2 cs exists correct e)

    -- ---- an event

    module _ (s k : ℕ) (exists : s < d.sites) (correct : Has k ((sites_in d).correct s)) where
      nodes-hands_out : (world : World Wire) (os : List Output) → (hands_out d s k world os).nodes ≡ world.nodes
      nodes-hands_out world [] = refl
      nodes-hands_out world (o ∷ os) = nodes-hands_out (hands_one d s k world o) os ∙ nodes-hands_one d s k exists correct world o

      refines-plan : (world : World Wire) (plan : Plan) → RefinesFrom d start world → MayPlan (sites_in d) (plain_of d world) s (newest (world.nodes s k).bodies) plan × AllOf (IsSoundHeard d world) plan.heard → RefinesFrom d start (comes_to d world s k plan).world
      unfolding comes_to
      refines-plan world plan goes may = by_full (is_full_by d (world.nodes s k) plan) (is_stopped_by d (world.nodes s k) plan) (event-run d s k exists correct world plan sites may.0)
        where
          node : Node
          node = world.nodes s k

          handed : World Wire
          handed = hands_out d s k (with_node world s k (settled d node plan)) plan.outputs

          handed-kept : Kept world handed
          handed-kept = λ who t h. kept-hands_out d s k (with_node world s k (settled d node plan)) plan.outputs who t (kept-with_node d world s k (settled d node plan) who t h)

          -- a node that heard as much
          standing : (x : Node) → x.heard ≡ node.heard → AllOf (IsSoundHeard d (with_node world s k x)) x.heard
          standing x same = subst (λ (z : List Heard). AllOf (IsSoundHeard d (with_node world s k x)) z) (sym same) (heard-kept d world (with_node world s k x) (kept-with_node d world s k x) node.heard (goes.heard s k exists correct))

          by_set : (b : Bool) (cs : List Change) → cond b (Some plan.changes) None ≡ Some cs → MayRecord (sites_in d) (plain_of d (with_node world s k (stands_stopped d node plan.changes))) s (newest node.bodies) cs
          by_set true cs e = subst (λ x. MayRecord (sites_in d) x s (newest node.bodies) cs) (plain-same d s k exists correct world (stands_stopped d node plan.changes) refl)
              (subst (λ (z : List Change). MayRecord (sites_in d) (plain_of d world) s (newest node.bodies) z) (some plan.changes cs e) may.0.may)
            where
              some : (x y : List Change) → Some x ≡ Some y → x ≡ y
              some x y f = cc
          by_set false cs e = absurd (let none : None ≡ Some cs = e in cc)

          by_full : (b c : Bool) → Leads d (plain_of d world) (plain_of d (cond b (stepped (with_node world s k (stands_full d node)) done.Full)
              (cond c (stepped (with_node world s k (stands_stopped d node plan.changes)) done.Stopped) (stepped handed (done.Outcome plan.outcome)))).world) →
              RefinesFrom d start (cond b (stepped (with_node world s k (stands_full d node)) done.Full)
              (cond c (stepped (with_node world s k (stands_stopped d node plan.changes)) done.Stopped) (stepped handed (done.Outcome plan.outcome)))).world
          by_full true c leads = refines-node world _ s k (stands_full d node) goes refl leads (kept-with_node d world s k (stands_full d node)) (standing (stands_full d node) refl) (λ cs e. absurd (let none : None ≡ Some cs = e in cc))
          by_full false true leads = refines-node world _ s k (stands_stopped d node plan.changes) goes refl leads (kept-with_node d world s k (stands_stopped d node plan.changes)) (standing (stands_stopped d node plan.changes) refl) (λ cs e. by_set (nat_eq node.stop 4) cs e)
          by_full false false leads =
              refines-node world handed s k (settled d node plan) goes (nodes-hands_out (with_node world s k (settled d node plan)) plan.outputs) leads handed-kept (heard-kept d world handed handed-kept (node.heard ++ plan.heard) (all-append (IsSoundHeard d world) node.heard plan.heard (goes.heard s k exists correct) may.1)) (λ cs e. absurd (let none : None ≡ Some cs = e in cc))

    -- What the part that takes a message answers is carried out, whatever its kind.
    pub refines-part : (world : World Wire) (s k : ℕ) (m : Message) → d.faulty s k ≡ false → IsSound d world m → RefinesFrom d start world →
        let now : Answers = questions (seat_of d s k) (world.nodes s k).bodies (world.nodes s k).heard in RefinesFrom d start (comes_to d world s k (plan_by (pen_at d s k) now (of_kind now m))).world
    refines-part world s k m runs sound goes =
        let exists : s < d.sites = runs-exists s k runs in
        let correct : Has k ((sites_in d).correct s) = runs-correct s k runs in
        let now : Answers = questions (seat_of d s k) (world.nodes s k).bodies (world.nodes s k).heard in
        refines-plan s k exists correct world (plan_by (pen_at d s k) now (of_kind now m)) goes
        (part-may d world few ranges sites s k exists correct (refines-invariant world goes) (goes.heard s k exists correct) m sound)

    -- An event of a server, at which what is delivered is honest.
    pub refines-serves : (world : World Wire) (s k : ℕ) (event : Event Wire) → IsHonestEvent d world event → RefinesFrom d start world → RefinesFrom d start (serves d world s k event).world
    unfolding serves
    refines-serves world s k event honest goes = by_faulty (d.faulty s k) refl (world.nodes s k).stand
      where
        by_faulty : (b : Bool) → d.faulty s k ≡ b → (stand : Stand) → RefinesFrom d start (cond b (stepped world done.Faulty) (by_stand d world s k event stand)).world
        by_faulty true is stand = goes
        by_faulty false is Running =
            let exists : s < d.sites = runs-exists s k is in
            let correct : Has k ((sites_in d).correct s) = runs-correct s k is in
            refines-plan s k exists correct world (plan_at d world s k event) goes
            (plan-may d world few ranges sites s k exists correct (refines-invariant world goes) (goes.heard s k exists correct) event honest)
        by_faulty false is Stopped = goes
        by_faulty false is Full = goes

    -- ---- a restart

    -- A stopped server's pending record is there or isn't.
    pub refines-restart : (world : World Wire) (s k : ℕ) (kept : Bool) → d.faulty s k ≡ false → RefinesFrom d start world → RefinesFrom d start (with_node world s k (restarted d (world.nodes s k) kept))
    refines-restart world s k kept runs goes = by_kept kept (world.nodes s k).apart refl
      where
        node : Node
        node = world.nodes s k

        exists : s < d.sites
        exists = runs-exists s k runs

        correct : Has k ((sites_in d).correct s)
        correct = runs-correct s k runs

        without : Node
        without = record { bodies = node.bodies; heard = []; stand = Running; stop = 0; apart = None; bytes = node.bytes }

        lost : RefinesFrom d start (with_node world s k without)
        lost =
            refines-node world (with_node world s k without) s k without goes refl
            (subst (λ x. Leads d (plain_of d world) x) (plain-same d s k exists correct world without refl) (leads-refl d (plain_of d world))) (kept-with_node d world s k without) tt
            (λ cs e. absurd (let none : None ≡ Some cs = e in cc))

        with_it : List Change → Node
        with_it cs = record { bodies = node.bodies ++ cs ∷ []; heard = []; stand = Running; stop = 0; apart = None; bytes = node.bytes + d.formats.body_size cs }

        by_kept : (b : Bool) (o : Option (List Change)) → node.apart ≡ o → RefinesFrom d start (with_node world s k (given (cond b o None) without with_it))
        by_kept false o e = lost
        by_kept true None e = lost
        by_kept true (Some cs) e =
            refines-node world (with_node world s k (with_it cs)) s k (with_it cs) goes refl
            (record {
              worlds = recordings (plain_of d world) s k cs;
              run = pending-run (sites_in d) (plain_of d world) s k cs sites exists correct (goes.apart s k cs exists correct e);
              ends = recordings-last d (plain_of d world) s k cs ∙ plain-with_node d world s k (with_it cs) cs (newest-push node.bodies cs);
            }) (kept-with_node d world s k (with_it cs)) tt
            (λ more f. absurd (let none : None ≡ Some more = f in cc))

  -- ---- agreement

  -- Two correct servers that executed a number executed one value, in whatever worlds of a run of which one leads to the other.
  pub executed-agree : (early late : World Wire) → Refines d early → Leads d (plain_of d early) (plain_of d late) → (n : ℕ) (u v : Value) →
      HasExecuted (sites_in d) (plain_of d early) n u → HasExecuted (sites_in d) (plain_of d late) n v → u ≡ v
  executed-agree early late goes leads n u v one other =
      run-executed (sites_in d) (plain_of d early) leads.worlds sites (refines-invariant first (leads-refl d first) early goes) leads.run (plain_of d early) (plain_of d late) (inl refl)
      (subst (λ x. Has x (plain_of d early ∷ leads.worlds)) leads.ends (last-has (plain_of d early) leads.worlds)) n u v one other
