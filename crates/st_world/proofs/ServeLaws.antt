-- A delivery to the server.
use Rattle.std.proofs.Common.{◌≡◌, ◌∙◌, ap, sym, subst, ℕ, Bool, true, false, cond, List, [], ◌∷◌, ◌++◌}
use Rattle.std.specs.List.{All}
use Rattle.std.proofs.lemmas.List.{append-nil}
use Rattle.std.proofs.lemmas.List.Elements.{All-from_recursion}
use Rattle.st_words.specs.declared.deployment.Deployment.{Deployment}
use Rattle.st_message.specs.declared.change.Change.{Change}
use Rattle.st_message.specs.declared.change.Heard.{Heard}
use Rattle.st_message.specs.declared.event.Plan.{Plan}
use Rattle.st_message.specs.declared.message.Message.{Message}
use Rattle.st_message.specs.declared.reason.Reason.{Reason}
use Rattle.st_message.specs.declared.reason.Reason.TheVariants.{Unknown}
use Rattle.st_message.specs.declared.event.Outcome.TheVariants.{Ignored}
use Rattle.st_schedule.specs.declared.done.Done.TheVariants as dones
use Rattle.st_seal.specs.Pen as seal
use Rattle.st_seal.specs.Scheme.{scheme_of}
use Rattle.st_hss_seal.specs.declared.deployment.PartySealer.{PartySealer}
use Rattle.st_hss_seal.specs.Sealers.{pen_of}
use Rattle.st_hss_seal.specs.Sealing.{pen_in}
use Rattle.st_protocol.specs.Words.{Bytes, server_at}
use Rattle.st_protocol.specs.Keeping.{joined}
use Rattle.st_protocol.specs.State.{Seat, Answers}
use Rattle.st_protocol.specs.Questions.{questions}
use Rattle.st_protocol.specs.Duty.{Deliver, Clean, Faulty, ignored}
use Rattle.st_protocol.specs.World as model
use Rattle.st_protocol.specs.World.{Node, is_nil, reads, seat_of, plan_at, pen_at, settled, with_node, serves, Stepped, stepped, hands_out}
use Rattle.st_protocol.proofs.GatherLaws.{joined-push}
use Rattle.st_flows.proofs.PlainKept.{plain_settled, plain_at, plain_with_node}
use Rattle.st_flows.proofs.ServeLaws.{serves_plan}
use Rattle.st_ranges.specs.Ranges.{MessageInRange, ReadingInRange, OutputInRange, ListsInRange, PlanInRange}
use Rattle.st_ranges.proofs.DutyLaws.{duty_in_range}
use Rattle.st_config.specs.Taken.{IsTaken}
use Rattle.st_server.specs.declared.server.Server.{Server}
use Rattle.st_sealing.specs.Sealing.{pen_by, sealed_bytes}
use Rattle.st_server.specs.Serving.{seat_by, StandsBy, Stands, plan_by_message, read_sender, knows_sender}
use Rattle.st_server.proofs.ServeLaws.{same_joined}
use Rattle.st_deployment.specs.Deployed.{statement_seal, world_deployment}
use Rattle.st_deployment.proofs.PlanLaws.{planned_message, planned_nothing}
use Rattle.st_deployment.proofs.SetLaws.{runs_code, not_written, choice_of, pens_keep, seat_in_range, capacity_same}
use Rattle.st_world.specs.declared.world.World.{World}
use Rattle.st_world.specs.Standing.{IsSet, IsSent, IsWorld}
use Rattle.st_world.specs.Serving.{after_plan, IsSettled}

-- ---- the plan

-- the server's seals are the deployment's
seals_same : (d : Deployment) (pen : seal.Pen) (id : ℕ) → pen ≡ pen_in (scheme_of d) (server_at 0 0) → id ≡ d.id → pen_by pen id ≡ pen_at (world_deployment d) 0 0
unfolding world_deployment
seals_same d pen id same number = λ i. λ leaf s. (same i).seal_of leaf (sealed_bytes (number i) s)

-- what the server plans is the deployment's plan
pub planned : (w : World) (d : Deployment) (m : model.World Bytes) (message : Message) (plan : Plan) → IsWorld w d m
    → ((q : Answers) → StandsBy w.server q → plan ≡ plan_by_message (seat_by w.server) (pen_by (pen_of w.sealer) w.deployment.id) q message)
    → plan ≡ plan_by_message (seat_of (world_deployment d) 0 0) (pen_at (world_deployment d) 0 0) (questions (seat_of (world_deployment d) 0 0) (m.nodes 0 0).bodies (m.nodes 0 0).heard) message
planned w d m message plan stands is =
    let seat = stands.set.seat in
    let bodies = (m.nodes 0 0).bodies in
    let heard = (m.nodes 0 0).heard in
    is (questions (seat_by w.server) bodies heard) stands.server.answers
    ∙ (λ i. plan_by_message (seat i) (seals_same d (pen_of w.sealer) w.deployment.id stands.set.sealer (ap (λ (x : Deployment). x.id) stands.set.deployment) i) (questions (seat i) bodies heard) message)

-- a message in range is read so
sender_in_range : (seat : Seat) (m : Message) → MessageInRange m → ReadingInRange (read_sender seat m)
sender_in_range seat m inside = by (knows_sender seat m)
  where
    by : (b : Bool) → ReadingInRange (cond b (Clean m) (Faulty Unknown))
    by true = inside
    by false = tt

-- the plan keeps ranges
pub plan_in_range : (d : Deployment) (bodies : List (List Change)) (heard : List Heard) (message : Message) (plan : Plan) → IsTaken d → MessageInRange message
    → ListsInRange (seat_of (world_deployment d) 0 0) bodies heard
    → plan ≡ plan_by_message (seat_of (world_deployment d) 0 0) (pen_at (world_deployment d) 0 0) (questions (seat_of (world_deployment d) 0 0) bodies heard) message
    → PlanInRange (seat_of (world_deployment d) 0 0) bodies heard plan
unfolding world_deployment
plan_in_range d bodies heard message plan taken inside kept is =
    let seat : Seat = seat_of (world_deployment d) 0 0 in
    subst (PlanInRange seat bodies heard) (sym is)
    (duty_in_range (statement_seal d (server_at 0 0)) (pens_keep d (server_at 0 0) (choice_of d taken)) (read_sender seat) seat bodies heard (Deliver message) (seat_in_range d taken) kept
    (sender_in_range seat message inside))

pub outputs_in_range : (seat : Seat) (bodies : List (List Change)) (heard : List Heard) (plan : Plan) → PlanInRange seat bodies heard plan → All OutputInRange plan.outputs
outputs_in_range seat bodies heard plan inside = All-from_recursion OutputInRange plan.outputs inside.outputs

-- ---- the server settles it

-- a body without changes is none
without_body : (server : Server) (records : List (List Change)) (heard : List Heard) (body : List Change) → Stands server (records ++ body ∷ []) heard
    → Stands server (cond (is_nil body) records (records ++ body ∷ [])) heard
without_body server records heard (x ∷ xs) stands = stands
without_body server records heard [] stands =
    let same : joined (records ++ [] ∷ []) ≡ joined records = joined-push records [] ∙ append-nil (joined records) in
    record {
      answers = subst (StandsBy server) (same_joined (seat_by server) (records ++ [] ∷ []) records heard same) stands.answers;
      entries = stands.entries ∙ ap (λ (q : Answers). q.log.run.entries) (same_joined (seat_by server) (records ++ [] ∷ []) records heard same);
    }

-- nor is it in lists that keep ranges
kept_without : (seat : Seat) (records : List (List Change)) (old heard : List Heard) (body : List Change) → ListsInRange seat records old → ListsInRange seat (records ++ body ∷ []) heard
    → ListsInRange seat (cond (is_nil body) records (records ++ body ∷ [])) heard
kept_without seat records old heard (x ∷ xs) before after = after
kept_without seat records old heard [] before after =
    record { changes = before.changes; messages = after.messages; stands = before.stands; home = after.home; few = before.few }

-- the world with a server that settled
abbrev pub with_server : World → Server → PartySealer → World
with_server w server sealer = record w { server = server; sealer = sealer }

pub settles : (w : World) (server : Server) (sealer : PartySealer) (d : Deployment) (m : model.World Bytes) (plan : Plan) → IsWorld w d m
    → pen_of sealer ≡ pen_of w.sealer → seat_by server ≡ seat_by w.server → Stands server ((m.nodes 0 0).bodies ++ plan.changes ∷ []) ((m.nodes 0 0).heard ++ plan.heard)
    → PlanInRange (seat_of (world_deployment d) 0 0) (m.nodes 0 0).bodies (m.nodes 0 0).heard plan → IsSettled (with_server w server sealer) d m plan
unfolding with_node
settles w server sealer d m plan stands pen seat server_stands inside =
    let was : IsSent w d m = stands.sending in
    let set : IsSet w d = stands.set in
    record {
      set = record { taken = set.taken; deployment = set.deployment; seals = set.seals; sealer = pen ∙ set.sealer; sealers = set.sealers; seat = seat ∙ set.seat };
      server = without_body server (m.nodes 0 0).bodies ((m.nodes 0 0).heard ++ plan.heard) plan.changes server_stands;
      kept = kept_without (seat_of (world_deployment d) 0 0) (m.nodes 0 0).bodies (m.nodes 0 0).heard ((m.nodes 0 0).heard ++ plan.heard) plan.changes stands.kept inside.lists;
      plain = plain_with_node m 0 0 (settled (world_deployment d) (m.nodes 0 0) plan) (plain_settled (world_deployment d) (not_written d) (m.nodes 0 0) plan (plain_at m stands.plain 0 0)) stands.plain;
      customers = stands.customers;
      sending = record { sent = was.sent; number = was.number; size = was.size; few = was.few; newest = was.newest; below = was.below; waiting = was.waiting; made = was.made };
      going = stands.going;
    }

-- ---- the delivery as a whole

-- the plan for bytes that are read as the message, handed out, is the delivery
pub serves_is : (w : World) (d : Deployment) (m : model.World Bytes) (wire : Bytes) (message : Message) (plan : Plan) → IsWorld w d m → reads (world_deployment d) wire ≡ Clean message
    → plan ≡ plan_by_message (seat_of (world_deployment d) 0 0) (pen_at (world_deployment d) 0 0) (questions (seat_of (world_deployment d) 0 0) (m.nodes 0 0).bodies (m.nodes 0 0).heard) message
    → stepped (hands_out (world_deployment d) 0 0 (after_plan d m plan) plan.outputs) (dones.Outcome plan.outcome) ≡ serves (world_deployment d) m 0 0 (Deliver wire)
serves_is w d m wire message plan stands read is =
    ap (λ (p : Plan). stepped (hands_out (world_deployment d) 0 0 (after_plan d m p) p.outputs) (dones.Outcome p.outcome)) (is ∙ planned_message d m wire message read)
    ∙ sym (serves_plan (world_deployment d) (not_written d) m 0 0 wire stands.plain (runs_code d stands.set.taken))

-- nothing is done where the bytes are ignored
pub serves_nothing : (w : World) (d : Deployment) (m : model.World Bytes) (wire : Bytes) (reason : Reason) → IsWorld w d m → reads (world_deployment d) wire ≡ Faulty reason
    → stepped (after_plan d m (ignored reason)) (dones.Outcome (Ignored reason)) ≡ serves (world_deployment d) m 0 0 (Deliver wire)
serves_nothing w d m wire reason stands read =
    ap (λ (p : Plan). stepped (hands_out (world_deployment d) 0 0 (after_plan d m p) p.outputs) (dones.Outcome p.outcome)) (sym (planned_nothing (world_deployment d) m 0 0 wire reason read))
    ∙ sym (serves_plan (world_deployment d) (not_written d) m 0 0 wire stands.plain (runs_code d stands.set.taken))

-- and the world in memory is that
pub ignoring : (w : World) (d : Deployment) (m : model.World Bytes) (reason : Reason) → IsWorld w d m → IsSettled w d m (ignored reason)
unfolding with_node
ignoring w d m reason stands =
    let heard : (m.nodes 0 0).heard ≡ (m.nodes 0 0).heard ++ [] = sym (append-nil (m.nodes 0 0).heard) in
    let was : IsSent w d m = stands.sending in
    record {
      set = stands.set;
      server = subst (Stands w.server (m.nodes 0 0).bodies) heard stands.server;
      kept = subst (ListsInRange (seat_of (world_deployment d) 0 0) (m.nodes 0 0).bodies) heard stands.kept;
      plain = plain_with_node m 0 0 (settled (world_deployment d) (m.nodes 0 0) (ignored reason)) (plain_settled (world_deployment d) (not_written d) (m.nodes 0 0) (ignored reason) (plain_at m stands.plain 0 0)) stands.plain;
      customers = stands.customers;
      sending = record { sent = was.sent; number = was.number; size = was.size; few = was.few; newest = was.newest; below = was.below; waiting = was.waiting; made = was.made };
      going = stands.going;
    }

-- ---- seals

-- the server's key has as many seals as the deployment says
pub capacity_is : (w : World) (d : Deployment) → IsSet w d → (pen_of w.sealer).capacity ≡ w.server.live.here.capacity
unfolding world_deployment
capacity_is w d set =
    ap (λ (p : seal.Pen). p.capacity) set.sealer ∙ (capacity_same d.seals ∙ sym (ap (λ (s : Seat). s.capacity) set.seat))
