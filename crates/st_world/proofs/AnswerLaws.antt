-- What a world in memory answers is what the world for which it stands has.
use Rattle.std.proofs.Common.{◌≡◌, ◌∙◌, ap, sym, subst, ℕ, ◌+◌, ◌*◌, ◌<◌, ◌^◌, ◌&&◌, not, nat_eq, nat_lt, Bool, true, false, cond, Option, Some, None, List, length, slice_get, refl, arith}
use Rattle.std.proofs.lemmas.Bool.{and_parts, eqb-true}
use denote.Ref.{Bor}
use Rattle.st_words.specs.declared.deployment.Deployment.{Deployment}
use Rattle.st_words.specs.declared.ids.Number.{Number}
use Rattle.st_words.specs.declared.ids.ServerId.{ServerId}
use Rattle.st_message.specs.declared.change.Change.{Change}
use Rattle.st_message.specs.declared.change.Heard.{Heard}
use Rattle.st_message.specs.declared.log.Entry.{Entry}
use Rattle.st_protocol.specs.State.{Seat}
use Rattle.st_protocol.specs.Words.{Bytes, a_server}
use Rattle.st_protocol.specs.Questions.{questions}
use Rattle.st_protocol.specs.Report.{answers_at, result_of}
use Rattle.st_protocol.specs.World as model
use Rattle.st_protocol.specs.World.{Customer, is_correct, is_server}
use Rattle.st_flows.proofs.PlainKept.{plain_at}
use Rattle.st_server.specs.Serving.{Stands, seat_by}
use Rattle.st_config.specs.Taken.{IsTaken}
use Rattle.st_deployment.specs.Deployed.{world_deployment}
use Rattle.st_deployment.proofs.SetLaws.{runs_code, others_faulty}
use Rattle.st_world.specs.declared.world.World.{World}
use Rattle.st_world.specs.declared.world.ServerState.TheVariants as states
use Rattle.st_world.specs.Answers.{state_of, entries_of, IsServer, IsServerHere, result_seen, client_seen, client_in}
use Rattle.st_world.specs.Customers.{customer_in}
use Rattle.st_world.specs.Standing.{IsWorld, IsStanding}

-- ---- the one server

-- the deployment has it
is_there : (d : Deployment) → IsTaken d → is_server (world_deployment d) 0 0 ≡ true
unfolding world_deployment
is_there d taken = λ i. nat_lt 0 (taken.sites i) && nat_lt 0 (3 * taken.f i + 1)

-- and it is correct
correct_here : (d : Deployment) → IsTaken d → is_correct (world_deployment d) 0 0 ≡ true
correct_here d taken = λ i. is_there d taken i && not (runs_code d taken i)

and_false : (b : Bool) → (b && false) ≡ false
and_false true = refl
and_false false = refl

-- no other is
correct_nowhere : (d : Deployment) (site index : ℕ) → IsTaken d → (nat_eq site 0 && nat_eq index 0) ≡ false → is_correct (world_deployment d) site index ≡ false
correct_nowhere d site index taken is =
    ap (λ f. is_server (world_deployment d) site index && not f) (others_faulty d site index taken is) ∙ and_false (is_server (world_deployment d) site index)

-- who is served
server_is : (who : ServerId) → (nat_eq who.site 0 && nat_eq who.index 0) ≡ true → a_server 0 0 ≡ who
server_is who is =
    let parts = and_parts (nat_eq who.site 0) (nat_eq who.index 0) is in
    λ i. record { site = sym (eqb-true who.site 0 parts.0) i; index = sym (eqb-true who.index 0 parts.1) i }

pub server_nowhere : (d : Deployment) (m : model.World Bytes) (who : ServerId) → IsTaken d → (nat_eq who.site 0 && nat_eq who.index 0) ≡ false → IsServer d m who None
server_nowhere d m who taken is = correct_nowhere d who.site who.index taken is

-- The server in memory is that of the world.
pub server_is_here : (w : World) (d : Deployment) (m : model.World Bytes) → IsWorld w d m → IsServerHere d m (a_server 0 0) w.server
server_is_here w d m stands = record { seat = stands.set.seat; stands = stands.server }

pub server_here : (w : World) (d : Deployment) (m : model.World Bytes) (who : ServerId) → IsWorld w d m → (nat_eq who.site 0 && nat_eq who.index 0) ≡ true → IsServer d m who (Some (states.Running, w.server))
server_here w d m who stands is =
    subst (λ (k : ServerId). IsServer d m k (Some (states.Running, w.server))) (server_is who is)
    (correct_here d stands.set.taken, ap state_of (sym (plain_at m stands.plain 0 0).running), server_is_here w d m stands)

pub executed_nowhere : (d : Deployment) (m : model.World Bytes) (who : ServerId) → IsTaken d → (nat_eq who.site 0 && nat_eq who.index 0) ≡ false → None ≡ entries_of (world_deployment d) m who
executed_nowhere d m who taken is =
    sym (ap (λ (b : Bool). cond b (Some (answers_at (world_deployment d) m who.site who.index).log.run.entries) None) (correct_nowhere d who.site who.index taken is))

pub executed_here : (w : World) (d : Deployment) (m : model.World Bytes) (who : ServerId) (log : List Entry) → IsWorld w d m → (nat_eq who.site 0 && nat_eq who.index 0) ≡ true
    → ((records : List (List Change)) (heard : List Heard) → Stands w.server records heard → log ≡ (questions (seat_by w.server) records heard).log.run.entries)
    → Some log ≡ entries_of (world_deployment d) m who
executed_here w d m who log stands is logged =
    subst (λ (k : ServerId). Some log ≡ entries_of (world_deployment d) m k) (server_is who is)
    (ap (λ (es : List Entry). Some es)
    (logged (m.nodes 0 0).bodies (m.nodes 0 0).heard stands.server
    ∙ ap (λ (seat : Seat). (questions seat (m.nodes 0 0).bodies (m.nodes 0 0).heard).log.run.entries) stands.set.seat)
    ∙ sym (ap (λ (b : Bool). cond b (Some (answers_at (world_deployment d) m 0 0).log.run.entries) None) (correct_here d stands.set.taken)))

-- ---- clients

pub client_nowhere : (w : World) (d : Deployment) (m : model.World Bytes) (c : ℕ) → IsWorld w d m → nat_lt c w.deployment.clients ≡ false → None ≡ client_in (world_deployment d) m c
unfolding world_deployment
client_nowhere w d m c stands none =
    sym (ap (λ (b : Bool). cond b (Some ((m.customers c).time, result_of (m.customers c).result)) None) (sym (λ i. nat_lt c (stands.set.deployment i).clients) ∙ none))

pub client_here : (w : World) (d : Deployment) (m : model.World Bytes) (c time : ℕ) (result : Option (Number × Bor Bytes)) (k : Customer) → IsWorld w d m → nat_lt c w.deployment.clients ≡ true
    → k ≡ customer_in w.customers c → time ≡ k.time → result_seen result ≡ result_of k.result → client_seen (Some (time, result)) ≡ client_in (world_deployment d) m c
unfolding world_deployment
client_here w d m c time result k stands some is is_time is_result =
    let same : k ≡ m.customers c = is ∙ stands.customers c in
    (λ i. Some (is_time i, is_result i))
    ∙ (ap (λ (x : Customer). Some (x.time, result_of x.result)) same
    ∙ sym (ap (λ (b : Bool). cond b (Some ((m.customers c).time, result_of (m.customers c).result)) None) (sym (λ i. nat_lt c (stands.set.deployment i).clients) ∙ some)))

-- ---- messages

pub sent_here : (w : World) (d : Deployment) (m : model.World Bytes) (k : ℕ) (bytes : Option Bytes) → IsWorld w d m → bytes ≡ slice_get w.sent k → bytes ≡ slice_get m.sent k
sent_here w d m k bytes stands is = is ∙ ap (λ (sent : List Bytes). slice_get sent k) stands.sending.sent

-- there are few enough for a number of 32 bits
pub few_sent : (w : World) → IsStanding w → length w.sent < 2 ^ 32
few_sent w so =
    let most = so.stands.sending.number in
    let same : length w.sent ≡ length so.model.sent = ap (λ (ms : List Bytes). length ms) so.stands.sending.sent in
    omega (arith, most, same)
