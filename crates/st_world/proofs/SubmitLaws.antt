-- A client's update is sent.
use Rattle.std.proofs.Common.{◌≡◌, ◌∙◌, ap, sym, subst, ℕ, ◌+◌, ◌<◌, ◌≤◌, ◌^◌, nat_le, Bool, true, false, cond, Ok, Err, length, refl, arith}
use Rattle.std.proofs.lemmas.Bool.{le-leb, leb-true}
use Rattle.st_words.specs.declared.deployment.Deployment.{Deployment}
use Rattle.st_words.specs.declared.value.Update.{Update}
use Rattle.st_words.specs.declared.statement.Statement.{Statement}
use Rattle.st_words.specs.declared.statement.Statement.TheVariants.{ClientUpdate}
use Rattle.st_seal.specs.Pen.{Pen}
use Rattle.st_seal.specs.Scheme.{Scheme, scheme_of}
use Rattle.st_hss_seal.specs.Sealers.{scheme_in, pen_of}
use Rattle.st_hss_seal.specs.Sealing.{capacity_by, pen_in}
use Rattle.st_message.specs.declared.event.Scope.TheVariants as scopes
use Rattle.st_message.specs.declared.message.Message.TheVariants as messages
use Rattle.st_schedule.specs.declared.done.Done.TheVariants as dones
use Rattle.st_schedule.specs.declared.limits.TheConstants.{MOST_OPERATION}
use Rattle.st_words.specs.Ranges.{KeepsUpdate}
use Rattle.st_wire.specs.Ranges.{KeepsSeal}
use Rattle.st_wire.specs.Spelling.{message_spelling}
use Rattle.st_protocol.specs.Words.{Bytes, client_at}
use Rattle.st_protocol.specs.World as model
use Rattle.st_protocol.specs.World.{Customer, Stepped, stepped, capacity_of, with_customer, hands, sends_to, dests_of}
use Rattle.st_protocol.specs.Schedule.{submits}
use Rattle.st_client.specs.Customers.{asks_next}
use Rattle.st_sealing.specs.Sealing.{pen_by, sealed_bytes}
use Rattle.st_deployment.specs.Deployed.{statement_seal, world_deployment}
use Rattle.st_deployment.proofs.SetLaws.{capacity_same, capacity_few, choice_of}
use Rattle.st_deployment.proofs.SealLengths.{seals_keep}
use Rattle.st_sealers.specs.declared.sealers.ClientSealers.{ClientSealers}
use Rattle.st_sealers.specs.Keeping.{KeepsSealers}
use Rattle.st_world.specs.declared.world.World.{World}
use Rattle.st_world.specs.declared.error.StepError.{StepError}
use Rattle.st_world.specs.Standing.{IsSet, IsSent, IsWorld, IsStanding, StaysWorld, EndsBy, CameTo}
use Rattle.st_world.specs.Customers.{customer_in}
use Rattle.st_world.specs.Submitting.{next_update, update_message}

-- ---- the definitions, by how many seals are left

-- the world in which a client asks, and its seal is noted
abbrev pub asked_world : model.World Bytes → ℕ → ℕ → Bytes → model.World Bytes
asked_world m client used op = hands (with_customer m client (asks_next (m.customers client))) (client_at client) used (ClientUpdate (next_update client used op))

-- the update is sent
abbrev pub submit_sent : Deployment → model.World Bytes → ℕ → ℕ → Bytes → Stepped Bytes
submit_sent d m client used op =
    stepped (sends_to (world_deployment d) (asked_world m client used op) (message_spelling d.id (update_message d client used op)) (dests_of (world_deployment d) scopes.All)) (dones.Sent (length m.sent))

-- by the test
submits_by : (d : Deployment) (m : model.World Bytes) (client : ℕ) (op : Bytes) (used : ℕ) (spent : Bool) → used ≡ (m.customers client).time → nat_le (capacity_of d.seals) used ≡ spent
    → submits (world_deployment d) m client op ≡ cond spent (stepped m (dones.SealsSpent used)) (submit_sent d m client used op)
unfolding submits world_deployment
submits_by d m client op used spent is e =
    ap (λ k. cond (nat_le (capacity_of d.seals) k) (stepped m (dones.SealsSpent k)) (submit_sent d m client k op)) (sym is)
    ∙ ap (λ b. cond b (stepped m (dones.SealsSpent used)) (submit_sent d m client used op)) e

-- a isn't at most b
not_le : (a b : ℕ) → b < a → nat_le a b ≡ false
not_le a b below = by (nat_le a b) refl
  where
    by : (c : Bool) → nat_le a b ≡ c → nat_le a b ≡ false
    by true e = absurd (let most = leb-true a b e in omega (arith, below, most))
    by false e = e

-- ---- how many seals there are

-- the server's sealer says it
pub capacity_here : (w : World) (d : Deployment) → IsSet w d → (pen_of w.sealer).capacity ≡ capacity_of d.seals
capacity_here w d set = ap (λ (p : Pen). p.capacity) set.sealer ∙ capacity_same d.seals

-- and of the world's own deployment
pub capacity_own : (w : World) → IsStanding w → (pen_of w.sealer).capacity ≡ capacity_by w.deployment.seals
capacity_own w so =
    ap (λ (p : Pen). p.capacity) so.stands.set.sealer ∙ sym (ap (λ (x : Deployment). capacity_by x.seals) so.stands.set.deployment)

-- which are few
pub few_leaves : (w : World) (used : ℕ) → IsStanding w → used < capacity_by w.deployment.seals → used < 2 ^ 20
few_leaves w used so below =
    let same : capacity_by w.deployment.seals ≡ capacity_by so.deployment.seals = ap (λ (x : Deployment). capacity_by x.seals) so.stands.set.deployment in
    let few = capacity_few so.deployment.seals (choice_of so.deployment so.stands.set.taken) in
    let one = capacity_same so.deployment.seals in
    omega (arith, same, few, one, below)

-- two worlds in memory of one deployment have the same
pub deployment_same : (old new : World) (d : Deployment) → IsSet old d → IsSet new d → new.deployment ≡ old.deployment
deployment_same old new d was is = is.deployment ∙ sym was.deployment

-- ---- the client's seal

-- a client of the world is one of its seals' scheme
pub client_below : (w : World) (client : ℕ) → IsStanding w → client < w.deployment.clients → client < (scheme_in w.seals).clients
client_below w client so below =
    let set = so.stands.set in
    let same : w.deployment.clients ≡ (scheme_in w.seals).clients = ap (λ (x : Deployment). x.clients) set.deployment ∙ sym (ap (λ (s : Scheme). s.clients) set.seals) in
    omega (arith, same, below)

-- the sealers that are kept are the clients' in the scheme of the world's seals
pub sealers_here : (w : World) → IsStanding w → KeepsSealers (scheme_in w.seals) w.sealers
sealers_here w so = subst (λ (s : Scheme). KeepsSealers s w.sealers) (sym so.stands.set.seals) so.stands.set.sealers

-- others that are kept leave it the same world
pub sealers_stay : (w : World) (sealers : ClientSealers) → KeepsSealers (scheme_in w.seals) sealers → StaysWorld w (record w { sealers = sealers })
sealers_stay w sealers keeps = λ d m stands.
    let was : IsSent w d m = stands.sending in
    let set : IsSet w d = stands.set in
    record {
      set = record { taken = set.taken; deployment = set.deployment; seals = set.seals; sealer = set.sealer; sealers = subst (λ (s : Scheme). KeepsSealers s sealers) set.seals keeps; seat = set.seat };
      server = stands.server;
      kept = stands.kept;
      plain = stands.plain;
      customers = stands.customers;
      sending = record { sent = was.sent; number = was.number; size = was.size; few = was.few; newest = was.newest; below = was.below; waiting = was.waiting; made = was.made };
      going = stands.going;
    }

-- its leaves are the deployment's
pub client_leaves : (w : World) (client leaf : ℕ) (pen : Pen) → IsStanding w → pen ≡ pen_in (scheme_in w.seals) (client_at client) → leaf < capacity_by w.deployment.seals → leaf < pen.capacity
client_leaves w client leaf pen so is below =
    let set = so.stands.set in
    let same : pen.capacity ≡ capacity_by so.deployment.seals = ap (λ (p : Pen). p.capacity) is ∙ ap (λ (s : Scheme). (pen_in s (client_at client)).capacity) set.seals in
    let own : capacity_by w.deployment.seals ≡ capacity_by so.deployment.seals = ap (λ (x : Deployment). capacity_by x.seals) set.deployment in
    omega (arith, same, own, below)

-- the client's seal is the deployment's
pub seal_same : (w : World) (d : Deployment) (client leaf : ℕ) (s : Statement) (pen : Pen) → IsSet w d → pen ≡ pen_in (scheme_in w.seals) (client_at client)
    → pen_by pen w.deployment.id leaf s ≡ statement_seal d (client_at client) leaf s
seal_same w d client leaf s pen set is =
    (λ i. (is i).seal_of leaf (sealed_bytes (set.deployment i).id s)) ∙ (λ i. (pen_in (set.seals i) (client_at client)).seal_of leaf (sealed_bytes d.id s))

-- it is as long as it may be
pub seal_keeps : (w : World) (client leaf : ℕ) (s : Statement) (pen : Pen) (seal : Bytes) → IsStanding w → pen ≡ pen_in (scheme_in w.seals) (client_at client) → seal ≡ pen_by pen w.deployment.id leaf s → KeepsSeal seal
seal_keeps w client leaf s pen seal so is sealed =
    subst KeepsSeal (sym (sealed ∙ seal_same w so.deployment client leaf s pen so.stands.set is))
    (seals_keep so.deployment.seals (scheme_of so.deployment) (client_at client) leaf (sealed_bytes so.deployment.id s) (choice_of so.deployment so.stands.set.taken))

-- ---- the update

-- it keeps its ranges
pub update_keeps : (client used : ℕ) (op : Bytes) (update : Update) → update ≡ next_update client used op → length op ≤ MOST_OPERATION → KeepsUpdate update
update_keeps client used op update is few = subst KeepsUpdate (sym is) (let time : 1 ≤ used + 1 = omega arith in (time, few))

-- its bytes are those of the update with the deployment's seal
pub bytes_same : (w : World) (d : Deployment) (client leaf : ℕ) (update : Update) (seal bytes : Bytes) → IsSet w d → seal ≡ statement_seal d (client_at client) leaf (ClientUpdate update)
    → bytes ≡ message_spelling w.deployment.id (messages.Update update seal) → bytes ≡ message_spelling d.id (messages.Update update (statement_seal d (client_at client) leaf (ClientUpdate update)))
bytes_same w d client leaf update seal bytes set sealed spelled = spelled ∙ (λ i. message_spelling (set.deployment i).id (messages.Update update (sealed i)))

-- the client's next
pub bytes_next : (d : Deployment) (client used : ℕ) (op : Bytes) (update : Update) (bytes : Bytes) → update ≡ next_update client used op
    → bytes ≡ message_spelling d.id (messages.Update update (statement_seal d (client_at client) used (ClientUpdate update))) → bytes ≡ message_spelling d.id (update_message d client used op)
bytes_next d client used op update bytes is spelled = spelled ∙ ap (λ (u : Update). message_spelling d.id (messages.Update u (statement_seal d (client_at client) used (ClientUpdate u)))) is

-- the client of the world asks next
pub asks_stands : (w asked : World) (d : Deployment) (m : model.World Bytes) (client : ℕ) (before after : Customer) → IsWorld w d m → before ≡ customer_in w.customers client → after ≡ asks_next before
    → ((n : model.World Bytes) → IsWorld w d n → IsWorld asked d (with_customer n client after)) → IsWorld asked d (with_customer m client (asks_next (m.customers client)))
asks_stands w asked d m client before after stands was next put =
    subst (λ (k : Customer). IsWorld asked d (with_customer m client k)) (next ∙ ap asks_next (was ∙ stands.customers client)) (put m stands)

-- ---- what the line comes to

-- no seal is left
pub submit_spent : (w : World) (d : Deployment) (m : model.World Bytes) (client : ℕ) (op : Bytes) (used capacity : ℕ) → IsWorld w d m → used ≡ (m.customers client).time → capacity ≡ (pen_of w.sealer).capacity → capacity ≤ used
    → CameTo (Ok (dones.SealsSpent used)) w d (submits (world_deployment d) m client op)
submit_spent w d m client op used capacity stands is count spent =
    let many : capacity_of d.seals ≤ used = let same = count ∙ capacity_here w d stands.set in omega (arith, same, spent) in
    subst (CameTo (Ok (dones.SealsSpent used)) w d) (sym (submits_by d m client op used true is (le-leb (capacity_of d.seals) used many))) (stands, refl)

-- the update is sent
module _ (w asked noted : World) (d : Deployment) (m : model.World Bytes) (client : ℕ) (op : Bytes) (used capacity : ℕ) (bytes : Bytes) (stands : IsWorld w d m) (is : used ≡ (m.customers client).time)
    (count : capacity ≡ (pen_of w.sealer).capacity) (left : used < capacity) (asks : IsWorld asked d (with_customer m client (asks_next (m.customers client))))
    (notes : (n : model.World Bytes) → IsWorld asked d n → IsWorld noted d (hands n (client_at client) used (ClientUpdate (next_update client used op))))
    (spelled : bytes ≡ message_spelling d.id (update_message d client used op)) where
  -- the definitions
  submits_is : submits (world_deployment d) m client op ≡ submit_sent d m client used op
  submits_is = submits_by d m client op used false is (not_le (capacity_of d.seals) used (let same = count ∙ capacity_here w d stands.set in omega (arith, same, left)))

  -- the world before it is sent
  pub asked_stands : IsWorld noted d (asked_world m client used op)
  asked_stands = notes (with_customer m client (asks_next (m.customers client))) asks

  -- what is sent
  abbrev sent_of : Bytes → model.World Bytes
  sent_of x = sends_to (world_deployment d) (asked_world m client used op) x (dests_of (world_deployment d) scopes.All)

  pub submit_came : (new : World) (number : ℕ) → IsWorld new d (sent_of bytes) → number ≡ length noted.sent → CameTo (Ok (dones.Sent number)) new d (submits (world_deployment d) m client op)
  unfolding hands with_customer
  submit_came new number sent number_is =
      subst (CameTo (Ok (dones.Sent number)) new d) (sym submits_is)
      (subst (λ (x : Bytes). IsWorld new d (sent_of x)) spelled sent, ap dones.Sent (number_is ∙ ap length asked_stands.sending.sent))

  pub submit_ended : (new : World) (e : StepError) → EndsBy e (sent_of bytes).ended → CameTo (Err e) new d (submits (world_deployment d) m client op)
  submit_ended new e ended = subst (CameTo (Err e) new d) (sym submits_is) (subst (λ (x : Bytes). EndsBy e (sent_of x).ended) spelled ended)
