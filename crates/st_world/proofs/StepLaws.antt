-- A line does what the world's step does.
use Rattle.std.proofs.Common.{◌≡◌, ◌∙◌, ap, sym, subst, ℕ, ◌+◌, ◌-◌, ◌*◌, ◌<◌, ◌≤◌, ◌&&◌, ◌||◌, nat_lt, Bool, true, false, cond, zero, suc, Option, Some, None, Result, Ok, Err, List, [], ◌∷◌, length, slice_get, refl, arith}
use Rattle.std.specs.Option.{option_map}
use Rattle.std.proofs.lemmas.Bool.{lt-ltb, ltb-true, and_from}
use Rattle.st_words.specs.declared.deployment.Deployment.{Deployment}
use Rattle.st_words.specs.declared.ids.ClientId.{ClientId}
use Rattle.st_words.specs.declared.ids.ServerId.{ServerId}
use Rattle.st_schedule.specs.declared.done.Done.{Done}
use Rattle.st_schedule.specs.declared.done.Done.TheVariants as dones
use Rattle.st_schedule.specs.declared.line.Dest.{Dest}
use Rattle.st_schedule.specs.declared.line.Dest.TheVariants as dests
use Rattle.st_schedule.specs.declared.line.Line.{Line}
use Rattle.st_schedule.specs.declared.line.Line.TheVariants as lines
use Rattle.st_protocol.specs.Words.{Bytes}
use Rattle.st_protocol.specs.Keeping.{given, or_else}
use Rattle.st_protocol.specs.World as model
use Rattle.st_protocol.specs.World.{Fault, Stepped, stepped, ends, same_dest, with_waiting, delivers}
use Rattle.st_protocol.specs.Schedule.{is_pair, has_pair, without, drops, submits, flows, flowed, forged_by, is_dest, is_reference, goes, step}
use Rattle.st_waiting.specs.declared.waiting.Waiting.{Waiting}
use Rattle.st_waiting.specs.Undelivered.{pairs_in, newest_in}
use Rattle.st_deployment.specs.Deployed.{world_deployment}
use Rattle.st_world.specs.declared.world.World.{World}
use Rattle.st_world.specs.declared.error.StepError.{StepError}
use Rattle.st_world.specs.declared.error.StepError.TheVariants as steps
use Rattle.st_world.specs.Standing.{AreSent, IsWorld, IsStanding, CameTo}
use Rattle.st_world.specs.Flows.{begun}
use Rattle.st_world.proofs.FlowLaws.{waits_on}

-- ---- references

-- what the line names isn't there
pub no_reference : (w new : World) (d : Deployment) (m : model.World Bytes) (line : Line) → IsWorld w d m → is_reference (world_deployment d) m line ≡ false
    → CameTo (Err steps.BadReference) new d (step (world_deployment d) m line)
unfolding step ends
no_reference w new d m line stands is =
    ap (λ b. (cond b (goes (world_deployment d) m line) (stepped (ends m (Some model.BadReference)) (dones.Dropped 0))).world.ended) is
    ∙ ap (λ (was : Option Fault). or_else was (Some model.BadReference)) stands.going

-- it is there
pub reference : (result : Result Done StepError) (new : World) (d : Deployment) (m : model.World Bytes) (line : Line) → is_reference (world_deployment d) m line ≡ true
    → CameTo result new d (goes (world_deployment d) m line) → CameTo result new d (step (world_deployment d) m line)
unfolding step
reference result new d m line is came =
    subst (CameTo result new d) (sym (ap (λ b. cond b (goes (world_deployment d) m line) (stepped (ends m (Some model.BadReference)) (dones.Dropped 0))) is)) came

-- ---- clients

-- the test of a client
client_test : (d : Deployment) (m : model.World Bytes) (client : ClientId) (op : Bytes) → is_reference (world_deployment d) m (lines.Client client op) ≡ nat_lt client.0 d.clients
unfolding world_deployment
client_test d m client op = refl

-- b isn't below a
pub not_less : (a b : ℕ) → b ≤ a → nat_lt a b ≡ false
not_less a b most = by (nat_lt a b) refl
  where
    by : (c : Bool) → nat_lt a b ≡ c → nat_lt a b ≡ false
    by true e = absurd (let less = ltb-true a b e in omega (arith, most, less))
    by false e = e

-- a client that is there asks
pub client_asks : (result : Result Done StepError) (w new : World) (d : Deployment) (m : model.World Bytes) (client : ClientId) (op : Bytes) → IsWorld w d m → client.0 < w.deployment.clients
    → CameTo result new d (submits (world_deployment d) m client.0 op) → CameTo result new d (step (world_deployment d) m (lines.Client client op))
client_asks result w new d m client op stands below came =
    reference result new d m (lines.Client client op)
    (client_test d m client op ∙ lt-ltb client.0 d.clients (subst (λ (x : Deployment). client.0 < x.clients) stands.set.deployment below)) came

-- one that isn't there ends the world
pub client_missing : (w new : World) (d : Deployment) (m : model.World Bytes) (client : ClientId) (op : Bytes) → IsWorld w d m → w.deployment.clients ≤ client.0
    → CameTo (Err steps.BadReference) new d (step (world_deployment d) m (lines.Client client op))
client_missing w new d m client op stands beyond =
    no_reference w new d m (lines.Client client op) stands
    (client_test d m client op ∙ not_less client.0 d.clients (subst (λ (x : Deployment). x.clients ≤ client.0) stands.set.deployment beyond))

-- ---- flows

pub flow_step : (result : Result Done StepError) (new : World) (d : Deployment) (m : model.World Bytes) (pairs : ℕ) → CameTo result new d (flowed (world_deployment d) (flows (world_deployment d) pairs (begun m)))
    → CameTo result new d (step (world_deployment d) m (lines.Flow pairs))
flow_step result new d m pairs came = reference result new d m (lines.Flow pairs) refl came

-- ---- deliveries

-- pairs that are left were there
below_without : (count : ℕ) (test : model.Pair → Bool) (pairs : List model.Pair) → AreSent count pairs → AreSent count (without test pairs)
unfolding without
below_without count test [] below = tt
below_without count test (p ∷ ps) below = by (test p) (below_without count test ps below.1)
  where
    by : (b : Bool) → AreSent count (without test ps) → AreSent count (cond b (without test ps) (p ∷ without test ps))
    by true rest = rest
    by false rest = (below.0, rest)

-- the world without the pairs that pass a test
pub without_stands : (w : World) (waiting : Waiting) (d : Deployment) (m : model.World Bytes) (test : model.Pair → Bool) → IsWorld w d m → pairs_in waiting ≡ without test (pairs_in w.waiting) → newest_in waiting ≡ newest_in w.waiting
    → IsWorld (record w { waiting = waiting }) d (with_waiting m (without test m.waiting))
without_stands w waiting d m test stands is newest =
    waits_on w waiting d m (without test m.waiting) stands (is ∙ ap (without test) stands.sending.waiting) newest (below_without (length m.sent) test m.waiting stands.sending.below)

-- a message of a number that is below
there : (sent : List Bytes) (k : ℕ) → k < length sent → (wire : Bytes) × (slice_get sent k ≡ Some wire)
there [] k below = absurd (omega (arith, below))
there (x ∷ xs) zero below = (x, refl)
there (x ∷ xs) (suc k) below = there xs k (omega (arith, below))

-- a message that is there is delivered
pub deliver_step : (result : Result Done StepError) (w new : World) (waiting : Waiting) (d : Deployment) (m : model.World Bytes) (k : ℕ) (to : Dest) → IsWorld w d m → k < length w.sent → is_dest (world_deployment d) to ≡ true
    → pairs_in waiting ≡ without (is_pair k to) (pairs_in w.waiting) → newest_in waiting ≡ newest_in w.waiting
    → ((n : model.World Bytes) (wire : Bytes) → IsWorld (record w { waiting = waiting }) d n → slice_get n.sent k ≡ Some wire → CameTo result new d (delivers (world_deployment d) n to wire))
    → CameTo result new d (step (world_deployment d) m (lines.Deliver k to))
unfolding with_waiting
deliver_step result w new waiting d m k to stands below dest is newest delivered =
    let sent : k < length m.sent = subst (λ (s : List Bytes). k < length s) stands.sending.sent below in
    let found = there m.sent k sent in
    let rest : model.World Bytes = with_waiting m (without (is_pair k to) m.waiting) in
    reference result new d m (lines.Deliver k to) (and_from (nat_lt k (length m.sent)) (is_dest (world_deployment d) to) (lt-ltb k (length m.sent) sent) dest)
    (subst (λ (o : Option Bytes). CameTo result new d (given o (stepped m (dones.Dropped 0)) (λ wire. delivers (world_deployment d) rest to wire))) (sym found.1)
    (delivered rest found.0 (without_stands w waiting d m (is_pair k to) stands is newest) found.1))

-- a message or a destination isn't there
pub deliver_missing : (w new : World) (d : Deployment) (m : model.World Bytes) (k : ℕ) (to : Dest) (dest : Bool) → IsWorld w d m → dest ≡ is_dest (world_deployment d) to → (nat_lt k (length w.sent) && dest) ≡ false
    → CameTo (Err steps.BadReference) new d (step (world_deployment d) m (lines.Deliver k to))
deliver_missing w new d m k to dest stands is none =
    no_reference w new d m (lines.Deliver k to) stands ((λ i. nat_lt k (length (sym stands.sending.sent i)) && sym is i) ∙ none)

-- a message isn't there
pub deliver_no_message : (w new : World) (d : Deployment) (m : model.World Bytes) (k : ℕ) (to : Dest) → IsWorld w d m → length w.sent ≤ k → CameTo (Err steps.BadReference) new d (step (world_deployment d) m (lines.Deliver k to))
deliver_no_message w new d m k to stands beyond =
    deliver_missing w new d m k to (is_dest (world_deployment d) to) stands refl (ap (λ b. b && is_dest (world_deployment d) to) (not_less k (length w.sent) beyond))

-- no test and one that fails
and_false : (b : Bool) → (b && false) ≡ false
and_false true = refl
and_false false = refl

-- a destination isn't there
pub deliver_no_dest : (w new : World) (d : Deployment) (m : model.World Bytes) (k : ℕ) (to : Dest) → IsWorld w d m → is_dest (world_deployment d) to ≡ false → CameTo (Err steps.BadReference) new d (step (world_deployment d) m (lines.Deliver k to))
deliver_no_dest w new d m k to stands none =
    deliver_missing w new d m k to (is_dest (world_deployment d) to) stands refl (ap (λ b. nat_lt k (length w.sent) && b) none ∙ and_false (nat_lt k (length w.sent)))

-- ---- losses

-- pairs of which none passes are all left
all_left : (test : model.Pair → Bool) (pairs : List model.Pair) → has_pair test pairs ≡ false → without test pairs ≡ pairs
unfolding has_pair without
all_left test [] none = refl
all_left test (p ∷ ps) none = by (test p) none (λ e. all_left test ps e)
  where
    by : (b : Bool) → (b || has_pair test ps) ≡ false → (has_pair test ps ≡ false → without test ps ≡ ps) → cond b (without test ps) (p ∷ without test ps) ≡ p ∷ ps
    by true e rest = absurd (let fails : true ≡ false = e in cc)
    by false e rest = ap (λ (xs : List model.Pair). p ∷ xs) (rest e)

-- no more are left than there were
few_left : (test : model.Pair → Bool) (pairs : List model.Pair) → length (without test pairs) ≤ length pairs
unfolding without
few_left test [] = omega arith
few_left test (p ∷ ps) = by (test p) (few_left test ps)
  where
    by : (b : Bool) → length (without test ps) ≤ length ps → length (cond b (without test ps) (p ∷ without test ps)) ≤ suc (length ps)
    by true rest = omega (arith, rest)
    by false rest = omega (arith, rest)

-- where one passes fewer are left
fewer_left : (test : model.Pair → Bool) (pairs : List model.Pair) → has_pair test pairs ≡ true → length (without test pairs) < length pairs
unfolding has_pair without
fewer_left test [] some = absurd (let fails : false ≡ true = some in cc)
fewer_left test (p ∷ ps) some = by (test p) some (few_left test ps) (λ e. fewer_left test ps e)
  where
    by : (b : Bool) → (b || has_pair test ps) ≡ true → length (without test ps) ≤ length ps → (has_pair test ps ≡ true → length (without test ps) < length ps) → length (cond b (without test ps) (p ∷ without test ps)) < suc (length ps)
    by true e all rest = omega (arith, all)
    by false e all rest = let fewer = rest e in omega (arith, fewer)

-- how many are gone
pub gone_is : (before after : List model.Pair) (gone : ℕ) (test : model.Pair → Bool) → after ≡ without test before → gone + length after ≡ length before → gone ≡ length before - length (without test before)
gone_is before after gone test is count = let same : length after ≡ length (without test before) = ap length is in omega (arith, same, count)

-- the world without these pairs stands
pub rest_stands : (w : World) (waiting : Waiting) (test : model.Pair → Bool) → IsStanding w → pairs_in waiting ≡ without test (pairs_in w.waiting) → newest_in waiting ≡ newest_in w.waiting → IsStanding (record w { waiting = waiting })
rest_stands w waiting test so is newest =
    record { deployment = so.deployment; model = with_waiting so.model (without test so.model.waiting); stands = without_stands w waiting so.deployment so.model test so.stands is newest }

-- what a loss comes to
lost : (w : World) (waiting : Waiting) (d : Deployment) (m : model.World Bytes) (test : model.Pair → Bool) (gone : ℕ) → IsWorld w d m → pairs_in waiting ≡ without test (pairs_in w.waiting) → newest_in waiting ≡ newest_in w.waiting
    → gone ≡ length (pairs_in w.waiting) - length (without test (pairs_in w.waiting)) → CameTo (Ok (dones.Dropped gone)) (record w { waiting = waiting }) d (drops (world_deployment d) m test)
unfolding drops
lost w waiting d m test gone stands is newest count = (
  without_stands w waiting d m test stands is newest,
  ap dones.Dropped (count ∙ ap (λ (pairs : List model.Pair). length pairs - length (without test pairs)) stands.sending.waiting),
)

-- a pair that waits is dropped
pub drop_step : (w : World) (waiting : Waiting) (d : Deployment) (m : model.World Bytes) (k : ℕ) (to : Dest) (gone : ℕ) → IsWorld w d m → pairs_in waiting ≡ without (is_pair k to) (pairs_in w.waiting) → newest_in waiting ≡ newest_in w.waiting
    → gone ≡ length (pairs_in w.waiting) - length (without (is_pair k to) (pairs_in w.waiting)) → 1 ≤ gone
    → CameTo (Ok (dones.Dropped gone)) (record w { waiting = waiting }) d (step (world_deployment d) m (lines.Drop k to))
drop_step w waiting d m k to gone stands is newest count some =
    reference (Ok (dones.Dropped gone)) (record w { waiting = waiting }) d m (lines.Drop k to)
    (subst (λ (pairs : List model.Pair). has_pair (is_pair k to) pairs ≡ true) stands.sending.waiting (by (has_pair (is_pair k to) (pairs_in w.waiting)) refl))
    (lost w waiting d m (is_pair k to) gone stands is newest count)
  where
    by : (b : Bool) → has_pair (is_pair k to) (pairs_in w.waiting) ≡ b → has_pair (is_pair k to) (pairs_in w.waiting) ≡ true
    by true e = e
    by false e = absurd (let all = ap length (all_left (is_pair k to) (pairs_in w.waiting) e) in omega (arith, count, all, some))

-- one that doesn't isn't
pub drop_missing : (w new : World) (d : Deployment) (m : model.World Bytes) (k : ℕ) (to : Dest) (gone : ℕ) → IsWorld w d m → gone ≡ length (pairs_in w.waiting) - length (without (is_pair k to) (pairs_in w.waiting)) → gone ≡ 0
    → CameTo (Err steps.BadReference) new d (step (world_deployment d) m (lines.Drop k to))
drop_missing w new d m k to gone stands count none =
    no_reference w new d m (lines.Drop k to) stands
    (subst (λ (pairs : List model.Pair). has_pair (is_pair k to) pairs ≡ false) stands.sending.waiting (by (has_pair (is_pair k to) (pairs_in w.waiting)) refl))
  where
    by : (b : Bool) → has_pair (is_pair k to) (pairs_in w.waiting) ≡ b → has_pair (is_pair k to) (pairs_in w.waiting) ≡ false
    by true e = absurd (let less = fewer_left (is_pair k to) (pairs_in w.waiting) e in omega (arith, count, less, none))
    by false e = e

-- all that waits for a destination is lost
pub lose_step : (w : World) (waiting : Waiting) (d : Deployment) (m : model.World Bytes) (to : Dest) (gone : ℕ) → IsWorld w d m → is_dest (world_deployment d) to ≡ true → pairs_in waiting ≡ without (λ p. same_dest p.to to) (pairs_in w.waiting)
    → newest_in waiting ≡ newest_in w.waiting → gone ≡ length (pairs_in w.waiting) - length (without (λ p. same_dest p.to to) (pairs_in w.waiting))
    → CameTo (Ok (dones.Dropped gone)) (record w { waiting = waiting }) d (step (world_deployment d) m (lines.Lose to))
lose_step w waiting d m to gone stands dest is newest count =
    reference (Ok (dones.Dropped gone)) (record w { waiting = waiting }) d m (lines.Lose to) dest (lost w waiting d m (λ p. same_dest p.to to) gone stands is newest count)

pub lose_missing : (w new : World) (d : Deployment) (m : model.World Bytes) (to : Dest) → IsWorld w d m → is_dest (world_deployment d) to ≡ false → CameTo (Err steps.BadReference) new d (step (world_deployment d) m (lines.Lose to))
lose_missing w new d m to stands none = no_reference w new d m (lines.Lose to) stands none

-- ---- bytes from outside

pub raw_missing : (w new : World) (d : Deployment) (m : model.World Bytes) (to : Dest) (bytes : Bytes) → IsWorld w d m → is_dest (world_deployment d) to ≡ false → CameTo (Err steps.BadReference) new d (step (world_deployment d) m (lines.Raw to bytes))
raw_missing w new d m to bytes stands none = no_reference w new d m (lines.Raw to bytes) stands none

-- what was found is forged
pub forged_some : (found : Option ℕ) (place : ℕ) (fault : Option Fault) → found ≡ Some place → option_map model.Forged found ≡ fault → Some (model.Forged place) ≡ fault
forged_some found place fault is same = ap (option_map model.Forged) (sym is) ∙ same

pub forged_none : (found : Option ℕ) (fault : Option Fault) → found ≡ None → option_map model.Forged found ≡ fault → None ≡ fault
forged_none found fault is same = ap (option_map model.Forged) (sym is) ∙ same

-- by what is forged
raw_by : (result : Result Done StepError) (new : World) (d : Deployment) (m : model.World Bytes) (to : Dest) (bytes : Bytes) (forged : Option Fault) → is_dest (world_deployment d) to ≡ true
    → forged ≡ forged_by (world_deployment d) m ((world_deployment d).formats.read bytes)
    → CameTo result new d (given forged (delivers (world_deployment d) m to bytes) (λ fault. stepped (ends m (Some fault)) (dones.Dropped 0))) → CameTo result new d (step (world_deployment d) m (lines.Raw to bytes))
unfolding world_deployment
raw_by result new d m to bytes forged dest is came =
    reference result new d m (lines.Raw to bytes) dest
    (subst (λ (o : Option Fault). CameTo result new d (given o (delivers (world_deployment d) m to bytes) (λ fault. stepped (ends m (Some fault)) (dones.Dropped 0)))) is came)

pub raw_forged : (w new : World) (d : Deployment) (m : model.World Bytes) (to : Dest) (bytes slice : Bytes) (place : ℕ) → slice ≡ bytes → IsWorld w d m → is_dest (world_deployment d) to ≡ true
    → Some (model.Forged place) ≡ forged_by (world_deployment d) m ((world_deployment d).formats.read slice) → CameTo (Err (steps.Forged place)) new d (step (world_deployment d) m (lines.Raw to bytes))
unfolding ends
raw_forged w new d m to bytes slice place same stands dest is =
    raw_by (Err (steps.Forged place)) new d m to bytes (Some (model.Forged place)) dest (is ∙ ap (λ (x : Bytes). forged_by (world_deployment d) m ((world_deployment d).formats.read x)) same)
    (ap (λ (was : Option Fault). or_else was (Some (model.Forged place))) stands.going)

pub raw_delivered : (result : Result Done StepError) (new : World) (d : Deployment) (m : model.World Bytes) (to : Dest) (bytes slice : Bytes) → slice ≡ bytes → is_dest (world_deployment d) to ≡ true
    → None ≡ forged_by (world_deployment d) m ((world_deployment d).formats.read slice) → CameTo result new d (delivers (world_deployment d) m to slice) → CameTo result new d (step (world_deployment d) m (lines.Raw to bytes))
raw_delivered result new d m to bytes slice same dest is came =
    raw_by result new d m to bytes None dest (is ∙ ap (λ (x : Bytes). forged_by (world_deployment d) m ((world_deployment d).formats.read x)) same)
    (subst (λ (x : Bytes). CameTo result new d (delivers (world_deployment d) m to x)) same came)

-- ---- what is shown

-- a message has a number below their count
below_of : (sent : List Bytes) (k : ℕ) (bytes : Bytes) → slice_get sent k ≡ Some bytes → k < length sent
below_of [] k bytes e = absurd (let fails : None ≡ Some bytes = e in cc)
below_of (x ∷ xs) zero bytes e = omega arith
below_of (x ∷ xs) (suc k) bytes e = let rest = below_of xs k bytes e in omega (arith, rest)

-- one that isn't there has not
beyond_of : (sent : List Bytes) (k : ℕ) → slice_get sent k ≡ None → length sent ≤ k
beyond_of [] k e = omega arith
beyond_of (x ∷ xs) zero e = absurd (let fails : Some x ≡ None = e in cc)
beyond_of (x ∷ xs) (suc k) e = let rest = beyond_of xs k e in omega (arith, rest)

pub show_step : (w : World) (d : Deployment) (m : model.World Bytes) (k : ℕ) (bytes : Bytes) → IsWorld w d m → slice_get w.sent k ≡ Some bytes → CameTo (Ok (dones.Shown bytes)) w d (step (world_deployment d) m (lines.Show k))
unfolding world_deployment
show_step w d m k bytes stands found =
    let sent : slice_get m.sent k ≡ Some bytes = subst (λ (s : List Bytes). slice_get s k ≡ Some bytes) stands.sending.sent found in
    reference (Ok (dones.Shown bytes)) w d m (lines.Show k) (lt-ltb k (length m.sent) (below_of m.sent k bytes sent))
    (subst (λ (o : Option Bytes). CameTo (Ok (dones.Shown bytes)) w d (given o (stepped m (dones.Dropped 0)) (λ wire. stepped m (dones.Shown ((world_deployment d).formats.bytes wire))))) (sym sent) (stands, refl))

pub show_missing : (w new : World) (d : Deployment) (m : model.World Bytes) (k : ℕ) → IsWorld w d m → slice_get w.sent k ≡ None → CameTo (Err steps.BadReference) new d (step (world_deployment d) m (lines.Show k))
show_missing w new d m k stands none =
    no_reference w new d m (lines.Show k) stands
    (not_less k (length m.sent) (subst (λ (s : List Bytes). length s ≤ k) stands.sending.sent (beyond_of w.sent k none)))

-- ---- destinations

pub dest_server : (w : World) (d : Deployment) (server : ServerId) → w.deployment ≡ d → (nat_lt server.site w.deployment.sites && nat_lt server.index (3 * w.deployment.f + 1)) ≡ is_dest (world_deployment d) (dests.Server server)
unfolding world_deployment
dest_server w d server same = λ i. nat_lt server.site (same i).sites && nat_lt server.index (3 * (same i).f + 1)

pub dest_client : (w : World) (d : Deployment) (client : ClientId) → w.deployment ≡ d → nat_lt client.0 w.deployment.clients ≡ is_dest (world_deployment d) (dests.Client client)
unfolding world_deployment
dest_client w d client same = λ i. nat_lt client.0 (same i).clients
