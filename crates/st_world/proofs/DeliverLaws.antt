-- A delivery, by its destination.
use Rattle.std.proofs.Common.{◌≡◌, ◌∙◌, ap, sym, subst, zero, suc, [], ◌∷◌, ℕ, ◌<◌, ◌≤◌, ◌&&◌, nat_eq, true, false, length, Some, None, Result, Ok, Err, List, IfOk, slice_get, refl, arith}
use Rattle.std.proofs.lemmas.Bool.{and_parts, eqb-true}
use Rattle.st_words.specs.declared.deployment.Deployment.{Deployment}
use Rattle.st_words.specs.declared.ids.ServerId.{ServerId}
use Rattle.st_words.specs.declared.ids.ClientId.{ClientId}
use Rattle.st_hss_seal.specs.Sealing.{holds, holds_in}
use Rattle.st_hss_seal.specs.Sealers.{scheme_in}
use Rattle.st_message.specs.declared.event.Outcome.TheVariants.{Ignored}
use Rattle.st_message.specs.declared.message.Message.{Message}
use Rattle.st_message.specs.declared.reason.Reason.{Reason}
use Rattle.st_message.specs.declared.step.Refused.{Refused}
use Rattle.st_message.specs.declared.step.Refused.TheVariants as refusals
use Rattle.st_schedule.specs.declared.line.Dest.{Dest}
use Rattle.st_schedule.specs.declared.line.Dest.TheVariants as dests
use Rattle.st_schedule.specs.declared.done.Done.{Done}
use Rattle.st_schedule.specs.declared.done.Done.TheVariants as dones
use Rattle.st_protocol.specs.Words.{Bytes}
use Rattle.st_protocol.specs.Duty.{Deliver, Reading, Faulty, Clean}
use Rattle.st_protocol.specs.World as model
use Rattle.st_protocol.specs.World.{Stepped, stepped, serves, client_takes, delivers, read_known, reads}
use Rattle.st_reading.specs.Answered.{IsSpelled, IsRead}
use Rattle.st_reading.specs.Deployed.{wire_deployment}
use Rattle.st_live.specs.Service.{list_serve}
use Rattle.st_server.specs.Deployed.{runs_no_code}
use Rattle.st_flows.proofs.ServeLaws.{serves_faulty}
use Rattle.st_ranges.specs.Ranges.{MessageInRange}
use Rattle.st_deployment.specs.Deployed.{world_deployment}
use Rattle.st_deployment.proofs.SetLaws.{others_faulty}
use Rattle.st_world.specs.declared.world.World.{World}
use Rattle.st_world.specs.declared.error.StepError.{StepError}
use Rattle.st_world.specs.Serving.{IsFound, read_for, refusal}
use Rattle.st_world.specs.Standing.{IsSet, IsWorld, IsStanding, CameTo}
use Rattle.st_world.proofs.ServeLaws.{serves_nothing, ignoring}

-- ---- what is read

-- the seals of the world are the deployment's
pub checks_same : (w : World) (d : Deployment) → IsSet w d → holds_in (scheme_in w.seals) ≡ holds d
checks_same w d set = ap holds_in set.seals

-- a world has a site
pub has_site : (w : World) → IsStanding w → 1 ≤ w.deployment.sites
has_site w so =
    let same : w.deployment.sites ≡ so.deployment.sites = ap (λ (x : Deployment). x.sites) so.stands.set.deployment in
    let one = so.stands.set.taken.sites in
    omega (arith, same, one)

-- as its own deployment says
pub checks_own : (w : World) → IsStanding w → holds_in (scheme_in w.seals) ≡ holds w.deployment
checks_own w so = checks_same w so.deployment so.stands.set ∙ ap holds (sym so.stands.set.deployment)

-- what was read was found
pub found_of : (id : ℕ) (bytes : Bytes) (m : Message) → IsSpelled id bytes m → IsFound id m
found_of id bytes m is = record { keeps = is.keeps; fits = is.fits; short = is.short }

pub range_of : (id : ℕ) (m : Message) → IsFound id m → MessageInRange m
range_of id m is = (is.keeps, is.fits)

-- ---- servers

-- the one server
served_here : (d : Deployment) (m : model.World Bytes) (server : ServerId) (wire : Bytes) → (nat_eq server.site 0 && nat_eq server.index 0) ≡ true
    → serves (world_deployment d) m 0 0 (Deliver wire) ≡ serves (world_deployment d) m server.site server.index (Deliver wire)
served_here d m server wire is =
    let both = and_parts (nat_eq server.site 0) (nat_eq server.index 0) is in
    λ i. serves (world_deployment d) m (sym (eqb-true server.site 0 both.0) i) (sym (eqb-true server.index 0 both.1) i) (Deliver wire)

-- no other does anything
pub served_nowhere : (w : World) (d : Deployment) (m : model.World Bytes) (server : ServerId) (wire : Bytes) → IsWorld w d m → (nat_eq server.site 0 && nat_eq server.index 0) ≡ false
    → CameTo (Ok dones.Faulty) w d (serves (world_deployment d) m server.site server.index (Deliver wire))
served_nowhere w d m server wire stands is =
    let same = serves_faulty (world_deployment d) m server.site server.index wire (others_faulty d server.site server.index stands.set.taken is) in
    (subst (λ (st : Stepped Bytes). IsWorld w d st.world) (sym same) stands, sym (ap (λ (st : Stepped Bytes). st.done) same))

-- what the server takes
pub served : (result : Result Done StepError) (new : World) (d : Deployment) (m : model.World Bytes) (server : ServerId) (wire : Bytes) → (nat_eq server.site 0 && nat_eq server.index 0) ≡ true
    → CameTo result new d (serves (world_deployment d) m 0 0 (Deliver wire)) → CameTo result new d (serves (world_deployment d) m server.site server.index (Deliver wire))
served result new d m server wire is came = subst (CameTo result new d) (served_here d m server wire is) came

-- what the server ignores
pub served_ignored : (w : World) (d : Deployment) (m : model.World Bytes) (server : ServerId) (wire : Bytes) (reason : Reason) → IsWorld w d m → (nat_eq server.site 0 && nat_eq server.index 0) ≡ true
    → reads (world_deployment d) wire ≡ Faulty reason → CameTo (Ok (dones.Outcome (Ignored reason))) w d (serves (world_deployment d) m server.site server.index (Deliver wire))
served_ignored w d m server wire reason stands is read =
    subst (CameTo (Ok (dones.Outcome (Ignored reason))) w d) (serves_nothing w d m wire reason stands read ∙ served_here d m server wire is) (ignoring w d m reason stands, refl)

-- what it refuses
pub served_refused : (w : World) (d : Deployment) (m : model.World Bytes) (server : ServerId) (wire : Bytes) (refused : Refused) (result : Result Done StepError) → result ≡ refusal refused → IsWorld w d m
    → (nat_eq server.site 0 && nat_eq server.index 0) ≡ true → IsRead (Err refused) (reads (world_deployment d) wire) → CameTo result w d (serves (world_deployment d) m server.site server.index (Deliver wire))
served_refused w d m server wire refused result is stands here read =
    subst (λ (r : Result Done StepError). CameTo r w d (serves (world_deployment d) m server.site server.index (Deliver wire))) (sym is) (by refused read)
  where
    by : (r : Refused) → IsRead (Err r) (reads (world_deployment d) wire) → CameTo (refusal r) w d (serves (world_deployment d) m server.site server.index (Deliver wire))
    by (refusals.Ignored reason) as_read = served_ignored w d m server wire reason stands here as_read
    by refusals.OutOfMemory as_read = tt

-- what was read is taken as it was found
pub found_in : (read : Result Message Refused) (id : ℕ) (m : Message) → read ≡ Ok m → IfOk read (IsFound id) → IsFound id m
found_in read id m is found = subst (λ (r : Result Message Refused). IfOk r (IsFound id)) is found

-- as it is read
pub read_in : (read same : Result Message Refused) (reading : Reading) → read ≡ same → IsRead read reading → IsRead same reading
read_in read same reading is as_read = subst (λ (r : Result Message Refused). IsRead r reading) is as_read

-- ---- clients

-- what a client ignores
pub client_ignores : (w : World) (d : Deployment) (m : model.World Bytes) (client : ClientId) (wire : Bytes) (reason : Reason) → IsWorld w d m → read_known (world_deployment d) wire ≡ Faulty reason
    → CameTo (Ok (dones.Outcome (Ignored reason))) w d (client_takes (world_deployment d) m client.0 (read_known (world_deployment d) wire))
client_ignores w d m client wire reason stands read =
    subst (λ (r : Reading). CameTo (Ok (dones.Outcome (Ignored reason))) w d (client_takes (world_deployment d) m client.0 r)) (sym read) (stands, refl)

-- what it refuses
pub client_refuses : (w : World) (d : Deployment) (m : model.World Bytes) (client : ClientId) (wire : Bytes) (refused : Refused) (result : Result Done StepError) → result ≡ refusal refused → IsWorld w d m
    → IsRead (Err refused) (read_known (world_deployment d) wire) → CameTo result w d (client_takes (world_deployment d) m client.0 (read_known (world_deployment d) wire))
client_refuses w d m client wire refused result is stands read =
    subst (λ (r : Result Done StepError). CameTo r w d (client_takes (world_deployment d) m client.0 (read_known (world_deployment d) wire))) (sym is) (by refused read)
  where
    by : (r : Refused) → IsRead (Err r) (read_known (world_deployment d) wire) → CameTo (refusal r) w d (client_takes (world_deployment d) m client.0 (read_known (world_deployment d) wire))
    by (refusals.Ignored reason) as_read = client_ignores w d m client wire reason stands as_read
    by refusals.OutOfMemory as_read = tt

-- what it takes
pub client_reads : (result : Result Done StepError) (new : World) (d : Deployment) (m : model.World Bytes) (client : ClientId) (wire : Bytes) (message : Message) → read_known (world_deployment d) wire ≡ Clean message
    → CameTo result new d (client_takes (world_deployment d) m client.0 (Clean message)) → CameTo result new d (client_takes (world_deployment d) m client.0 (read_known (world_deployment d) wire))
client_reads result new d m client wire message read came = subst (λ (r : Reading). CameTo result new d (client_takes (world_deployment d) m client.0 r)) (sym read) came

-- ---- bytes, by who reads them

-- as a server
pub read_at_server : (w : World) (d : Deployment) (read : Result Message Refused) (to : Dest) (server : ServerId) (bytes : Bytes) → to ≡ dests.Server server → IsSet w d
    → IsRead read (reads (wire_deployment w.deployment list_serve (runs_no_code w.deployment)) bytes) → IsRead read (read_for (world_deployment d) to bytes)
unfolding wire_deployment world_deployment
read_at_server w d read to server bytes here set is =
    subst (λ (t : Dest). IsRead read (read_for (world_deployment d) t bytes)) (sym here) (subst (λ (x : Deployment). IsRead read (reads (wire_deployment x list_serve (runs_no_code x)) bytes)) set.deployment is)

-- as a client
pub read_at_client : (w : World) (d : Deployment) (read : Result Message Refused) (to : Dest) (client : ClientId) (bytes : Bytes) → to ≡ dests.Client client → IsSet w d
    → IsRead read (read_known (wire_deployment w.deployment list_serve (runs_no_code w.deployment)) bytes) → IsRead read (read_for (world_deployment d) to bytes)
unfolding wire_deployment world_deployment
read_at_client w d read to client bytes here set is =
    subst (λ (t : Dest). IsRead read (read_for (world_deployment d) t bytes)) (sym here) (subst (λ (x : Deployment). IsRead read (read_known (wire_deployment x list_serve (runs_no_code x)) bytes)) set.deployment is)

-- a message of a number below their count is there
pub never_missing : (sent : List Bytes) (k : ℕ) → k < length sent → slice_get sent k ≡ None → ⊥
never_missing [] k below none = absurd (omega (arith, below))
never_missing (x ∷ xs) zero below none = absurd (let no : Some x ≡ None = none in cc)
never_missing (x ∷ xs) (suc k) below none = never_missing xs k (omega (arith, below)) none

-- what was sent, as it was sent
pub delivered_sent : (w : World) (d : Deployment) (m : model.World Bytes) (to : Dest) (k : ℕ) (wire : Bytes) (read : Result Message Refused) (bytes : Bytes) → IsWorld w d m → slice_get m.sent k ≡ Some wire
    → slice_get w.sent k ≡ Some bytes → IsRead read (read_for (world_deployment d) to bytes) → IsRead read (read_for (world_deployment d) to wire)
delivered_sent w d m to k wire read bytes stands found here is =
    let one : Some bytes ≡ Some wire = sym here ∙ (ap (λ (s : List Bytes). slice_get s k) stands.sending.sent ∙ found) in
    let same : bytes ≡ wire = cc in
    subst (λ (x : Bytes). IsRead read (read_for (world_deployment d) to x)) same is

-- ---- by the destination

-- a server
pub taken_at_server : (result : Result Done StepError) (new : World) (d : Deployment) (m : model.World Bytes) (to : Dest) (server : ServerId) (wire : Bytes) (read : Result Message Refused) → to ≡ dests.Server server
    → (IsRead read (reads (world_deployment d) wire) → CameTo result new d (serves (world_deployment d) m server.site server.index (Deliver wire)))
    → IsRead read (read_for (world_deployment d) to wire) → CameTo result new d (delivers (world_deployment d) m to wire)
unfolding delivers
taken_at_server result new d m to server wire read is taken as_read =
    subst (λ (t : Dest). CameTo result new d (delivers (world_deployment d) m t wire)) (sym is) (taken (subst (λ (t : Dest). IsRead read (read_for (world_deployment d) t wire)) is as_read))

-- a client
pub taken_at_client : (result : Result Done StepError) (new : World) (d : Deployment) (m : model.World Bytes) (to : Dest) (client : ClientId) (wire : Bytes) (read : Result Message Refused) → to ≡ dests.Client client
    → (IsRead read (read_known (world_deployment d) wire) → CameTo result new d (client_takes (world_deployment d) m client.0 (read_known (world_deployment d) wire)))
    → IsRead read (read_for (world_deployment d) to wire) → CameTo result new d (delivers (world_deployment d) m to wire)
unfolding delivers
taken_at_client result new d m to client wire read is taken as_read =
    subst (λ (t : Dest). CameTo result new d (delivers (world_deployment d) m t wire)) (sym is) (taken (subst (λ (t : Dest). IsRead read (read_for (world_deployment d) t wire)) is as_read))
