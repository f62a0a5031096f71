-- Seals that stand in bytes from outside, looked at one after another.
use Rattle.std.proofs.Common.{◌≡◌, ◌∙◌, ap, sym, subst, ℕ, ◌+◌, ◌*◌, ◌<◌, ◌≤◌, ◌&&◌, not, nat_lt, Bool, true, false, cond, Option, Some, None, Result, Ok, Err, IfOk, List, ◌∷◌, length, get_or, drop, refl}
use Rattle.std.specs.Option.{option_map}
use Rattle.std.specs.List.{All}
use Rattle.std.proofs.lemmas.List.{at_drop_more, at_drop_all}
use Rattle.st_words.specs.declared.deployment.Deployment.{Deployment}
use Rattle.st_words.specs.declared.ids.ServerId.{ServerId}
use Rattle.st_words.specs.declared.ids.ClientId.{ClientId}
use Rattle.st_words.specs.declared.ids.Who.{Who}
use Rattle.st_words.specs.declared.ids.Who.TheVariants as parties
use Rattle.st_words.specs.Ranges.{KeepsStatement}
use Rattle.st_words.specs.Spelling.{statement_spelling}
use Rattle.st_seal.specs.Pen.{Checks}
use Rattle.st_hss_seal.specs.Sealing.{holds_in}
use Rattle.st_hss_seal.specs.Sealers.{scheme_in}
use Rattle.st_message.specs.declared.message.Message.{Message}
use Rattle.st_wire.specs.declared.error.MessageError.{MessageError}
use Rattle.st_wire.specs.declared.error.MessageError.TheVariants as messages
use Rattle.st_wire.specs.declared.seal.SealIn.{SealIn}
use Rattle.st_wire.specs.Errors.{reading_of, IsReading}
use Rattle.st_wire.specs.Seals.{seals_of}
use Rattle.st_protocol.specs.Words.{Bytes}
use Rattle.st_protocol.specs.Keeping.{given}
use Rattle.st_protocol.specs.World as model
use Rattle.st_protocol.specs.World.{Forged, first_bad, has_made, is_server}
use Rattle.st_protocol.specs.Schedule.{forged_by, is_correct_who, is_honest}
use Rattle.st_reading.specs.Deployed.{seal_in, as_reading}
use Rattle.st_reading.proofs.KeptLaws.{statements_keep}
use Rattle.st_deployment.specs.Deployed.{world_deployment}
use Rattle.st_deployment.proofs.SetLaws.{faulty_is_none}
use Rattle.st_world.specs.declared.world.World.{World}
use Rattle.st_world.specs.declared.error.StepError.{StepError}
use Rattle.st_world.specs.Honest.{first_forged, unread}
use Rattle.st_world.specs.Serving.{IsFound}
use Rattle.st_world.specs.Standing.{IsSet, IsWorld}
use Rattle.st_world.proofs.DeliverLaws.{checks_same}

-- ---- one seal

-- whether a seal is honest, by its parts
honest_by : (d : Deployment) (m : model.World Bytes) (x : SealIn) (correct checks made : Bool) → is_correct_who (world_deployment d) x.who ≡ correct
    → (world_deployment d).formats.holds x.who x.statement x.seal ≡ checks → has_made m.made x.who x.statement ≡ made → is_honest (world_deployment d) m (seal_in x) ≡ not (correct && checks && not made)
honest_by d m x correct checks made e f g = λ i. not (e i && f i && not (g i))

-- the check of the world is the deployment's
holds_is : (w : World) (d : Deployment) (x : SealIn) → IsSet w d → holds_in (scheme_in w.seals) x.who (statement_spelling w.deployment.id x.statement) x.seal ≡ (world_deployment d).formats.holds x.who x.statement x.seal
unfolding world_deployment
holds_is w d x set = λ i. checks_same w d set i x.who (statement_spelling (set.deployment i).id x.statement) x.seal

-- named as of no correct party
pub not_correct : (d : Deployment) (m : model.World Bytes) (x : SealIn) → is_correct_who (world_deployment d) x.who ≡ false → true ≡ is_honest (world_deployment d) m (seal_in x)
not_correct d m x e = sym (honest_by d m x false ((world_deployment d).formats.holds x.who x.statement x.seal) (has_made m.made x.who x.statement) e refl refl)

-- that doesn't check
pub not_checked : (w : World) (d : Deployment) (m : model.World Bytes) (x : SealIn) → IsSet w d → is_correct_who (world_deployment d) x.who ≡ true → holds_in (scheme_in w.seals) x.who (statement_spelling w.deployment.id x.statement) x.seal ≡ false
    → true ≡ is_honest (world_deployment d) m (seal_in x)
not_checked w d m x set e f = sym (honest_by d m x true false (has_made m.made x.who x.statement) e (sym (holds_is w d x set) ∙ f) refl)

-- that checks
pub checked : (w : World) (d : Deployment) (m : model.World Bytes) (x : SealIn) (made : Bool) → IsSet w d → is_correct_who (world_deployment d) x.who ≡ true → holds_in (scheme_in w.seals) x.who (statement_spelling w.deployment.id x.statement) x.seal ≡ true
    → made ≡ has_made m.made x.who x.statement → not (not made) ≡ is_honest (world_deployment d) m (seal_in x)
checked w d m x made set e f g = sym (honest_by d m x true true made e (sym (holds_is w d x set) ∙ f) (sym g))

-- a check of the same bytes
pub same_check : (checks : Checks) (who : Who) (a b seal same : Bytes) (answer : Bool) → a ≡ b → seal ≡ same → checks who a seal ≡ answer → checks who b same ≡ answer
same_check checks who a b seal same answer e f is = (λ i. checks who (sym e i) (sym f i)) ∙ is

-- ---- all of them

-- an honest seal is gone past
pub goes_past : (d : Deployment) (m : model.World Bytes) (seals : List SealIn) (i : ℕ) (x : SealIn) → i < length seals → x ≡ get_or seals i x → is_honest (world_deployment d) m (seal_in x) ≡ true
    → first_forged d m (drop (i + 1) seals) ≡ first_forged d m (drop i seals)
unfolding first_bad
goes_past d m seals i x lt is good =
    let here : first_forged d m (drop i seals) ≡ first_forged d m (x ∷ drop (i + 1) seals)
    = at_drop_more (first_forged d m) seals i x lt ∙ ap (λ (y : SealIn). first_forged d m (y ∷ drop (i + 1) seals)) (sym is) in
    sym (here ∙ ap (λ (b : Bool). cond b (first_forged d m (drop (i + 1) seals)) (Some x.place)) good)

-- a forged one is the first
pub is_found : (d : Deployment) (m : model.World Bytes) (seals : List SealIn) (i : ℕ) (x : SealIn) → i < length seals → x ≡ get_or seals i x → is_honest (world_deployment d) m (seal_in x) ≡ false
    → Some x.place ≡ first_forged d m (drop i seals)
unfolding first_bad
is_found d m seals i x lt is bad =
    let here : first_forged d m (drop i seals) ≡ first_forged d m (x ∷ drop (i + 1) seals)
    = at_drop_more (first_forged d m) seals i x lt ∙ ap (λ (y : SealIn). first_forged d m (y ∷ drop (i + 1) seals)) (sym is) in
    sym (here ∙ ap (λ (b : Bool). cond b (first_forged d m (drop (i + 1) seals)) (Some x.place)) bad)

-- where each is honest there is none
pub none_is_left : (d : Deployment) (m : model.World Bytes) (seals : List SealIn) (i : ℕ) → length seals ≤ i → None ≡ first_forged d m (drop i seals)
unfolding first_bad
none_is_left d m seals i past = sym (at_drop_all (first_forged d m) seals i past)

-- those of a message
pub in_message : (w : World) (d : Deployment) (m : model.World Bytes) (message : Message) (seals : List SealIn) → IsSet w d → seals ≡ seals_of w.deployment.id w.deployment.sites message
    → first_forged d m seals ≡ first_bad (is_honest (world_deployment d) m) ((world_deployment d).formats.seals_in message)
unfolding world_deployment
in_message w d m message seals set is = ap (first_forged d m) (is ∙ (λ i. seals_of (set.deployment i).id (set.deployment i).sites message))

-- ---- bytes

-- where a place is found
map_given : (place : Option ℕ) → option_map Forged place ≡ given place None (λ at. Some (Forged at))
map_given None = refl
map_given (Some at) = refl

-- bytes of a message
pub forged_message : (w : World) (d : Deployment) (m : model.World Bytes) (bytes : Bytes) (message : Message) (place : Option ℕ) → IsSet w d → Ok message ≡ reading_of w.deployment.id bytes
    → place ≡ first_bad (is_honest (world_deployment d) m) ((world_deployment d).formats.seals_in message) → option_map Forged place ≡ forged_by (world_deployment d) m ((world_deployment d).formats.read bytes)
unfolding world_deployment
forged_message w d m bytes message place set read is =
    map_given place ∙ (ap (λ (x : Option ℕ). given x None (λ at. Some (Forged at))) is ∙ ap (λ r. forged_by (world_deployment d) m (as_reading r)) (read ∙ (λ i. reading_of (set.deployment i).id bytes)))

-- bytes of none
pub forged_nothing : (w : World) (d : Deployment) (m : model.World Bytes) (bytes : Bytes) (e : MessageError) → IsSet w d → Err e ≡ reading_of w.deployment.id bytes
    → None ≡ forged_by (world_deployment d) m ((world_deployment d).formats.read bytes)
unfolding world_deployment
forged_nothing w d m bytes e set read = ap (λ r. forged_by (world_deployment d) m (as_reading r)) (read ∙ (λ i. reading_of (set.deployment i).id bytes))

-- what is answered of bytes of none
pub forged_unread : (w : World) (bytes : Bytes) (e : MessageError) (result : Result (Option ℕ) StepError) → result ≡ unread e → IsReading (Err e) (reading_of w.deployment.id bytes)
    → IfOk result (λ place. (d : Deployment) (m : model.World Bytes) → IsWorld w d m → option_map Forged place ≡ forged_by (world_deployment d) m ((world_deployment d).formats.read bytes))
forged_unread w bytes e result is read = subst (λ (r : Result (Option ℕ) StepError). IfOk r (λ place. (d : Deployment) (m : model.World Bytes) → IsWorld w d m → option_map Forged place ≡ forged_by (world_deployment d) m ((world_deployment d).formats.read bytes))) (sym is) (by e read)
  where
    by : (e : MessageError) → IsReading (Err e) (reading_of w.deployment.id bytes)
        → IfOk (unread e) (λ place. (d : Deployment) (m : model.World Bytes) → IsWorld w d m → option_map Forged place ≡ forged_by (world_deployment d) m ((world_deployment d).formats.read bytes))
    by messages.OutOfMemory as_read = tt
    by (messages.TooLong n) as_read = λ d m stands. forged_nothing w d m bytes (messages.TooLong n) stands.set as_read
    by (messages.Malformed place) as_read = λ d m stands. forged_nothing w d m bytes (messages.Malformed place) stands.set as_read
    by (messages.WrongDeployment id) as_read = λ d m stands. forged_nothing w d m bytes (messages.WrongDeployment id) stands.set as_read

-- ---- parties

-- a server that isn't faulty is one that there is
correct_server : (b f : Bool) → f ≡ not b → (b && not f) ≡ b
correct_server true f e = ap not e
correct_server false f e = refl

pub party_server : (w : World) (d : Deployment) (server : ServerId) → IsSet w d
    → (nat_lt server.site w.deployment.sites && nat_lt server.index (3 * w.deployment.f + 1)) ≡ is_correct_who (world_deployment d) (parties.Server server)
unfolding world_deployment
party_server w d server set =
    (λ i. nat_lt server.site (set.deployment i).sites && nat_lt server.index (3 * (set.deployment i).f + 1))
    ∙ sym (correct_server (is_server (world_deployment d) server.site server.index) ((world_deployment d).faulty server.site server.index) (faulty_is_none d server.site server.index set.taken))

pub party_client : (w : World) (d : Deployment) (client : ClientId) → IsSet w d → nat_lt client.0 w.deployment.clients ≡ is_correct_who (world_deployment d) (parties.Client client)
unfolding world_deployment
party_client w d client set = λ i. nat_lt client.0 (set.deployment i).clients

-- ---- statements

-- those that a message's seals are over keep their ranges
pub seals_kept : (d : Deployment) (message : Message) (seals : List SealIn) → IsFound d.id message → seals ≡ seals_of d.id d.sites message → All (λ (x : SealIn). KeepsStatement x.statement) seals
seals_kept d message seals found is = subst (All (λ (x : SealIn). KeepsStatement x.statement)) (sym is) (statements_keep d.id d.sites message found.keeps)
