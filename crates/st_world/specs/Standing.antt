-- A world in memory stands for a world of the definitions.
use Rattle.std.specs.Prelude.{ℕ, ◌≡◌, ◌<◌, ◌≤◌, Option, Some, None, List, length, Result, Ok, Err}
use Rattle.std.specs.List.{AllByRecursion as Each}
use Rattle.st_words.specs.declared.deployment.Deployment.{Deployment}
use Rattle.st_seal.specs.Scheme.{scheme_of}
use Rattle.st_hss_seal.specs.Sealing.{pen_in}
use Rattle.st_hss_seal.specs.Sealers.{scheme_in, pen_of}
use Rattle.st_schedule.specs.declared.limits.TheConstants.{MOST_MESSAGES, MOST_SENT}
use Rattle.st_schedule.specs.declared.done.Done.{Done}
use Rattle.st_protocol.specs.Words.{Bytes, server_at}
use Rattle.st_protocol.specs.World as model
use Rattle.st_protocol.specs.World.{Fault, BadReference, Forged, TooMany, TooMuch, Stepped, sent_size, seat_of}
use Rattle.st_protocol.specs.Plain.{ArePlain}
use Rattle.st_ranges.specs.Ranges.{ListsInRange}
use Rattle.st_sealers.specs.Keeping.{KeepsSealers}
use Rattle.st_waiting.specs.Undelivered.{pairs_in, newest_in}
use Rattle.st_config.specs.Taken.{IsTaken}
use Rattle.st_server.specs.Serving.{Stands, seat_by}
use Rattle.st_deployment.specs.Deployed.{world_deployment}
use Rattle.st_world.specs.declared.world.World.{World}
use Rattle.st_world.specs.declared.error.WorldError.{WorldError}
use Rattle.st_world.specs.declared.error.WorldError.TheVariants as errors
use Rattle.st_world.specs.declared.error.StepError.{StepError}
use Rattle.st_world.specs.declared.error.StepError.TheVariants as steps
use Rattle.st_world.specs.Customers.{customer_in}

-- What never changes in a world of this deployment.
pub record IsSet (w : World) (d : Deployment) : Type 0 where
  pub taken : IsTaken d
  pub deployment : w.deployment ≡ d
  pub seals : scheme_in w.seals ≡ scheme_of d
  pub sealer : pen_of w.sealer ≡ pen_in (scheme_of d) (server_at 0 0)
  pub sealers : KeepsSealers (scheme_of d) w.sealers
  pub seat : seat_by w.server ≡ seat_of (world_deployment d) 0 0

-- the pairs are of so many messages
abbrev pub AreSent : ℕ → List model.Pair → Type 0
AreSent count pairs = Each (λ (p : model.Pair). p.message < count) pairs

-- What is sent, in memory, is what was sent, and no more bytes than may be.
pub record IsSent (w : World) (d : Deployment) (m : model.World Bytes) : Type 0 where
  pub sent : w.sent ≡ m.sent
  pub number : length m.sent ≤ MOST_MESSAGES
  pub size : w.size ≡ sent_size (world_deployment d) m.sent
  pub few : w.size ≤ MOST_SENT
  pub newest : newest_in w.waiting ≤ length m.sent
  pub below : AreSent (length m.sent) m.waiting
  pub waiting : pairs_in w.waiting ≡ m.waiting
  pub made : w.made ≡ m.made

-- The world in memory is this world of the deployment, which goes on.
pub record IsWorld (w : World) (d : Deployment) (m : model.World Bytes) : Type 0 where
  pub set : IsSet w d
  pub server : Stands w.server (m.nodes 0 0).bodies (m.nodes 0 0).heard
  pub kept : ListsInRange (seat_of (world_deployment d) 0 0) (m.nodes 0 0).bodies (m.nodes 0 0).heard
  pub plain : ArePlain m
  pub customers : (c : ℕ) → customer_in w.customers c ≡ m.customers c
  pub sending : IsSent w d m
  pub going : m.ended ≡ None

-- The world in memory is some world of some deployment.
pub record IsStanding (w : World) : Type 0 where
  pub deployment : Deployment
  pub model : model.World Bytes
  pub stands : IsWorld w deployment model

-- what is changed in memory leaves it the same world
abbrev pub StaysWorld : World → World → Type 0
StaysWorld old new = (d : Deployment) (m : model.World Bytes) → IsWorld old d m → IsWorld new d m

-- ---- what calls come to

-- what an event's error says of why a world ended: at its 65,537th message, or with so many bytes; want of memory says
-- nothing
abbrev pub EndsBy : StepError → Option Fault → Type 0
EndsBy steps.BadReference fault = fault ≡ Some BadReference
EndsBy (steps.Forged place) fault = fault ≡ Some (Forged place)
EndsBy (steps.TooMany count) fault = (count ≡ 65537) × (fault ≡ Some (TooMany count))
EndsBy (steps.TooMuch bytes) fault = fault ≡ Some (TooMuch bytes)
EndsBy steps.OutOfMemory fault = Unit {0}

-- a call led to this world, or says why that has ended
abbrev pub LedTo : {A : Type 0} → Result A StepError → World → Deployment → model.World Bytes → Type 0
LedTo (Ok a) w d m = IsWorld w d m
LedTo (Err e) w d m = EndsBy e m.ended

-- an event came to this
abbrev pub CameTo : Result Done StepError → World → Deployment → Stepped Bytes → Type 0
CameTo (Ok done) w d st = IsWorld w d st.world × (done ≡ st.done)
CameTo (Err e) w d st = EndsBy e st.world.ended

-- what the error of an event at a line says of why a world ended
abbrev pub Ends : ℕ → WorldError → Option Fault → Type 0
Ends line (errors.BadReference l) fault = (l ≡ line) × (fault ≡ Some BadReference)
Ends line (errors.Forged l place) fault = (l ≡ line) × (fault ≡ Some (Forged place))
Ends line (errors.TooMany count) fault = (count ≡ 65537) × (fault ≡ Some (TooMany count))
Ends line (errors.TooMuch bytes) fault = fault ≡ Some (TooMuch bytes)
Ends line errors.OutOfMemory fault = Unit {0}

-- an event at a line came to this
abbrev pub SteppedTo : ℕ → Result Done WorldError → World → Deployment → Stepped Bytes → Type 0
SteppedTo line (Ok done) w d st = IsWorld w d st.world × (done ≡ st.done)
SteppedTo line (Err e) w d st = Ends line e st.world.ended
