-- What an error says of a world's end.
use Rattle.std.proofs.Common.{◌≡◌, refl, ℕ, Option, Some, Result, Ok, Err, OnOk}
use Rattle.st_words.specs.declared.deployment.Deployment.{Deployment}
use Rattle.st_schedule.specs.declared.done.Done.{Done}
use Rattle.st_protocol.specs.Words.{Bytes}
use Rattle.st_protocol.specs.World as model
use Rattle.st_protocol.specs.World.{Fault, BadReference, Forged, TooMany, TooMuch, Stepped}
use Rattle.st_world.specs.declared.world.World.{World}
use Rattle.st_world.specs.declared.error.StepError.{StepError}
use Rattle.st_world.specs.declared.error.StepError.TheVariants as steps
use Rattle.st_world.specs.Errors.{at_line}
use Rattle.st_world.specs.Standing.{IsWorld, IsStanding, Ends, EndsBy, CameTo}

-- what ended a world stays
pub ends_still : (e : StepError) (before after : Option Fault) → ((f : Fault) → before ≡ Some f → after ≡ Some f) → EndsBy e before → EndsBy e after
ends_still steps.BadReference before after stays is = stays BadReference is
ends_still (steps.Forged place) before after stays is = stays (Forged place) is
ends_still (steps.TooMany count) before after stays is = (is.0, stays (TooMany count) is.1)
ends_still (steps.TooMuch bytes) before after stays is = stays (TooMuch bytes) is
ends_still steps.OutOfMemory before after stays is = tt

-- the error at a line says it of that line
pub ends_at : (line : ℕ) (e : StepError) (fault : Option Fault) → EndsBy e fault → Ends line (at_line line e) fault
ends_at line steps.BadReference fault is = (refl, is)
ends_at line (steps.Forged place) fault is = (refl, is)
ends_at line (steps.TooMany count) fault is = is
ends_at line (steps.TooMuch bytes) fault is = is
ends_at line steps.OutOfMemory fault is = tt

-- a world that an event led to stands still
pub stands_still : (result : Result Done StepError) (old new : World) (next : Deployment → model.World Bytes → Stepped Bytes) → IsStanding old
    → ((d : Deployment) (m : model.World Bytes) → IsWorld old d m → CameTo result new d (next d m)) → OnOk result (IsStanding new)
stands_still (Ok done) old new next so came =
    record { deployment = so.deployment; model = (next so.deployment so.model).world; stands = (came so.deployment so.model so.stands).0 }
stands_still (Err e) old new next so came = tt

-- what follows from what holds where there is a value
pub on_ok_weaker : {T E : Type 0} (r : Result T E) (P Q : Type 0) → (P → Q) → OnOk r P → OnOk r Q
on_ok_weaker (Ok x) P Q then holds = then holds
on_ok_weaker (Err e) P Q then holds = holds
