-- Event lines at which each event of a server is honest.
use Rattle.std.specs.Prelude.{◌≡◌, ℕ, zero, suc, Some, None, List, [], ◌∷◌, slice_get}
use Rattle.st_message.specs.declared.message.Message.{Message}
use Rattle.st_schedule.specs.declared.line.Dest.{Dest}
use Rattle.st_schedule.specs.declared.line.Dest.TheVariants as dests
use Rattle.st_schedule.specs.declared.line.Line.{Line}
use Rattle.st_schedule.specs.declared.line.Line.TheVariants as lines
use Rattle.st_protocol.specs.Duty.{Clean}
use Rattle.st_protocol.specs.World.{Deployment, World, Pair, reads, with_waiting}
use Rattle.st_protocol.specs.Schedule.{Flowing, is_pair, without, forged_by, flows_first, goes_on}
use Rattle.st_answer_laws.specs.Sound.{IsSound}

module _ {Wire : Type 0} (d : Deployment Wire) where
  -- ---- of each message that a server is given, in the world in which it is

  module _ (P : World Wire → Message → Type 0) where
    -- a delivery to a server
    abbrev pub IsDelivery : World Wire → Dest → Wire → Type 0
    IsDelivery world (dests.Server server) wire = (m : Message) → reads d wire ≡ Clean m → P world m
    IsDelivery world (dests.Client client) wire = Unit {0}

    -- the delivery of the oldest pair
    abbrev pub IsFirst : Flowing Wire → List Pair → Type 0
    IsFirst x [] = Unit {0}
    IsFirst x (p ∷ ps) = (wire : Wire) → slice_get x.world.sent p.message ≡ Some wire → IsDelivery (with_waiting x.world ps) p.to wire

    -- so many deliveries
    abbrev pub AreFlows : ℕ → Flowing Wire → Type 0
    AreFlows zero x = Unit {0}
    AreFlows (suc k) x = IsFirst x x.world.waiting × AreFlows k (flows_first d x x.world.waiting)

  -- the same, and another of messages that come from outside and hold no forged seal
  module _ (P Q : World Wire → Message → Type 0) where
    -- the events of a line
    abbrev pub IsLine : World Wire → Line → Type 0
    IsLine world (lines.Deliver m to) = (wire : Wire) → slice_get world.sent m ≡ Some wire → IsDelivery P (with_waiting world (without (is_pair m to) world.waiting)) to wire
    IsLine world (lines.Flow k) = AreFlows P k (record { world = world; pairs = 0; did = 0; ignored = 0 })
    IsLine world (lines.Raw to bytes) = forged_by d world (d.formats.read (d.formats.raw bytes)) ≡ None → IsDelivery Q world to (d.formats.raw bytes)
    IsLine world _ = Unit {0}

    -- The events of lines, from a world on.
    abbrev pub AreLines : World Wire → List Line → Type 0
    AreLines world [] = Unit {0}
    AreLines world (line ∷ more) = IsLine world line × AreLines (goes_on d world line) more

  -- Lines at which what each server is given is sound.
  abbrev pub AreHonestLines : World Wire → List Line → Type 0
  AreHonestLines world all = AreLines (λ w m. IsSound d w m) (λ w m. IsSound d w m) world all
