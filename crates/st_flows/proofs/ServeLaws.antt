-- What a delivery to a server comes to.
use Rattle.std.proofs.Common.{◌≡◌, ℕ, true, false, List, refl}
use Rattle.st_words.specs.declared.ids.ServerId.{ServerId}
use Rattle.st_message.specs.declared.change.Change.{Change}
use Rattle.st_schedule.specs.declared.line.Dest.TheVariants as dests
use Rattle.st_schedule.specs.declared.done.Done.TheVariants as done
use Rattle.st_protocol.specs.Duty.{Deliver}
use Rattle.st_protocol.specs.World.{Deployment, World, stepped, with_node, settled, hands_out, plan_at, serves, delivers}
use Rattle.st_protocol.specs.Plain.{ArePlain}
use Rattle.st_protocol.proofs.PlainLaws.{plain_serves}
use Rattle.st_flows.proofs.PlainKept.{plain_at, faulty_serves}

module _ {Wire : Type 0} (d : Deployment Wire) where
  -- a delivery to a server is its event
  pub delivers_to_server : (world : World Wire) (server : ServerId) (wire : Wire) →
      delivers d world (dests.Server server) wire ≡ serves d world server.site server.index (Deliver wire)
  unfolding delivers
  delivers_to_server world server wire = refl

  -- A faulty server does nothing.
  pub serves_faulty : (world : World Wire) (site index : ℕ) (wire : Wire) → d.faulty site index ≡ true →
      serves d world site index (Deliver wire) ≡ stepped world done.Faulty
  serves_faulty world site index wire faulty = faulty_serves d world site index (Deliver wire) faulty

  -- Any other hands out its plan, where all servers run and no body is written.
  pub serves_plan : ((changes : List Change) → d.formats.body_size changes ≡ 0) → (world : World Wire) (site index : ℕ) (wire : Wire) → ArePlain world → d.faulty site index ≡ false →
      serves d world site index (Deliver wire)
      ≡ stepped
      (hands_out d site index
      (with_node world site index (settled d (world.nodes site index) (plan_at d world site index (Deliver wire)))) (plan_at d world site index (Deliver wire)).outputs)
      (done.Outcome (plan_at d world site index (Deliver wire)).outcome)
  serves_plan nothing_written world site index wire plain correct =
      plain_serves d nothing_written world site index (Deliver wire) (plain_at world plain site index) correct
