-- Up to here each seal is honest.
use Rattle.std.proofs.Common.{◌≡◌, drop}
use Rattle.st_words.specs.declared.deployment.Deployment.{Deployment}
use Rattle.st_protocol.specs.Words.{Bytes}
use Rattle.st_protocol.specs.World as model
use Rattle.st_world.specs.Honest.{first_forged}
use Rattle.st_world.specs.Standing.{IsWorld}
use Rattle.st_world.proofs.world.World.first_forged.Given as goal

abbrev pub invariant-loop-sealed : goal.invariant-loop-sealed
invariant-loop-sealed l = (d : Deployment) (m : model.World Bytes) → IsWorld l.fn.self d m → first_forged d m (drop l.sealed-index l.seals) ≡ first_forged d m l.seals
