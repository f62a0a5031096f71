-- The event, at its line.
use Rattle.std.proofs.Common.{sym, subst}
use Rattle.st_protocol.specs.Schedule.{step}
use Rattle.st_deployment.specs.Deployed.{world_deployment}
use Rattle.st_world.specs.declared.error.WorldError.{WorldError}
use Rattle.st_world.specs.Standing.{Ends}
use Rattle.st_world.proofs.EndLaws.{ends_at}
use Rattle.st_world.proofs.world.World.step.Goals as goal

pub returns-in-Err-clause-stepped : goal.returns-in-Err-clause-stepped
returns-in-Err-clause-stepped c =
    λ d m stands.
    subst (λ (e : WorldError). Ends c.args.line e (step (world_deployment d) m c.args.event.now).world.ended) (sym c.at_line.ensures)
    (ends_at c.args.line c.in-Err.error _ (c.in-Err.ensures.stepped d m stands))
