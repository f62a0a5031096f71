-- All servers, and those of a site, are one.
use Rattle.std.proofs.Common.{◌∙◌, ap}
use Rattle.st_message.specs.declared.event.Scope.{Scope}
use Rattle.st_protocol.specs.World.{dests_of}
use Rattle.st_deployment.specs.Deployed.{world_deployment}
use Rattle.st_deployment.proofs.SetLaws.{dest_all, dest_site}
use Rattle.st_world.proofs.send.dest_of.Goals as goal

pub returns-in-All : goal.returns-in-All
returns-in-All c = λ d taken. ap (λ (t : Scope). dests_of (world_deployment d) t) c.in-All.is ∙ dest_all d taken

pub returns-in-Site : goal.returns-in-Site
returns-in-Site c = λ d taken. ap (λ (t : Scope). dests_of (world_deployment d) t) c.in-Site.is ∙ dest_site d c.in-Site.site.0 taken
