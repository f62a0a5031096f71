-- The short state stands where the answers say.
use Rattle.std.proofs.Common.{ap}
use Rattle.st_protocol.specs.State.{Here}
use Rattle.st_server.proofs.StandingLaws.{place_stands}
use Rattle.st_server.proofs.server.Server.views.Goals as goal

pub returns-clause-view : goal.returns-clause-view
returns-clause-view c = λ records heard stands. ap (λ (h : Here). h.view) (place_stands c.args.self.now records heard stands)

pub returns-clause-local : goal.returns-clause-local
returns-clause-local c = λ records heard stands. ap (λ (h : Here). h.local) (place_stands c.args.self.now records heard stands)
