-- The short state stands where the answers say.
use Rattle.std.proofs.Common.{ap}
use Rattle.st_protocol.specs.State.{Here}
use Rattle.st_server.proofs.StandingLaws.{place_stands}
use Rattle.st_server.proofs.server.Server.executed_count.Goals as goal

pub returns : goal.returns
returns c = λ records heard stands. ap (λ (h : Here). h.executed) (place_stands c.args.self.now records heard stands)
