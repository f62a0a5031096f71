-- Nothing was sent, and nothing ran.
use Rattle.std.proofs.Common.{◌∙◌, ap, refl}
use Rattle.st_seal.specs.Scheme.{Scheme, scheme_of}
use Rattle.st_hss_seal.specs.Sealers.{scheme_in, pen_of}
use Rattle.st_hss_seal.specs.Sealing.{pen_in}
use Rattle.st_protocol.specs.Words.{server_at}
use Rattle.st_world.proofs.NewLaws.{server_party, capacity_first, first_world}
use Rattle.st_world.proofs.world.World.new.Goals as goal

pub sealer_of-requires : goal.sealer_of-requires
sealer_of-requires c = server_party c.args.d.now (scheme_in c.in_ok-seals.seals) c.requires c.in_ok-seals.ensures.scheme

pub server_of-requires-clause-capacity : goal.server_of-requires-clause-capacity
server_of-requires-clause-capacity c =
    capacity_first c.args.d.now (scheme_in c.in_ok-seals.seals) (pen_of c.in_ok-sealer.sealer) c.capacity-capacity.result c.in_ok-seals.ensures.scheme c.in_ok-sealer.ensures.pen c.capacity-capacity.ensures

pub returns-clause-stands : goal.returns-clause-stands
returns-clause-stands c =
    let d = c.args.d.now in
    first_world _ d c.capacity-capacity.result c.requires c.copy_of-deployment.ensures c.in_ok-seals.ensures.scheme
    (c.in_ok-sealer.ensures.pen ∙ ap (λ (s : Scheme). pen_in s (server_at 0 0)) c.in_ok-seals.ensures.scheme) (c.in_ok-sealers.ensures.keeps (scheme_of d) refl)
    (capacity_first d (scheme_in c.in_ok-seals.seals) (pen_of c.in_ok-sealer.sealer) c.capacity-capacity.result c.in_ok-seals.ensures.scheme c.in_ok-sealer.ensures.pen c.capacity-capacity.ensures)
    c.in_ok-server.ensures.stands c.in_ok-server.ensures.seat c.in_ok-customers.ensures.empty c.new-sent.ensures refl c.in_ok-waiting.ensures.none c.in_ok-waiting.ensures.newest c.new-made.ensures
