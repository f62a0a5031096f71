-- The client's own seal.
use Rattle.std.proofs.Common.{◌∙◌, refl}
use Rattle.st_hss_seal.specs.Sealers.{scheme_in}
use Rattle.st_hss_seal.specs.Sealing.{pen_in}
use Rattle.st_protocol.specs.Words.{client_at}
use Rattle.st_world.proofs.SubmitLaws.{client_below, client_leaves, seal_same, seal_keeps, sealers_here, sealers_stay}
use Rattle.st_world.proofs.world.World.client_seal.Goals as goal

pub seal-requires-clause-keeps : goal.seal-requires-clause-keeps
seal-requires-clause-keeps c = sealers_here c.args.self.now c.requires.stands

pub seal-requires-clause-client : goal.seal-requires-clause-client
seal-requires-clause-client c = client_below c.args.self.now c.args.client.0 c.requires.stands c.requires.client

pub seal-requires-clause-leaf : goal.seal-requires-clause-leaf
seal-requires-clause-leaf c =
    client_leaves c.args.self.now c.args.client.0 c.args.leaf (pen_in (scheme_in c.args.self.now.seals) (client_at c.args.client.0)) c.requires.stands refl c.requires.leaf

pub returns-clause-same : goal.returns-clause-same
returns-clause-same c = sealers_stay c.args.self.now c.seal.new.self c.seal.ensures.keeps

pub returns-clause-seal : goal.returns-clause-seal
returns-clause-seal c =
    λ d set.
    c.in_ok-seal.ensures.seal ∙ seal_same c.args.self.now d c.args.client.0 c.args.leaf c.args.statement.now (pen_in (scheme_in c.args.self.now.seals) (client_at c.args.client.0)) set refl

pub returns-clause-length : goal.returns-clause-length
returns-clause-length c =
    seal_keeps c.args.self.now c.args.client.0 c.args.leaf c.args.statement.now (pen_in (scheme_in c.args.self.now.seals) (client_at c.args.client.0)) c.in_ok-seal.seal c.requires.stands refl
    c.in_ok-seal.ensures.seal
