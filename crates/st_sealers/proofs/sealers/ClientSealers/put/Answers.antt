-- The client's sealer is in its place.
use Rattle.std.proofs.Common.{refl}
use Rattle.st_sealers.proofs.PlaceLaws.{keeps_put}
use Rattle.st_sealers.proofs.sealers.ClientSealers.put.Goals as goal

pub returns : goal.returns
returns c = λ s keeps own. keeps_put s c.args.self.now _ c.from.result c.args.client.0 c.args.sealer keeps c.from.ensures c.requires refl own
