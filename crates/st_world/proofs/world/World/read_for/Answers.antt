-- Bytes, by who reads them.
use Rattle.std.proofs.lemmas.Result.{IfOk-weaker}
use Rattle.st_live.specs.Service.{list_serve}
use Rattle.st_server.specs.Deployed.{runs_no_code}
use Rattle.st_world.proofs.DeliverLaws.{checks_own, has_site, found_of, read_at_server, read_at_client}
use Rattle.st_world.proofs.world.World.read_for.Goals as goal

pub read_checked-requires-clause-check : goal.read_checked-requires-clause-check
read_checked-requires-clause-check c = checks_own c.args.self.now c.requires.stands

pub read_checked-requires-clause-sites : goal.read_checked-requires-clause-sites
read_checked-requires-clause-sites c = has_site c.args.self.now c.requires.stands

pub returns-in-Server-clause-found : goal.returns-in-Server-clause-found
returns-in-Server-clause-found c = IfOk-weaker c.read_checked.result _ _ (λ m is. found_of c.args.self.now.deployment.id c.args.bytes.now m is) c.read_checked.ensures.found

pub returns-in-Server-clause-exact : goal.returns-in-Server-clause-exact
returns-in-Server-clause-exact c =
    λ d set. read_at_server c.args.self.now d c.read_checked.result c.args.to _ c.args.bytes.now c.in-Server.is set (c.read_checked.ensures.exact list_serve (runs_no_code c.args.self.now.deployment))

pub returns-in-Client-clause-found : goal.returns-in-Client-clause-found
returns-in-Client-clause-found c = IfOk-weaker c.read_known.result _ _ (λ m is. found_of c.args.self.now.deployment.id c.args.bytes.now m is) c.read_known.ensures.found

pub returns-in-Client-clause-exact : goal.returns-in-Client-clause-exact
returns-in-Client-clause-exact c =
    λ d set. read_at_client c.args.self.now d c.read_known.result c.args.to _ c.args.bytes.now c.in-Client.is set (c.read_known.ensures.exact list_serve (runs_no_code c.args.self.now.deployment))
