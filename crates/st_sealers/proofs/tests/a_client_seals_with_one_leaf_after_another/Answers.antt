-- There are as many places as the deployment has clients.
use Rattle.std.proofs.Common.{ap}
use Rattle.st_seal.specs.Scheme.{Scheme}
use Rattle.st_hss_seal.specs.Sealers.{scheme_in}
use Rattle.st_sealers.proofs.tests.a_client_seals_with_one_leaf_after_another.Goals as goal

pub seals_with-requires : goal.seals_with-requires
seals_with-requires g c = c.in_ok-sealers.ensures.keeps (scheme_in c.in_ok-seals.seals) (ap (λ (s : Scheme). s.clients) c.in_ok-seals.ensures.scheme)
