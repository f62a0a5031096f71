-- The scheme that the seals of HSS keys are of.
use Rattle.st_words.specs.declared.deployment.SealKind.TheVariants.{Hss}
use Rattle.st_hss_seal.specs.declared.scheme.HssScheme.{HssScheme}
use Rattle.st_seal.specs.Scheme.{Scheme}

-- the deployment's parties, choices and seed
abbrev pub scheme_of_hss : HssScheme → Scheme
scheme_of_hss s = record { sites = s.sites; f = s.f; clients = s.clients; kind = Hss s.height s.width s.levels; seed = s.seed }
