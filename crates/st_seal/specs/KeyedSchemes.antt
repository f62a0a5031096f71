-- The scheme that keyed seals and a keyed sealer are of.
use Rattle.st_words.specs.declared.deployment.SealKind.TheVariants.{Keyed}
use Rattle.st_seal.specs.declared.keyed.KeyedSeals.{KeyedSeals}
use Rattle.st_seal.specs.Scheme.{Scheme}

-- the deployment's parties and seed, with keyed seals
abbrev pub keyed_scheme : KeyedSeals → Scheme
keyed_scheme s = record { sites = s.sites; f = s.f; clients = s.clients; kind = Keyed; seed = s.seed }
