-- What the seals of a deployment depend on: its parties, and the keys that its seed gives.
use Rattle.std.specs.Prelude.{ℕ, ◌+◌, ◌*◌, List, Bool, ◌&&◌, nat_lt}
use Rattle.st_words.specs.declared.ids.Who.{Who}
use Rattle.st_words.specs.declared.ids.Who.TheVariants.{Server, Client}
use Rattle.st_words.specs.declared.deployment.Deployment.{Deployment}
use Rattle.st_words.specs.declared.deployment.SealKind.{SealKind}

-- the part of a deployment that its seals are made of
pub record Scheme : Type 0 where
  pub sites : ℕ
  pub f : ℕ
  pub clients : ℕ
  pub kind : SealKind
  pub seed : List ℕ

-- a deployment's scheme
abbrev pub scheme_of : Deployment → Scheme
scheme_of d = record { sites = d.sites; f = d.f; clients = d.clients; kind = d.seals; seed = d.seed }

-- whether a party is of the deployment: one of the 3f+1 servers of one of its sites, or one of its clients
abbrev pub is_party : Scheme → Who → Bool
is_party s (Server server) = nat_lt server.site s.sites && nat_lt server.index (3 * s.f + 1)
is_party s (Client client) = nat_lt client.0 s.clients
