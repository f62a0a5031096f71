-- What is known of a deployment that is taken.
use Rattle.std.specs.Prelude.{◌≡◌, ◌<◌, ◌≤◌, ◌^◌, IsTrue, [], length}
use Rattle.st_config.specs.declared.header.Counts.{Counts}
use Rattle.st_words.specs.declared.deployment.Deployment.{Deployment}
use Rattle.st_words.specs.declared.deployment.ServiceKind.TheVariants as services
use Rattle.st_hss_seal.specs.Keys.{is_choice}

-- Numbers that are taken today.
pub record AreTaken (counts : Counts) : Type 0 where
  pub id : counts.id < 2 ^ 63
  pub sites : counts.sites ≡ 1
  pub f : counts.f ≡ 0
  pub clients : counts.clients ≤ 64

-- A deployment that is taken today: one site of one correct server, seals that are made, and the list service.
pub record IsTaken (d : Deployment) : Type 0 where
  pub id : d.id < 2 ^ 63
  pub sites : d.sites ≡ 1
  pub f : d.f ≡ 0
  pub clients : d.clients ≤ 64
  pub service : d.service ≡ services.List
  pub seals : IsTrue (is_choice d.seals)
  pub seed : length d.seed ≡ 32
  pub faulty : d.faulty ≡ []
  pub port : d.port ≡ 47000
