-- Which deployments and event lines a world over bytes is promised of.
use Rattle.std.specs.Prelude.{ℕ, ◌+◌, ◌*◌, ◌^◌, ◌<◌, ◌≤◌, IsTrue, [], ◌∷◌}
use Rattle.st_words.specs.declared.deployment as words
use Rattle.st_words.specs.declared.deployment.SealKind.TheVariants.{Keyed}
use Rattle.st_words.specs.declared.deployment.ServiceKind.TheVariants as services
use Rattle.st_schedule.specs.declared.line.Line.{Line}
use Rattle.st_schedule.specs.Ranges.{KeepsLine, FitsLine}
use Rattle.st_counts.specs.Counts.{count, numbers_below}
use Rattle.st_hss_seal.specs.Keys.{is_choice}
use Rattle.st_protocol.specs.Words.{a_server}
use Rattle.st_protocol.specs.World.{is_listed}

-- A file's deployment whose numbers are of their widths, whose seals are of a kind that is made, and of whose servers at
-- most f a site are faulty.
pub record IsDeployable (d : words.Deployment.Deployment) : Type 0 where
  pub id : d.id < 2 ^ 64
  pub some : 0 < d.sites
  pub sites : d.sites < 2 ^ 8
  pub servers : 3 * d.f + 1 < 2 ^ 8
  pub seals : IsTrue (is_choice d.seals)
  pub few_faulty : (s : ℕ) → s < d.sites → count (is_listed d.faulty s) (numbers_below (3 * d.f + 1)) ≤ d.f

-- a line of the grammar, within its ranges and with numbers and bytes of their widths
abbrev pub IsLine : Line → Type 0
IsLine line = KeepsLine line × FitsLine line

-- Three sites of four servers each, at two of which one is faulty.
abbrev pub three_sites : words.Deployment.Deployment
three_sites =
    record {
      id = 1;
      sites = 3;
      f = 1;
      clients = 2;
      service = services.List;
      seals = Keyed;
      seed = [];
      faulty = a_server 0 0 ∷ a_server 1 3 ∷ [];
      port = 47000;
    }
