-- The sites of a deployment, of which only this matters: how many there are, and who is correct.
use Rattle.std.specs.Prelude.{ℕ, ◌*◌, ◌<◌, ◌%◌, List, length}

-- The sites: how many, how many servers of each may be faulty, and which are correct.
pub record Sites : Type 0 where
  pub sites : ℕ
  pub faults : ℕ → ℕ
  pub correct : ℕ → List ℕ

-- There is a site, and in each more than half of the correct servers are left where as many as may be
-- faulty are taken away.
pub record AreSites (d : Sites) : Type 0 where
  pub some : 0 < d.sites
  pub most : (s : ℕ) → s < d.sites → 2 * d.faults s < length (d.correct s)

-- the site that leads a view
abbrev pub leader : Sites → ℕ → ℕ
leader d view = view % d.sites
