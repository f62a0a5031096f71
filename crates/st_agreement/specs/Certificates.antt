-- Quorums of honest seals, without the seals.
use Rattle.std.specs.Prelude.{ℕ, ◌+◌, ◌*◌, ◌/◌, ◌<◌, ◌≤◌, Bool, IsTrue, List, length}
use Rattle.st_words.specs.declared.value.Value.{Value}
use Rattle.st_counts.specs.Counts.{Has, Distinct}
use Rattle.st_agreement.specs.Sites.{Sites}
use Rattle.st_agreement.specs.Statements.{is_accept}
use Rattle.st_agreement.specs.Worlds.{World, stands}

-- A quorum of a site's servers signed: at least 2f+1 distinct ones, of which the correct ones did what a correct
-- server does before it signs.
pub record IsQuorum (faults : ℕ) (servers : List ℕ) (is_correct : ℕ → Bool) (Did : ℕ → Type 0) (signers : List ℕ) : Type 0 where
  pub distinct : Distinct signers
  pub within : (k : ℕ) → Has k signers → Has k servers
  pub many : 2 * faults + 1 ≤ length signers
  pub honest : (k : ℕ) → Has k signers → IsTrue (is_correct k) → Did k

-- A majority of distinct sites, at each of which the Accept stands.
pub record IsOrdered (d : Sites) (w : World) (n g : ℕ) (v : Value) (named : List ℕ) : Type 0 where
  pub distinct : Distinct named
  pub within : (s : ℕ) → Has s named → s < d.sites
  pub many : d.sites / 2 + 1 ≤ length named
  pub accepted : (s : ℕ) → Has s named → IsTrue (stands d w s (is_accept s g n v))
