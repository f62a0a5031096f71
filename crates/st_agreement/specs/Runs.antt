-- Worlds that runs of mini-steps reach, and changes that wait to be recorded.
use Rattle.std.specs.Prelude.{◌≡◌, ℕ, ◌+◌, ◌*◌, ◌<◌, ◌≤◌, not, Bool, List, [], ◌∷◌, length, filter}
use Rattle.st_message.specs.declared.change.Change.{Change}
use Rattle.st_counts.specs.Counts.{Has, count}
use Rattle.st_registers.specs.Steps.{IsRun}
use Rattle.st_agreement.specs.MiniSteps.{MiniStep, Backed, with_record, first}
use Rattle.st_agreement.specs.Rules.{Allowed}
use Rattle.st_agreement.specs.Sites.{Sites}
use Rattle.st_agreement.specs.Worlds.{World}

-- the world is one of a run from where nothing has happened
pub record Reached (d : Sites) (w : World) : Type 0 where
  pub worlds : List World
  pub run : IsRun (MiniStep d) first worlds
  pub among : Has w (first ∷ worlds)

-- Sites of 3f+1 servers each, of which at most f are faulty.
pub record HasServers (sites : ℕ) (faults : ℕ → ℕ) (servers : ℕ → List ℕ) (is_correct : ℕ → ℕ → Bool) : Type 0 where
  pub some : 0 < sites
  pub many : (s : ℕ) → s < sites → length (servers s) ≡ 3 * faults s + 1
  pub few_faulty : (s : ℕ) → s < sites → count (λ k. not (is_correct s k)) (servers s) ≤ faults s

-- of which only the correct ones matter
abbrev pub sites_of : (sites : ℕ) (faults : ℕ → ℕ) (servers : ℕ → List ℕ) (is_correct : ℕ → ℕ → Bool) → Sites
sites_of sites faults servers is_correct =
    record { sites = sites; faults = faults; correct = λ s. filter (is_correct s) (servers s) }

-- a server of site s may record the changes after these records, one after the other
abbrev pub MayRecord : Sites → World → ℕ → List Change → List Change → Type 0
MayRecord d w s records [] = Unit {0}
MayRecord d w s records (c ∷ cs) = Allowed d s c records × (Backed d w s c × MayRecord d w s (c ∷ records) cs)

-- the worlds in which server k of site s has recorded them
abbrev pub recordings : World → ℕ → ℕ → List Change → List World
recordings w s k [] = []
recordings w s k (c ∷ cs) = with_record w s k c ∷ recordings (with_record w s k c) s k cs
