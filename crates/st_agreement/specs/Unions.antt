-- What unions hold of the records of the servers that reported.
use Rattle.std.specs.Prelude.{◌≡◌, ℕ, ◌<◌, ◌≤◌, Bool, IsTrue, List}
use Rattle.st_words.specs.declared.value.Value.{Value}
use Rattle.st_words.specs.declared.statement.Item.{Item}
use Rattle.st_counts.specs.Counts.{Has, AllBut}
use Rattle.st_agreement.specs.Records.{made_of, view_of, local_of}
use Rattle.st_agreement.specs.Rules.{Covers, CoversView}
use Rattle.st_agreement.specs.Sites.{Sites, leader}
use Rattle.st_agreement.specs.Statements.{proposal, accept, is_prepare, is_proposal}
use Rattle.st_agreement.specs.Worlds.{World, stands}

-- A union of a site for a local view: all but as many correct servers as may be faulty have entered the
-- local view, and each Proposal above the base that they made in a lower one is covered. Each item is of
-- a Prepare that stands, and there is one for a number.
pub record IsLocalUnion (d : Sites) (w : World) (s local greatest base : ℕ) (items : List Item) : Type 0 where
  pub reports : ℕ → Bool
  pub many : AllBut (d.faults s) (d.correct s) reports
  pub entered : (k : ℕ) → Has k (d.correct s) → IsTrue (reports k) → local ≤ local_of (w.records s k)
  pub covers : (k : ℕ) → Has k (d.correct s) → IsTrue (reports k) → (g l n : ℕ) (v : Value) → Has (proposal s g l n v) (made_of (w.records s k)) → l < local → base < n → Covers items n g l
  pub bounded : (i : Item) → Has i items → i.view.0 ≤ greatest
  pub backed : (i : Item) → Has i items → IsTrue (stands d w s (is_prepare s i.view.0 i.local.0 i.number.0 i.value))
  pub one : (i j : Item) → Has i items → Has j items → i.number.0 ≡ j.number.0 → i ≡ j

-- A union of a site for a view: all but as many correct servers as may be faulty have entered the view,
-- and each Accept above the base that they made in a lower one is covered. Each item is of a Proposal
-- that stands at the site that leads its view, and there is one for a number.
pub record IsGlobalUnion (d : Sites) (w : World) (s view base : ℕ) (items : List Item) : Type 0 where
  pub reports : ℕ → Bool
  pub many : AllBut (d.faults s) (d.correct s) reports
  pub entered : (k : ℕ) → Has k (d.correct s) → IsTrue (reports k) → view ≤ view_of (w.records s k)
  pub covers : (k : ℕ) → Has k (d.correct s) → IsTrue (reports k) → (g n : ℕ) (v : Value) → Has (accept s g n v) (made_of (w.records s k)) → g < view → base < n → CoversView items n g
  pub backed : (i : Item) → Has i items → IsTrue (stands d w (leader d i.view.0) (is_proposal (leader d i.view.0) i.view.0 i.local.0 i.number.0 i.value))
  pub one : (i j : Item) → Has i items → Has j items → i.number.0 ≡ j.number.0 → i ≡ j
