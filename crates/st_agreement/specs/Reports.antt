-- Bundles of reports, and their unions.
use Rattle.std.specs.Prelude.{◌≡◌, ℕ, ◌<◌, ◌≤◌, ◌==◌, IsTrue, List}
use Rattle.std.specs.List.{list_any}
use Rattle.st_words.specs.declared.statement.Item.{Item}
use Rattle.st_words.specs.declared.statement.Statement.{Statement}
use Rattle.st_words.specs.declared.statement.Statement.TheVariants.{LocalReport, GlobalReport}
use Rattle.st_counts.specs.Counts.{Has, AllBut}
use Rattle.st_agreement.specs.Records.{made_of}
use Rattle.st_agreement.specs.Rules.{Covers}
use Rattle.st_agreement.specs.Sites.{Sites, leader}
use Rattle.st_agreement.specs.Statements.{is_prepare, is_proposal}
use Rattle.st_agreement.specs.Worlds.{World, stands}

-- A server's report on entering a local view, or a view; the latter has no view of its own.
pub record Report : Type 0 where
  pub server : ℕ
  pub view : ℕ
  pub base : ℕ
  pub items : List Item

-- the statement that a report on a local view is
abbrev pub local_report : (site local : ℕ) → Report → Statement
local_report s l r = LocalReport (record { 0 = s }) (record { 0 = l }) r.server (record { 0 = r.view }) r.base r.items

-- the statement that a report on a view is
abbrev pub global_report : (site view : ℕ) → Report → Statement
global_report s g r = GlobalReport (record { 0 = s }) (record { 0 = g }) r.server r.base r.items

-- The union of reports: based as the highest of them; of each number above that, one item, as high as each
-- that a report has.
pub record IsUnion (reports : List Report) (base : ℕ) (items : List Item) : Type 0 where
  pub based : (r : Report) → Has r reports → r.base ≤ base
  pub each : (i : Item) → Has i items → (r : Report) × (Has r reports × Has i r.items)
  pub covers : (r : Report) (i : Item) → Has r reports → Has i r.items → base < i.number.0 → Covers items i.number.0 i.view.0 i.local.0
  pub one : (i j : Item) → Has i items → Has j items → i.number.0 ≡ j.number.0 → i ≡ j

-- Reports on a local view, of all but as many correct servers as may be faulty: those of correct servers
-- were made, and each item has a Prepare that stands.
pub record IsLocalBundle (d : Sites) (w : World) (s local : ℕ) (reports : List Report) : Type 0 where
  pub many : AllBut (d.faults s) (d.correct s) (λ k. list_any (λ r. r.server == k) reports)
  pub made : (r : Report) → Has r reports → Has r.server (d.correct s) → Has (local_report s local r) (made_of (w.records s r.server))
  pub bounded : (r : Report) (i : Item) → Has r reports → Has i r.items → i.view.0 ≤ r.view
  pub backed : (r : Report) (i : Item) → Has r reports → Has i r.items → IsTrue (stands d w s (is_prepare s i.view.0 i.local.0 i.number.0 i.value))

-- Reports on a view, likewise: each item has a Proposal that stands.
pub record IsGlobalBundle (d : Sites) (w : World) (s view : ℕ) (reports : List Report) : Type 0 where
  pub many : AllBut (d.faults s) (d.correct s) (λ k. list_any (λ r. r.server == k) reports)
  pub made : (r : Report) → Has r reports → Has r.server (d.correct s) → Has (global_report s view r) (made_of (w.records s r.server))
  pub backed : (r : Report) (i : Item) → Has r reports → Has i r.items → IsTrue (stands d w (leader d i.view.0) (is_proposal (leader d i.view.0) i.view.0 i.local.0 i.number.0 i.value))
