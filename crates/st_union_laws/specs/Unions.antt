-- What a server has recorded that it made, the items that cover it, and the reports behind a union.
use Rattle.std.specs.Prelude.{◌≡◌, ℕ, ◌+◌, ◌*◌, ◌<◌, ◌≤◌, ◌⊎◌, ◌&&◌, Bool, true, nat_eq, Some, List, length, map}
use Rattle.std.specs.List.{AllByRecursion as Each, list_any}
use Rattle.st_words.specs.declared.statement.Item.{Item}
use Rattle.st_words.specs.declared.statement.Statement.{Statement}
use Rattle.st_message.specs.declared.change.Change.{Change}
use Rattle.st_message.specs.declared.change.Change.TheVariants.{Made}
use Rattle.st_message.specs.declared.made.MadeSeal.{MadeSeal}
use Rattle.st_message.specs.declared.message.ReportBody.{ReportBody}
use Rattle.st_counts.specs.Counts.{Has, Distinct, AllBut}
use Rattle.st_protocol.specs.Words.{server_at, site_of, index_of}
use Rattle.st_protocol.specs.Keeping.{joined}
use Rattle.st_protocol.specs.State.{Term, Backed, Answers, report_of}
use Rattle.st_protocol.specs.Collecting.{union}
use Rattle.st_protocol.specs.World.{Deployment, World, has_made}
use Rattle.st_answer_laws.specs.Plain.{sites_in}

-- ---- what was made

-- these records have it that the statement was made
abbrev pub AreMaking : List (List Change) → Statement → Type 0
AreMaking bodies t = (leaf : ℕ) × Has (Made leaf t) (joined bodies)

-- a server's records in this world have it
abbrev pub HasRecorded : {Wire : Type 0} → World Wire → ℕ → ℕ → Statement → Type 0
HasRecorded world site index t = AreMaking (world.nodes site index).bodies t

-- ---- items that cover it

-- the second view and local view are as high as the first, or higher
abbrev pub IsAsHigh : (view local view2 local2 : ℕ) → Type 0
IsAsHigh view local view2 local2 = (view < view2) ⊎ ((view ≡ view2) × (local ≤ local2))

-- the number was executed, or an accepted item is kept there, of the view or a higher one
abbrev pub KeepsAccept : Answers → (view number : ℕ) → Type 0
KeepsAccept state view number =
    (number ≤ state.here.executed) ⊎ ((kept : Backed) × ((state.slots.accepted number ≡ Some kept) × (view ≤ kept.view)))

-- the number was executed, or a prepared item is kept there, of the view and local view or a higher place
abbrev pub KeepsProposal : Answers → (view local number : ℕ) → Type 0
KeepsProposal state view local number =
    (number ≤ state.here.executed) ⊎ ((kept : Backed) × ((state.slots.prepared number ≡ Some kept) × IsAsHigh view local kept.view kept.local))

-- the number is not above the base, or an item is there of the view or a higher one
abbrev pub ReportsAccept : (base : ℕ) → List Item → (view number : ℕ) → Type 0
ReportsAccept base items view number =
    (number ≤ base) ⊎ ((item : Item) × (Has item items × ((item.number.0 ≡ number) × (view ≤ item.view.0))))

-- the number is not above the base, or an item is there of the view and local view or a higher place
abbrev pub ReportsProposal : (base : ℕ) → List Item → (view local number : ℕ) → Type 0
ReportsProposal base items view local number =
    (number ≤ base) ⊎ ((item : Item) × (Has item items × ((item.number.0 ≡ number) × IsAsHigh view local item.view.0 item.local.0)))

-- ---- the reports behind a union

-- one of these reports is this server's, and the server has handed it out
abbrev pub has_reported : List MadeSeal → ℕ → List ReportBody → ℕ → Bool
has_reported made site reports index =
    list_any (λ (r : ReportBody). nat_eq (index_of r.statement) index && has_made made (server_at site index) r.statement) reports

module _ {Wire : Type 0} (d : Deployment Wire) where
  -- A report of a server of the site, on this local view or view, with its seal.
  pub record IsReportOf (site : ℕ) (term : Term) (r : ReportBody) : Type 0 where
    pub of_term : report_of r.statement ≡ Some term
    pub of_site : site_of r.statement ≡ site
    pub of_server : index_of r.statement < 3 * d.f + 1
    pub checks : d.formats.holds (server_at site (index_of r.statement)) r.statement r.seal ≡ true

  -- 2f+1 such reports of distinct servers.
  pub record AreReports (site : ℕ) (term : Term) (reports : List ReportBody) : Type 0 where
    pub many : length reports ≡ 2 * d.f + 1
    pub distinct : Distinct (map (λ (r : ReportBody). index_of r.statement) reports)
    pub each : Each (IsReportOf site term) reports

  -- The statement is the union of 2f+1 such reports, and all but at most f of the site's correct servers have handed out
  -- one of these.
  pub record IsOfReports (made : List MadeSeal) (site : ℕ) (term : Term) (t : Statement) : Type 0 where
    pub reports : List ReportBody
    pub are : AreReports site term reports
    pub unites : t ≡ union reports
    pub handed : AllBut d.f ((sites_in d).correct site) (has_reported made site reports)
