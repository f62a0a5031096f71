-- What a server may record next, by its own records alone.
use Rattle.std.specs.Prelude.{◌≡◌, ℕ, ◌+◌, ◌<◌, ◌≤◌, ◌/◌, ◌⊎◌, List, [], ◌∷◌, length, map}
use Rattle.st_words.specs.declared.deployment.TheConstants.{WINDOW}
use Rattle.st_words.specs.declared.value.Value.{Value}
use Rattle.st_words.specs.declared.statement.Item.{Item}
use Rattle.st_words.specs.declared.statement.Statement.{Statement}
use Rattle.st_words.specs.declared.statement.Statement.TheVariants.{Prepare, Proposal, Accept, LocalReport, GlobalReport, LocalUnion, GlobalUnion}
use Rattle.st_message.specs.declared.change.Change.{Change}
use Rattle.st_message.specs.declared.change.Change.TheVariants.{EnterLocal, EnterGlobal, Made, Prepared, Accepted, Union, Executed}
use Rattle.st_counts.specs.Counts.{Has, Distinct}
use Rattle.st_agreement.specs.Records.{made_of, prepared_of, accepted_of, unions_of, view_of, local_of, executed_of}
use Rattle.st_agreement.specs.Sites.{Sites, leader}
use Rattle.st_agreement.specs.Statements.{prepare, proposal, local_union, global_union}

-- ---- items that cover

-- an item of the number, at least as high as this view and local view
pub record Covers (items : List Item) (number view local : ℕ) : Type 0 where
  pub item : Item
  pub among : Has item items
  pub of_number : item.number.0 ≡ number
  pub high : (view < item.view.0) ⊎ ((view ≡ item.view.0) × (local ≤ item.local.0))

-- an item of the number, at least as high as this view
pub record CoversView (items : List Item) (number view : ℕ) : Type 0 where
  pub item : Item
  pub among : Has item items
  pub of_number : item.number.0 ≡ number
  pub high : view ≤ item.view.0

-- A report on a local view covers each Prepare above its base of which a quorum was seen.
pub record ReportsPrepared (local base : ℕ) (items : List Item) (records : List Change) : Type 0 where
  pub entered : local ≡ local_of records
  pub covers : (s g l n : ℕ) (v : Value) → Has (prepare s g l n v) (prepared_of records) → base < n → Covers items n g l

-- A report on a view covers each Proposal above its base of which a certificate was seen.
pub record ReportsAccepted (view base : ℕ) (items : List Item) (records : List Change) : Type 0 where
  pub entered : view ≡ view_of records
  pub covers : (s g l n : ℕ) (v : Value) → Has (proposal s g l n v) (accepted_of records) → base < n → CoversView items n g

-- ---- unions that are held

-- A union of the site for the local view that is held, is usable in the view, and is based below the
-- number.
pub record HeldLocal (s g l n : ℕ) (records : List Change) : Type 0 where
  pub greatest : ℕ
  pub base : ℕ
  pub items : List Item
  pub held : Has (local_union s l greatest base items) (unions_of records)
  pub usable : greatest ≤ g
  pub above : base < n

-- A site's union for a view.
pub record SiteUnion : Type 0 where
  pub site : ℕ
  pub base : ℕ
  pub items : List Item

-- Unions of a majority of sites for the view that are held, and are based below the number.
pub record HeldSites (d : Sites) (g n : ℕ) (records : List Change) : Type 0 where
  pub unions : List SiteUnion
  pub distinct : Distinct (map (λ (u : SiteUnion). u.site) unions)
  pub within : (u : SiteUnion) → Has u unions → u.site < d.sites
  pub many : d.sites / 2 + 1 ≤ length unions
  pub held : (u : SiteUnion) → Has u unions → Has (global_union u.site g u.base u.items) (unions_of records)
  pub above : (u : SiteUnion) → Has u unions → u.base < n

-- ---- the value of a Prepare

-- The local union has the value at the number, in the present view.
pub record ForcedByLocal (s g l n : ℕ) (v : Value) (records : List Change) : Type 0 where
  pub union : HeldLocal s g l n records
  pub item : Item
  pub among : Has item union.items
  pub of_number : item.number.0 ≡ n
  pub of_view : item.view.0 ≡ g
  pub of_value : item.value ≡ v

-- The local union has no value at the number in the present view.
pub record FreeOfLocal (s g l n : ℕ) (records : List Change) : Type 0 where
  pub union : HeldLocal s g l n records
  pub free : (i : Item) → Has i union.items → i.number.0 ≡ n → ¬ (i.view.0 ≡ g)

-- The item of the highest view that the site unions have at the number has the value.
pub record ForcedBySites (n : ℕ) (v : Value) (unions : List SiteUnion) : Type 0 where
  pub union : SiteUnion
  pub among : Has union unions
  pub item : Item
  pub item_among : Has item union.items
  pub of_number : item.number.0 ≡ n
  pub of_value : item.value ≡ v
  pub highest : (u : SiteUnion) (i : Item) → Has u unions → Has i u.items → i.number.0 ≡ n → i.view.0 ≤ item.view.0

-- The site unions have no item at the number.
abbrev pub FreeOfSites : ℕ → List SiteUnion → Type 0
FreeOfSites n unions = (u : SiteUnion) (i : Item) → Has u unions → Has i u.items → ¬ (i.number.0 ≡ n)

-- Where there was a view before, the site unions of the present one force the value or leave it free.
abbrev pub FollowsSites : Sites → ℕ → ℕ → Value → List Change → Type 0
FollowsSites d g n v records =
    (g ≡ 0) ⊎ ((held : HeldSites d g n records) × (ForcedBySites n v held.unions ⊎ FreeOfSites n held.unions))

-- The value may be prepared: the local union forces it, or leaves it to the site unions.
abbrev pub MayStand : Sites → ℕ → ℕ → ℕ → ℕ → Value → List Change → Type 0
MayStand d s g l n v records =
    ForcedByLocal s g l n v records ⊎ (((l ≡ 0) ⊎ FreeOfLocal s g l n records) × FollowsSites d g n v records)

-- ---- what may be made

-- A Prepare: at the leader site, in the present views, the first of its slot, of a value that may stand.
pub record MakesPrepare (d : Sites) (s g l n : ℕ) (v : Value) (records : List Change) : Type 0 where
  pub leads : s ≡ leader d g
  pub view : g ≡ view_of records
  pub local : l ≡ local_of records
  pub first : (u : Value) → ¬ Has (prepare s g l n u) (made_of records)
  pub value : MayStand d s g l n v records

-- A Proposal: in the present views, of a Prepare of which a quorum was seen.
pub record MakesProposal (s g l n : ℕ) (v : Value) (records : List Change) : Type 0 where
  pub view : g ≡ view_of records
  pub local : l ≡ local_of records
  pub prepared : Has (prepare s g l n v) (prepared_of records)

-- An Accept: in the present view, of a Proposal of which a certificate was seen.
pub record MakesAccept (d : Sites) (g n : ℕ) (v : Value) (records : List Change) : Type 0 where
  pub view : g ≡ view_of records
  pub local : ℕ
  pub accepted : Has (proposal (leader d g) g local n v) (accepted_of records)

-- a server of site s may make the statement, after these records
abbrev pub Makes : Sites → ℕ → Statement → List Change → Type 0
Makes d s (Prepare s2 g l n v) records = (s2.0 ≡ s) × MakesPrepare d s g.0 l.0 n.0 v records
Makes d s (Proposal s2 g l n v) records = (s2.0 ≡ s) × MakesProposal s g.0 l.0 n.0 v records
Makes d s (Accept s2 g n v) records = (s2.0 ≡ s) × MakesAccept d g.0 n.0 v records
Makes d s (LocalReport s2 l index g base items) records = (s2.0 ≡ s) × ReportsPrepared l.0 base items records
Makes d s (GlobalReport s2 g index base items) records = (s2.0 ≡ s) × ReportsAccepted g.0 base items records
Makes d s (LocalUnion s2 l greatest base items) records = s2.0 ≡ s
Makes d s (GlobalUnion s2 g base items) records = s2.0 ≡ s
Makes d s _ records = Unit {0}

-- ---- what may be recorded

-- a Prepare of the own site, in the present views, of which a quorum was seen
abbrev pub MayPrepare : ℕ → Statement → List Change → Type 0
MayPrepare s (Prepare s2 g l n v) records = (s2.0 ≡ s) × (g.0 ≡ view_of records) × (l.0 ≡ local_of records) × (n.0 ≤ executed_of records + WINDOW)
MayPrepare s _ records = ⊥

-- a Proposal of the leader site, in the present view, of which a certificate was seen
abbrev pub MayAccept : Sites → Statement → List Change → Type 0
MayAccept d (Proposal s2 g l n v) records = (s2.0 ≡ leader d g.0) × (g.0 ≡ view_of records) × (n.0 ≤ executed_of records + WINDOW)
MayAccept d _ records = ⊥

-- a union of the own site for the present local view, or of a site for the present view
abbrev pub MayHold : Sites → ℕ → Statement → List Change → Type 0
MayHold d s (LocalUnion s2 l greatest base items) records = (s2.0 ≡ s) × (l.0 ≡ local_of records)
MayHold d s (GlobalUnion s2 g base items) records = (s2.0 < d.sites) × (g.0 ≡ view_of records)
MayHold d s _ records = ⊥

-- a server of site s may record the change after these records: views rise, and the rest as above
abbrev pub Allowed : Sites → ℕ → Change → List Change → Type 0
Allowed d s (EnterLocal local quorum) records = local_of records < local.0
Allowed d s (EnterGlobal view sites) records = view_of records < view.0
Allowed d s (Made leaf t) records = Makes d s t records
Allowed d s (Prepared t quorum) records = MayPrepare s t records
Allowed d s (Accepted t quorum) records = MayAccept d t records
Allowed d s (Union t quorum) records = MayHold d s t records
Allowed d s (Executed number proof) records = number.0 ≡ executed_of records + 1

-- each record was allowed by those before it
abbrev pub History : Sites → ℕ → List Change → Type 0
History d s [] = Unit {0}
History d s (c ∷ records) = Allowed d s c records × History d s records
