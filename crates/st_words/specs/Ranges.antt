-- The ranges of fields. What a format asks (Keeps) stands apart from what every value of the code's
-- types meets (Fits), so that a caller of a writer owes only the first.
use Rattle.std.specs.Prelude.{ℕ, ◌+◌, ◌-◌, ◌^◌, ◌<◌, ◌≤◌, true, false, IsTrue, Option, Some, None, List, length, All}
use Rattle.std.specs.Int.{IsInRange}
use Rattle.st_fields.specs.Spelling.{KeepsEach}
use Rattle.st_words.specs.declared.value.Update.{Update}
use Rattle.st_words.specs.declared.value.Value.{Value}
use Rattle.st_words.specs.declared.value.Value.TheVariants as values
use Rattle.st_words.specs.declared.statement.Item.{Item}
use Rattle.st_words.specs.declared.statement.Statement.{Statement}
use Rattle.st_words.specs.declared.statement.Statement.TheVariants.{Prepare, Proposal, Accept, LocalVc, GlobalVc, LocalReport, GlobalReport, LocalUnion, GlobalUnion, Reply, ClientUpdate}
use Rattle.st_words.specs.declared.limits.ItemLimits.{ItemLimits}
use Rattle.st_words.specs.declared.limits.ReportBounds.{ReportBounds}

-- how many bytes an operation, or a result, has at most
abbrev pub most_text : ℕ
most_text = 1024

-- how many items stand together at most, and so how far a number is above its base
abbrev pub most_items : ℕ
most_items = 16

-- the greatest base: every number above it that an item may have is one of four bytes
abbrev pub most_base : ℕ
most_base = 2 ^ 32 - 17

-- ---- what the formats ask

-- a client counts its updates from 1
abbrev pub KeepsUpdate : Update → Type 0
KeepsUpdate u = (1 ≤ u.time) × (length u.op ≤ most_text)

-- a value that keeps its ranges
abbrev pub KeepsValue : Value → Type 0
KeepsValue values.Noop = Unit {0}
KeepsValue (values.Update u) = KeepsUpdate u

-- at most a limit, where there is one
abbrev pub KeepsLimit : Option ℕ → ℕ → Type 0
KeepsLimit None n = Unit {0}
KeepsLimit (Some most) n = n ≤ most

-- an item within the limits that its list, and the items before it, set
abbrev pub KeepsItem : ItemLimits → Item → Type 0
KeepsItem limits i = (limits.after < i.number.0) × (i.number.0 ≤ limits.most) × (i.view.0 ≤ limits.most_view) × KeepsLimit limits.most_local i.local.0 × KeepsValue i.value

-- the numbers of items rise
abbrev pub after_item : ItemLimits → Item → ItemLimits
after_item limits i = record limits { after = i.number.0 }

-- items whose numbers rise, the first within the limits
abbrev pub KeepsItems : ItemLimits → List Item → Type 0
KeepsItems limits items = (length items ≤ most_items) × KeepsEach KeepsItem after_item limits items

-- the limits of a list's first item, above this base
abbrev pub limits_above : ℕ → ℕ → Option ℕ → ItemLimits
limits_above base most_view most_local = record { after = base; most = base + most_items; most_view = most_view; most_local = most_local }

-- what a party says: an item of a local report or union is of no later view, one of a local report
-- of an earlier local view too, and one of a global report or union is of an earlier view
abbrev pub KeepsStatement : Statement → Type 0
KeepsStatement (Prepare site view local n v) = (1 ≤ n.0) × KeepsValue v
KeepsStatement (Proposal site view local n v) = (1 ≤ n.0) × KeepsValue v
KeepsStatement (Accept site view n v) = (1 ≤ n.0) × KeepsValue v
KeepsStatement (LocalVc site local) = 1 ≤ local.0
KeepsStatement (GlobalVc site view) = 1 ≤ view.0
KeepsStatement (LocalReport site local index view base items) = (1 ≤ local.0) × (base ≤ most_base) × KeepsItems (limits_above base view.0 (Some (local.0 - 1))) items
KeepsStatement (GlobalReport site view index base items) = (1 ≤ view.0) × (base ≤ most_base) × KeepsItems (limits_above base (view.0 - 1) None) items
KeepsStatement (LocalUnion site local greatest base items) = (1 ≤ local.0) × (base ≤ most_base) × KeepsItems (limits_above base greatest.0 None) items
KeepsStatement (GlobalUnion site view base items) = (1 ≤ view.0) × (base ≤ most_base) × KeepsItems (limits_above base (view.0 - 1) None) items
KeepsStatement (Reply site client time n outcome) = (1 ≤ time) × (1 ≤ n.0) × (length outcome ≤ most_text)
KeepsStatement (ClientUpdate update) = KeepsUpdate update

-- a report that may stand within the bounds
abbrev pub KeepsBounds : ReportBounds → Statement → Type 0
KeepsBounds b (LocalReport site local index view base items) = IsTrue b.local × IsInRange b.least_site b.most_site site.0 × (b.after_view < local.0) × (local.0 ≤ b.most_view) × (b.least_index ≤ index)
KeepsBounds b (GlobalReport site view index base items) = IsTrue b.global × IsInRange b.least_site b.most_site site.0 × (b.after_view < view.0) × (view.0 ≤ b.most_view) × (b.least_index ≤ index)
KeepsBounds b _ = ⊥

-- what may stand behind a report in one list: its kind, its site and its view again, and a later index
abbrev pub after_report : ReportBounds → Statement → ReportBounds
after_report b (LocalReport site local index view base items) = record { local = true; global = false; least_site = site.0; most_site = site.0; after_view = local.0 - 1; most_view = local.0; least_index = index + 1 }
after_report b (GlobalReport site view index base items) = record { local = false; global = true; least_site = site.0; most_site = site.0; after_view = view.0 - 1; most_view = view.0; least_index = index + 1 }
after_report b _ = b

-- ---- what the code's types keep

-- an update's numbers are of their widths
abbrev pub FitsUpdate : Update → Type 0
FitsUpdate u = (u.client.0 < 2 ^ 8) × (u.time < 2 ^ 32)

-- a value's numbers are of their widths
abbrev pub FitsValue : Value → Type 0
FitsValue values.Noop = Unit {0}
FitsValue (values.Update u) = FitsUpdate u

-- an item's numbers are of their widths
abbrev pub FitsItem : Item → Type 0
FitsItem i = (i.number.0 < 2 ^ 32) × (i.view.0 < 2 ^ 32) × (i.local.0 < 2 ^ 32) × FitsValue i.value

-- a statement's numbers are of their widths
abbrev pub FitsStatement : Statement → Type 0
FitsStatement (Prepare site view local n v) = (site.0 < 2 ^ 8) × (view.0 < 2 ^ 32) × (local.0 < 2 ^ 32) × (n.0 < 2 ^ 32) × FitsValue v
FitsStatement (Proposal site view local n v) = (site.0 < 2 ^ 8) × (view.0 < 2 ^ 32) × (local.0 < 2 ^ 32) × (n.0 < 2 ^ 32) × FitsValue v
FitsStatement (Accept site view n v) = (site.0 < 2 ^ 8) × (view.0 < 2 ^ 32) × (n.0 < 2 ^ 32) × FitsValue v
FitsStatement (LocalVc site local) = (site.0 < 2 ^ 8) × (local.0 < 2 ^ 32)
FitsStatement (GlobalVc site view) = (site.0 < 2 ^ 8) × (view.0 < 2 ^ 32)
FitsStatement (LocalReport site local index view base items) = (site.0 < 2 ^ 8) × (local.0 < 2 ^ 32) × (index < 2 ^ 8) × (view.0 < 2 ^ 32) × (base < 2 ^ 32) × All FitsItem items
FitsStatement (GlobalReport site view index base items) = (site.0 < 2 ^ 8) × (view.0 < 2 ^ 32) × (index < 2 ^ 8) × (base < 2 ^ 32) × All FitsItem items
FitsStatement (LocalUnion site local greatest base items) = (site.0 < 2 ^ 8) × (local.0 < 2 ^ 32) × (greatest.0 < 2 ^ 32) × (base < 2 ^ 32) × All FitsItem items
FitsStatement (GlobalUnion site view base items) = (site.0 < 2 ^ 8) × (view.0 < 2 ^ 32) × (base < 2 ^ 32) × All FitsItem items
FitsStatement (Reply site client time n outcome) = (site.0 < 2 ^ 8) × (client.0 < 2 ^ 8) × (time < 2 ^ 32) × (n.0 < 2 ^ 32)
FitsStatement (ClientUpdate update) = FitsUpdate update
