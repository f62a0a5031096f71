-- Reading updates, values, items and statements from left to right, with the first fault.
use Rattle.std.specs.Prelude.{ℕ, ◌-◌, ◌^◌, Option, Some, None, true, ◌&&◌, List, [], ◌∷◌, length, Ok, Err, ◌==◌, if◌then◌else◌}
use Rattle.std.specs.Int.{w32, w64}
use Rattle.st_fields.specs.Spelling.{byte}
use Rattle.st_fields.specs.Reading.{Read, ◌>>=◌, byte_at, number_at, byte_in, number_in, number_above, positive_at, kind_at, text_at, mark_at, counted_at}
use Rattle.st_words.specs.declared.value.Update.{Update}
use Rattle.st_words.specs.declared.value.Value.{Value}
use Rattle.st_words.specs.declared.value.Value.TheVariants as values
use Rattle.st_words.specs.declared.statement.Item.{Item}
use Rattle.st_words.specs.declared.statement.Statement.{Statement}
use Rattle.st_words.specs.declared.statement.Statement.TheVariants.{Prepare, Proposal, Accept, LocalVc, GlobalVc, LocalReport, GlobalReport, LocalUnion, GlobalUnion, Reply, ClientUpdate}
use Rattle.st_words.specs.declared.kind.StatementKind.{StatementKind}
use Rattle.st_words.specs.declared.kind.StatementKind.TheVariants as kinds
use Rattle.st_words.specs.declared.limits.ItemLimits.{ItemLimits}
use Rattle.st_words.specs.declared.limits.ReportBounds.{ReportBounds}
use Rattle.st_words.specs.Kind.{kind_number}
use Rattle.st_words.specs.Ranges.{most_text, most_items, most_base, after_item, limits_above}
use Rattle.st_words.specs.Spelling.{statement_mark}

-- an update's fields
unfoldable pub update_fields_at : List ℕ → Read Update
update_fields_at bytes =
    byte_at bytes >>= λ client rest.
    positive_at rest >>= λ time rest.
    text_at 0 most_text rest >>= λ op rest.
    Ok (record { client = record { 0 = client }; time = time; op = op }, rest)

-- a value that is an update
unfoldable pub update_at : List ℕ → Read Update
update_at bytes = mark_at (byte 1) bytes >>= λ _ rest. update_fields_at rest

-- a value
unfoldable pub value_at : List ℕ → Read Value
value_at bytes =
    byte_in 0 1 bytes >>= λ mark rest.
    if mark == 0 then Ok (values.Noop, rest) else
    update_fields_at rest >>= λ u rest.
    Ok (values.Update u, rest)

-- a number of four bytes, at most a limit where there is one
unfoldable pub limited_at : Option ℕ → List ℕ → Read ℕ
limited_at None = number_at w32
limited_at (Some most) = number_in w32 0 most

-- an item within the limits
unfoldable pub item_at : ItemLimits → List ℕ → Read Item
item_at limits bytes =
    number_above w32 limits.after limits.most bytes >>= λ n rest.
    number_in w32 0 limits.most_view rest >>= λ view rest.
    limited_at limits.most_local rest >>= λ local rest.
    value_at rest >>= λ v rest.
    Ok (record { number = record { 0 = n }; view = record { 0 = view }; local = record { 0 = local }; value = v }, rest)

-- items behind their number, the first within the limits, and their numbers rising
unfoldable pub items_at : ItemLimits → List ℕ → Read (List Item)
items_at limits = counted_at 0 most_items item_at after_item limits

-- ---- the fields behind each kind

-- a Prepare's fields
unfoldable pub prepare_at : List ℕ → Read Statement
prepare_at bytes =
    byte_at bytes >>= λ site rest.
    number_at w32 rest >>= λ view rest.
    number_at w32 rest >>= λ local rest.
    positive_at rest >>= λ n rest.
    value_at rest >>= λ v rest.
    Ok (Prepare (record { 0 = site }) (record { 0 = view }) (record { 0 = local }) (record { 0 = n }) v, rest)

-- a Proposal's fields
unfoldable pub proposal_at : List ℕ → Read Statement
proposal_at bytes =
    byte_at bytes >>= λ site rest.
    number_at w32 rest >>= λ view rest.
    number_at w32 rest >>= λ local rest.
    positive_at rest >>= λ n rest.
    value_at rest >>= λ v rest.
    Ok (Proposal (record { 0 = site }) (record { 0 = view }) (record { 0 = local }) (record { 0 = n }) v, rest)

-- an Accept's fields
unfoldable pub accept_at : List ℕ → Read Statement
accept_at bytes =
    byte_at bytes >>= λ site rest.
    number_at w32 rest >>= λ view rest.
    positive_at rest >>= λ n rest.
    value_at rest >>= λ v rest.
    Ok (Accept (record { 0 = site }) (record { 0 = view }) (record { 0 = n }) v, rest)

-- a LocalVc's fields
unfoldable pub local_vc_at : List ℕ → Read Statement
local_vc_at bytes =
    byte_at bytes >>= λ site rest.
    positive_at rest >>= λ local rest.
    Ok (LocalVc (record { 0 = site }) (record { 0 = local }), rest)

-- a GlobalVc's fields
unfoldable pub global_vc_at : List ℕ → Read Statement
global_vc_at bytes =
    byte_at bytes >>= λ site rest.
    positive_at rest >>= λ view rest.
    Ok (GlobalVc (record { 0 = site }) (record { 0 = view }), rest)

-- the fields of a LocalReport that may stand within the bounds
unfoldable pub local_report_at : ReportBounds → List ℕ → Read Statement
local_report_at bounds bytes =
    byte_in bounds.least_site bounds.most_site bytes >>= λ site rest.
    number_above w32 bounds.after_view bounds.most_view rest >>= λ local rest.
    byte_in bounds.least_index 255 rest >>= λ index rest.
    number_at w32 rest >>= λ view rest.
    number_in w32 0 most_base rest >>= λ base rest.
    items_at (limits_above base view (Some (local - 1))) rest >>= λ items rest.
    Ok (LocalReport (record { 0 = site }) (record { 0 = local }) index (record { 0 = view }) base items, rest)

-- the fields of a GlobalReport that may stand within the bounds
unfoldable pub global_report_at : ReportBounds → List ℕ → Read Statement
global_report_at bounds bytes =
    byte_in bounds.least_site bounds.most_site bytes >>= λ site rest.
    number_above w32 bounds.after_view bounds.most_view rest >>= λ view rest.
    byte_in bounds.least_index 255 rest >>= λ index rest.
    number_in w32 0 most_base rest >>= λ base rest.
    items_at (limits_above base (view - 1) None) rest >>= λ items rest.
    Ok (GlobalReport (record { 0 = site }) (record { 0 = view }) index base items, rest)

-- a LocalUnion's fields
unfoldable pub local_union_at : List ℕ → Read Statement
local_union_at bytes =
    byte_at bytes >>= λ site rest.
    positive_at rest >>= λ local rest.
    number_at w32 rest >>= λ greatest rest.
    number_in w32 0 most_base rest >>= λ base rest.
    items_at (limits_above base greatest None) rest >>= λ items rest.
    Ok (LocalUnion (record { 0 = site }) (record { 0 = local }) (record { 0 = greatest }) base items, rest)

-- a GlobalUnion's fields
unfoldable pub global_union_at : List ℕ → Read Statement
global_union_at bytes =
    byte_at bytes >>= λ site rest.
    positive_at rest >>= λ view rest.
    number_in w32 0 most_base rest >>= λ base rest.
    items_at (limits_above base (view - 1) None) rest >>= λ items rest.
    Ok (GlobalUnion (record { 0 = site }) (record { 0 = view }) base items, rest)

-- a Reply's fields
unfoldable pub reply_at : List ℕ → Read Statement
reply_at bytes =
    byte_at bytes >>= λ site rest.
    byte_at rest >>= λ client rest.
    positive_at rest >>= λ time rest.
    positive_at rest >>= λ n rest.
    text_at 0 most_text rest >>= λ outcome rest.
    Ok (Reply (record { 0 = site }) (record { 0 = client }) time (record { 0 = n }) outcome, rest)

-- a ClientUpdate's fields
unfoldable pub client_update_at : List ℕ → Read Statement
client_update_at bytes =
    mark_at (byte 255) bytes >>= λ _ rest.
    update_at rest >>= λ update rest.
    Ok (ClientUpdate update, rest)

-- ---- statements

-- every report
abbrev pub any_report : ReportBounds
any_report = record { local = true; global = true; least_site = 0; most_site = 255; after_view = 0; most_view = 2 ^ 32 - 1; least_index = 0 }

-- the fields behind a kind
abbrev pub fields_at : StatementKind → List ℕ → Read Statement
fields_at kinds.Prepare = prepare_at
fields_at kinds.Proposal = proposal_at
fields_at kinds.Accept = accept_at
fields_at kinds.LocalVc = local_vc_at
fields_at kinds.GlobalVc = global_vc_at
fields_at kinds.LocalReport = local_report_at any_report
fields_at kinds.GlobalReport = global_report_at any_report
fields_at kinds.LocalUnion = local_union_at
fields_at kinds.GlobalUnion = global_union_at
fields_at kinds.Reply = reply_at
fields_at kinds.ClientUpdate = client_update_at

-- a core of one of these kinds: with another kind the kind is the refused field
unfoldable pub core_at : List StatementKind → List ℕ → Read Statement
core_at among bytes = kind_at kind_number among bytes >>= λ kind rest. fields_at kind rest

-- a report's core within the bounds
unfoldable pub report_at : ReportBounds → List ℕ → Read Statement
report_at bounds bytes =
    byte_at bytes >>= λ kind rest.
    if bounds.local && (kind == kind_number kinds.LocalReport) then local_report_at bounds rest else
    if bounds.global && (kind == kind_number kinds.GlobalReport) then global_report_at bounds rest else
    Err (length bytes)

-- every kind
abbrev pub all_kinds : List StatementKind
all_kinds = kinds.Prepare ∷ kinds.Proposal ∷ kinds.Accept ∷ kinds.LocalVc ∷ kinds.GlobalVc ∷ kinds.LocalReport ∷ kinds.GlobalReport ∷ kinds.LocalUnion ∷ kinds.GlobalUnion ∷ kinds.Reply ∷ kinds.ClientUpdate ∷ []

-- a statement and its deployment's id
unfoldable pub statement_at : List ℕ → Read (ℕ × Statement)
statement_at bytes =
    mark_at statement_mark bytes >>= λ _ rest.
    number_at w64 rest >>= λ id rest.
    core_at all_kinds rest >>= λ s rest.
    Ok ((id, s), rest)
