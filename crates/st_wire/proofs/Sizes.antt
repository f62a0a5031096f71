-- How many bytes the words in a message take.
use Rattle.std.proofs.Common.{◌≡◌, ℕ, ◌+◌, List, [], ◌∷◌, ◌++◌, length, refl, ap, ◌∙◌, arith}
use Rattle.std.specs.Int.{Width, w16, w32}
use Rattle.std.specs.List.{flat_map}
use Rattle.std.proofs.lemmas.List.{length-append}
use Rattle.st_fields.specs.Spelling.{joined, byte, number, text, counted}
use Rattle.st_words.specs.declared.value.Update.{Update}
use Rattle.st_words.specs.declared.statement.Item.{Item}
use Rattle.st_words.specs.declared.statement.Statement.{Statement}
use Rattle.st_words.specs.declared.statement.Statement.TheVariants.{Prepare, Proposal, Accept, LocalVc, GlobalVc, LocalReport, GlobalReport, LocalUnion, GlobalUnion, Reply, ClientUpdate}
use Rattle.st_words.specs.Kind.{kind_number, kind_of}
use Rattle.st_words.specs.Spelling.{update_fields, update_spelling, value_spelling, item_spelling, items_spelling, fields_spelling, core_spelling}

-- the lengths of fields together
abbrev total : List (List ℕ) → ℕ
total [] = 0
total (field ∷ fields) = length field + total fields

-- fields one after another
joined-length : (fields : List (List ℕ)) → length (joined fields) ≡ total fields
joined-length [] = refl
joined-length (field ∷ fields) = omega (arith, length-append field (joined fields), joined-length fields)

-- a number of two bytes
number16-length : (n : ℕ) → length (number w16 n) ≡ 2
unfolding number
number16-length n = refl

-- a number of four bytes
number32-length : (n : ℕ) → length (number w32 n) ≡ 4
unfolding number
number32-length n = refl

-- bytes behind their number
pub text_length : (bytes : List ℕ) → length (text bytes) ≡ length bytes + 2
unfolding text
text_length bytes = omega (arith, joined-length (number w16 (length bytes) ∷ bytes ∷ []), number16-length (length bytes))

-- an update
pub update_length : (u : Update) → length (update_spelling u) ≡ length u.op + 8
unfolding update_spelling update_fields
update_length u = omega (arith, joined-length (byte 1 ∷ update_fields u ∷ []), joined-length (byte u.client.0 ∷ number w32 u.time ∷ text u.op ∷ []), number32-length u.time, text_length u.op)

-- an item
pub item_length : (i : Item) → length (item_spelling i) ≡ length (value_spelling i.value) + 12
unfolding item_spelling
item_length i = omega (arith, joined-length (number w32 i.number.0 ∷ number w32 i.view.0 ∷ number w32 i.local.0 ∷ value_spelling i.value ∷ []), number32-length i.number.0, number32-length i.view.0, number32-length i.local.0)

-- what stands in a core besides its value, its items or its text
abbrev pub core_count : Statement → ℕ
core_count (Prepare site view local n v) = length (value_spelling v) + 14
core_count (Proposal site view local n v) = length (value_spelling v) + 14
core_count (Accept site view n v) = length (value_spelling v) + 10
core_count (LocalVc site local) = 6
core_count (GlobalVc site view) = 6
core_count (LocalReport site local index view base items) = length (items_spelling items) + 15
core_count (GlobalReport site view index base items) = length (items_spelling items) + 11
core_count (LocalUnion site local greatest base items) = length (items_spelling items) + 14
core_count (GlobalUnion site view base items) = length (items_spelling items) + 10
core_count (Reply site client time n outcome) = length outcome + 13
core_count (ClientUpdate update) = length (update_spelling update) + 2

-- the fields behind a kind
fields-length : (s : Statement) → length (fields_spelling s) + 1 ≡ core_count s
unfolding fields_spelling
fields-length (Prepare site view local n v) = omega (arith, joined-length (byte site.0 ∷ number w32 view.0 ∷ number w32 local.0 ∷ number w32 n.0 ∷ value_spelling v ∷ []), number32-length view.0, number32-length local.0, number32-length n.0)
fields-length (Proposal site view local n v) = omega (arith, joined-length (byte site.0 ∷ number w32 view.0 ∷ number w32 local.0 ∷ number w32 n.0 ∷ value_spelling v ∷ []), number32-length view.0, number32-length local.0, number32-length n.0)
fields-length (Accept site view n v) = omega (arith, joined-length (byte site.0 ∷ number w32 view.0 ∷ number w32 n.0 ∷ value_spelling v ∷ []), number32-length view.0, number32-length n.0)
fields-length (LocalVc site local) = omega (arith, joined-length (byte site.0 ∷ number w32 local.0 ∷ []), number32-length local.0)
fields-length (GlobalVc site view) = omega (arith, joined-length (byte site.0 ∷ number w32 view.0 ∷ []), number32-length view.0)
fields-length (LocalReport site local index view base items) = omega (arith, joined-length (byte site.0 ∷ number w32 local.0 ∷ byte index ∷ number w32 view.0 ∷ number w32 base ∷ items_spelling items ∷ []), number32-length local.0, number32-length view.0, number32-length base)
fields-length (GlobalReport site view index base items) = omega (arith, joined-length (byte site.0 ∷ number w32 view.0 ∷ byte index ∷ number w32 base ∷ items_spelling items ∷ []), number32-length view.0, number32-length base)
fields-length (LocalUnion site local greatest base items) = omega (arith, joined-length (byte site.0 ∷ number w32 local.0 ∷ number w32 greatest.0 ∷ number w32 base ∷ items_spelling items ∷ []), number32-length local.0, number32-length greatest.0, number32-length base)
fields-length (GlobalUnion site view base items) = omega (arith, joined-length (byte site.0 ∷ number w32 view.0 ∷ number w32 base ∷ items_spelling items ∷ []), number32-length view.0, number32-length base)
fields-length (Reply site client time n outcome) = omega (arith, joined-length (byte site.0 ∷ byte client.0 ∷ number w32 time ∷ number w32 n.0 ∷ text outcome ∷ []), number32-length time, number32-length n.0, text_length outcome)
fields-length (ClientUpdate update) = omega (arith, joined-length (byte 255 ∷ update_spelling update ∷ []))

-- a core
pub core_length : (s : Statement) → length (core_spelling s) ≡ core_count s
unfolding core_spelling
core_length s = omega (arith, joined-length (byte (kind_number (kind_of s)) ∷ fields_spelling s ∷ []), fields-length s)

-- items behind their number
pub items_length : (items : List Item) → length (items_spelling items) ≡ length (flat_map item_spelling items) + 1
unfolding items_spelling counted
items_length items = omega (arith, joined-length (byte (length items) ∷ flat_map item_spelling items ∷ []))
