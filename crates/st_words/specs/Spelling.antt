-- The bytes of updates, values, items and statements.
use Rattle.std.specs.Prelude.{ℕ, List, [], ◌∷◌}
use Rattle.std.specs.Int.{w32, w64}
use Rattle.st_fields.specs.Spelling.{joined, byte, number, text, counted}
use Rattle.st_words.specs.declared.value.Update.{Update}
use Rattle.st_words.specs.declared.value.Value.{Value}
use Rattle.st_words.specs.declared.value.Value.TheVariants as values
use Rattle.st_words.specs.declared.statement.Item.{Item}
use Rattle.st_words.specs.declared.statement.Statement.{Statement}
use Rattle.st_words.specs.declared.statement.Statement.TheVariants.{Prepare, Proposal, Accept, LocalVc, GlobalVc, LocalReport, GlobalReport, LocalUnion, GlobalUnion, Reply, ClientUpdate}
use Rattle.st_words.specs.Kind.{kind_number, kind_of}

-- an update's fields
unfoldable pub update_fields : Update → List ℕ
update_fields u = joined (byte u.client.0 ∷ number w32 u.time ∷ text u.op ∷ [])

-- a value that is an update
unfoldable pub update_spelling : Update → List ℕ
update_spelling u = joined (byte 1 ∷ update_fields u ∷ [])

-- a value: no-op, or an update
unfoldable pub value_spelling : Value → List ℕ
value_spelling values.Noop = byte 0
value_spelling (values.Update u) = update_spelling u

-- an item
unfoldable pub item_spelling : Item → List ℕ
item_spelling i = joined (number w32 i.number.0 ∷ number w32 i.view.0 ∷ number w32 i.local.0 ∷ value_spelling i.value ∷ [])

-- items behind their number
unfoldable pub items_spelling : List Item → List ℕ
items_spelling items = counted item_spelling items

-- the fields behind a statement's kind; a client's own statement stands at the site ff
unfoldable pub fields_spelling : Statement → List ℕ
fields_spelling (Prepare site view local n v) = joined (byte site.0 ∷ number w32 view.0 ∷ number w32 local.0 ∷ number w32 n.0 ∷ value_spelling v ∷ [])
fields_spelling (Proposal site view local n v) = joined (byte site.0 ∷ number w32 view.0 ∷ number w32 local.0 ∷ number w32 n.0 ∷ value_spelling v ∷ [])
fields_spelling (Accept site view n v) = joined (byte site.0 ∷ number w32 view.0 ∷ number w32 n.0 ∷ value_spelling v ∷ [])
fields_spelling (LocalVc site local) = joined (byte site.0 ∷ number w32 local.0 ∷ [])
fields_spelling (GlobalVc site view) = joined (byte site.0 ∷ number w32 view.0 ∷ [])
fields_spelling (LocalReport site local index view base items) = joined (byte site.0 ∷ number w32 local.0 ∷ byte index ∷ number w32 view.0 ∷ number w32 base ∷ items_spelling items ∷ [])
fields_spelling (GlobalReport site view index base items) = joined (byte site.0 ∷ number w32 view.0 ∷ byte index ∷ number w32 base ∷ items_spelling items ∷ [])
fields_spelling (LocalUnion site local greatest base items) = joined (byte site.0 ∷ number w32 local.0 ∷ number w32 greatest.0 ∷ number w32 base ∷ items_spelling items ∷ [])
fields_spelling (GlobalUnion site view base items) = joined (byte site.0 ∷ number w32 view.0 ∷ number w32 base ∷ items_spelling items ∷ [])
fields_spelling (Reply site client time n outcome) = joined (byte site.0 ∷ byte client.0 ∷ number w32 time ∷ number w32 n.0 ∷ text outcome ∷ [])
fields_spelling (ClientUpdate update) = joined (byte 255 ∷ update_spelling update ∷ [])

-- a statement without its deployment
unfoldable pub core_spelling : Statement → List ℕ
core_spelling s = joined (byte (kind_number (kind_of s)) ∷ fields_spelling s ∷ [])

-- "STEWARD1"
abbrev pub statement_mark : List ℕ
statement_mark = 83 ∷ 84 ∷ 69 ∷ 87 ∷ 65 ∷ 82 ∷ 68 ∷ 49 ∷ []

-- the bytes that a party seals
unfoldable pub statement_spelling : ℕ → Statement → List ℕ
statement_spelling id s = joined (statement_mark ∷ number w64 id ∷ core_spelling s ∷ [])
