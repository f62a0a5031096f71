-- Statements by their numbers, what they are about, and whether two things that are said are the same.
use Rattle.std.specs.Prelude.{ℕ, Bool, true, false, nat_eq, ◌&&◌, List, [], ◌∷◌, bytes_eq}
use Rattle.st_words.specs.declared.ids.ServerId.{ServerId}
use Rattle.st_words.specs.declared.ids.Who.{Who}
use Rattle.st_words.specs.declared.ids.Who.TheVariants as parties
use Rattle.st_words.specs.declared.value.Update.{Update}
use Rattle.st_words.specs.declared.value.Value.{Value}
use Rattle.st_words.specs.declared.value.Value.TheVariants as values
use Rattle.st_words.specs.declared.statement.Item.{Item}
use Rattle.st_words.specs.declared.statement.Statement.{Statement}
use Rattle.st_words.specs.declared.statement.Statement.TheVariants.{Prepare, Proposal, Accept, LocalVc, GlobalVc, LocalReport, GlobalReport, LocalUnion, GlobalUnion, Reply, ClientUpdate}
use Rattle.st_seal.specs.declared.quorum.Signed.{Signed}
use Rattle.st_message.specs.declared.message.SiteWord.{SiteWord}
use Rattle.st_message.specs.declared.event.Scope.{Scope}
use Rattle.st_message.specs.declared.event.Scope.TheVariants as scopes

-- Bytes, as contracts see them.
abbrev pub Bytes : Type 0
Bytes = List ℕ

-- Seals of a site's servers, as contracts see them.
abbrev pub Quorum : Type 0
Quorum = List Signed

-- ---- by numbers

-- the server of this site and index
abbrev pub a_server : ℕ → ℕ → ServerId
a_server site index = record { site = site; index = index }

-- that server, as one who seals
abbrev pub server_at : ℕ → ℕ → Who
server_at site index = parties.Server (a_server site index)

-- a client, as one who seals
abbrev pub client_at : ℕ → Who
client_at client = parties.Client (record { 0 = client })

-- the client's update of this time
abbrev pub an_update : ℕ → ℕ → Bytes → Update
an_update client time op = record { client = record { 0 = client }; time = time; op = op }

-- what stood at a number in a view and local view
abbrev pub an_item : ℕ → ℕ → ℕ → Value → Item
an_item number view local value = record { number = record { 0 = number }; view = record { 0 = view }; local = record { 0 = local }; value = value }

-- a site's word
abbrev pub a_site_word : ℕ → Quorum → SiteWord
a_site_word site quorum = record { site = record { 0 = site }; quorum = quorum }

-- a Prepare by its numbers
abbrev pub a_prepare : ℕ → ℕ → ℕ → ℕ → Value → Statement
a_prepare site view local number value = Prepare (record { 0 = site }) (record { 0 = view }) (record { 0 = local }) (record { 0 = number }) value

-- a Proposal by its numbers
abbrev pub a_proposal : ℕ → ℕ → ℕ → ℕ → Value → Statement
a_proposal site view local number value = Proposal (record { 0 = site }) (record { 0 = view }) (record { 0 = local }) (record { 0 = number }) value

-- an Accept by its numbers
abbrev pub an_accept : ℕ → ℕ → ℕ → Value → Statement
an_accept site view number value = Accept (record { 0 = site }) (record { 0 = view }) (record { 0 = number }) value

-- a site's server asks for a local view
abbrev pub a_local_vc : ℕ → ℕ → Statement
a_local_vc site local = LocalVc (record { 0 = site }) (record { 0 = local })

-- a site's server asks for a view
abbrev pub a_global_vc : ℕ → ℕ → Statement
a_global_vc site view = GlobalVc (record { 0 = site }) (record { 0 = view })

-- a report on a local view by its numbers
abbrev pub a_local_report : ℕ → ℕ → ℕ → ℕ → ℕ → List Item → Statement
a_local_report site local index view base items = LocalReport (record { 0 = site }) (record { 0 = local }) index (record { 0 = view }) base items

-- a report on a view by its numbers
abbrev pub a_global_report : ℕ → ℕ → ℕ → ℕ → List Item → Statement
a_global_report site view index base items = GlobalReport (record { 0 = site }) (record { 0 = view }) index base items

-- a Reply by its numbers
abbrev pub a_reply : ℕ → ℕ → ℕ → ℕ → Bytes → Statement
a_reply site client time number result = Reply (record { 0 = site }) (record { 0 = client }) time (record { 0 = number }) result

-- to the servers of a site
abbrev pub to_site_at : ℕ → Scope
to_site_at site = scopes.Site (record { 0 = site })

-- to one server
abbrev pub to_server_at : ℕ → ℕ → Scope
to_server_at site index = scopes.One (a_server site index)

-- to a client
abbrev pub to_client_at : ℕ → Scope
to_client_at client = scopes.Client (record { 0 = client })

-- ---- what a statement is about

-- the site that a statement names; a client's update names none
abbrev pub site_of : Statement → ℕ
site_of (Prepare site view local number value) = site.0
site_of (Proposal site view local number value) = site.0
site_of (Accept site view number value) = site.0
site_of (LocalVc site local) = site.0
site_of (GlobalVc site view) = site.0
site_of (LocalReport site local index view base items) = site.0
site_of (GlobalReport site view index base items) = site.0
site_of (LocalUnion site local greatest base items) = site.0
site_of (GlobalUnion site view base items) = site.0
site_of (Reply site client time number result) = site.0
site_of (ClientUpdate update) = 255

-- the server whose report it is
abbrev pub index_of : Statement → ℕ
index_of (LocalReport site local index view base items) = index
index_of (GlobalReport site view index base items) = index
index_of _ = 0

-- the local view of a Prepare or Proposal, else 0
abbrev pub local_of : Statement → ℕ
local_of (Prepare site view local number value) = local.0
local_of (Proposal site view local number value) = local.0
local_of _ = 0

-- ---- sameness, as tests

-- the same update
abbrev pub same_update : Update → Update → Bool
same_update a b = nat_eq a.client.0 b.client.0 && nat_eq a.time b.time && bytes_eq a.op b.op

-- the same value
abbrev pub same_value : Value → Value → Bool
same_value values.Noop values.Noop = true
same_value (values.Update a) (values.Update b) = same_update a b
same_value _ _ = false

-- the same item
abbrev pub same_item : Item → Item → Bool
same_item a b = nat_eq a.number.0 b.number.0 && nat_eq a.view.0 b.view.0 && nat_eq a.local.0 b.local.0 && same_value a.value b.value

-- The same items in the same order.
unfoldable pub same_items : List Item → List Item → Bool
same_items [] [] = true
same_items (a ∷ more_a) (b ∷ more_b) = same_item a b && same_items more_a more_b
same_items _ _ = false

-- the same server
abbrev pub same_server : ServerId → ServerId → Bool
same_server a b = nat_eq a.site b.site && nat_eq a.index b.index

-- the same party
abbrev pub same_who : Who → Who → Bool
same_who (parties.Server a) (parties.Server b) = same_server a b
same_who (parties.Client a) (parties.Client b) = nat_eq a.0 b.0
same_who _ _ = false

-- The same statement.
unfoldable pub same_statement : Statement → Statement → Bool
same_statement (Prepare s g l n v) (Prepare s2 g2 l2 n2 v2) = nat_eq s.0 s2.0 && nat_eq g.0 g2.0 && nat_eq l.0 l2.0 && nat_eq n.0 n2.0 && same_value v v2
same_statement (Proposal s g l n v) (Proposal s2 g2 l2 n2 v2) = nat_eq s.0 s2.0 && nat_eq g.0 g2.0 && nat_eq l.0 l2.0 && nat_eq n.0 n2.0 && same_value v v2
same_statement (Accept s g n v) (Accept s2 g2 n2 v2) = nat_eq s.0 s2.0 && nat_eq g.0 g2.0 && nat_eq n.0 n2.0 && same_value v v2
same_statement (LocalVc s x) (LocalVc s2 x2) = nat_eq s.0 s2.0 && nat_eq x.0 x2.0
same_statement (GlobalVc s y) (GlobalVc s2 y2) = nat_eq s.0 s2.0 && nat_eq y.0 y2.0
same_statement (LocalReport s x i g b is) (LocalReport s2 x2 i2 g2 b2 is2) =
    nat_eq s.0 s2.0 && nat_eq x.0 x2.0 && nat_eq i i2 && nat_eq g.0 g2.0 && nat_eq b b2 && same_items is is2
same_statement (GlobalReport s y i b is) (GlobalReport s2 y2 i2 b2 is2) = nat_eq s.0 s2.0 && nat_eq y.0 y2.0 && nat_eq i i2 && nat_eq b b2 && same_items is is2
same_statement (LocalUnion s x g b is) (LocalUnion s2 x2 g2 b2 is2) = nat_eq s.0 s2.0 && nat_eq x.0 x2.0 && nat_eq g.0 g2.0 && nat_eq b b2 && same_items is is2
same_statement (GlobalUnion s y b is) (GlobalUnion s2 y2 b2 is2) = nat_eq s.0 s2.0 && nat_eq y.0 y2.0 && nat_eq b b2 && same_items is is2
same_statement (Reply s c t n r) (Reply s2 c2 t2 n2 r2) = nat_eq s.0 s2.0 && nat_eq c.0 c2.0 && nat_eq t t2 && nat_eq n.0 n2.0 && bytes_eq r r2
same_statement (ClientUpdate a) (ClientUpdate b) = same_update a b
same_statement _ _ = false
