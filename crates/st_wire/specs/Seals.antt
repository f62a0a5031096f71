-- The seals in a message, in byte order: who sealed, which statement, and where the seal stands.
use Rattle.std.specs.Prelude.{◌≡◌, ℕ, ◌+◌, ◌-◌, ◌^◌, ◌%◌, Option, Some, None, List, [], ◌∷◌, ◌++◌, length, take, drop, min}
use Rattle.std.specs.Int.{w16, w32, w64}
use Rattle.std.specs.List.{flat_map, fold}
use Rattle.st_fields.specs.Spelling.{joined, byte, number, text}
use Rattle.st_words.specs.declared.ids.SiteId.{SiteId}
use Rattle.st_words.specs.declared.ids.View.{View}
use Rattle.st_words.specs.declared.ids.Number.{Number}
use Rattle.st_words.specs.declared.ids.Who.{Who}
use Rattle.st_words.specs.declared.ids.Who.TheVariants as parties
use Rattle.st_words.specs.declared.value.Update.{Update}
use Rattle.st_words.specs.declared.value.Value.{Value}
use Rattle.st_words.specs.declared.value.Value.TheVariants as values
use Rattle.st_words.specs.declared.statement.Item.{Item}
use Rattle.st_words.specs.declared.statement.Statement.{Statement}
use Rattle.st_words.specs.declared.statement.Statement.TheVariants.{Prepare, Proposal, Accept, LocalVc, GlobalVc, LocalReport, GlobalReport, LocalUnion, GlobalUnion, Reply, ClientUpdate}
use Rattle.st_words.specs.Spelling.{update_spelling, value_spelling, core_spelling}
use Rattle.st_seal.specs.declared.quorum.Signed.{Signed}
use Rattle.st_message.specs.declared.message.SiteWord.{SiteWord}
use Rattle.st_message.specs.declared.message.Proof.{Proof}
use Rattle.st_message.specs.declared.message.ReportBody.{ReportBody}
use Rattle.st_message.specs.declared.message.ViewWords.{ViewWords}
use Rattle.st_message.specs.declared.message.ViewWords.TheVariants.{Local, Global}
use Rattle.st_message.specs.declared.message.Message.{Message}
use Rattle.st_message.specs.declared.message.Message.TheVariants as messages
use Rattle.st_wire.specs.declared.seal.SealIn.{SealIn}
use Rattle.st_wire.specs.Kind.{kind_number, kind_of, items_of, base_of}
use Rattle.st_wire.specs.Spelling.{message_mark}

-- ---- a message as plain bytes and seals

-- plain bytes, or a seal behind its length: whose it is, over which statement
pub data Piece : Type 0 where
  Plain : (bytes : List ℕ) → Piece
  Sealed : (who : Who) → (statement : Statement) → (seal : List ℕ) → Piece

-- the site that a statement names; a client's own names none
abbrev pub site_of : Statement → ℕ
site_of (Prepare site view local n v) = site.0
site_of (Proposal site view local n v) = site.0
site_of (Accept site view n v) = site.0
site_of (LocalVc site local) = site.0
site_of (GlobalVc site view) = site.0
site_of (LocalReport site local index view base items) = site.0
site_of (GlobalReport site view index base items) = site.0
site_of (LocalUnion site local greatest base items) = site.0
site_of (GlobalUnion site view base items) = site.0
site_of (Reply site client time n outcome) = site.0
site_of (ClientUpdate update) = 255

-- the server whose report it is
abbrev pub index_of : Statement → ℕ
index_of (LocalReport site local index view base items) = index
index_of (GlobalReport site view index base items) = index
index_of _ = 0

-- a server of the statement's site
abbrev pub signer : Statement → ℕ → Who
signer s index = parties.Server (record { site = site_of s; index = index })

-- the leader site of a view
abbrev pub leader : ℕ → View → SiteId
leader sites view = record { 0 = view.0 % sites }

-- a server's seal on a statement
unfoldable pub signed_pieces : Statement → Signed → List Piece
signed_pieces s x = Plain (byte x.index) ∷ Sealed (signer s x.index) s x.seal ∷ []

-- a quorum's seals on a statement
unfoldable pub quorum_pieces : Statement → List Signed → List Piece
quorum_pieces s shares = Plain (byte (length shares)) ∷ flat_map (signed_pieces s) shares

-- a site's word on the statement that is its
unfoldable pub site_pieces : (SiteId → Statement) → SiteWord → List Piece
site_pieces says w = Plain (byte w.site.0) ∷ quorum_pieces (says w.site) w.quorum

-- the words of sites
unfoldable pub sites_pieces : (SiteId → Statement) → List SiteWord → List Piece
sites_pieces says sites = Plain (byte (length sites)) ∷ flat_map (site_pieces says) sites

-- an order proof: each site accepted the value in the proof's view
unfoldable pub proof_pieces : Number → Proof → List Piece
proof_pieces n p = Plain (number w32 p.view.0) ∷ Plain (value_spelling p.value) ∷ sites_pieces (λ site. Accept site p.view n p.value) p.sites

-- the order proof of a base
unfoldable pub base_pieces : ℕ → Option Proof → List Piece
base_pieces base None = []
base_pieces base (Some p) = proof_pieces (record { 0 = base }) p

-- what backs a report's item: a Prepare of the report's site, or a Proposal of the leader site of the item's view
abbrev pub item_statement : ℕ → Statement → Item → Statement
item_statement sites (LocalReport site local index view base items) i = Prepare site i.view i.local i.number i.value
item_statement sites _ i = Proposal (leader sites i.view) i.view i.local i.number i.value

-- the quorums behind a report, one for each item
unfoldable pub backing_pieces : ℕ → Statement → List Item → List (List Signed) → List Piece
backing_pieces sites report (i ∷ items) (q ∷ quorums) = quorum_pieces (item_statement sites report i) q ++ backing_pieces sites report items quorums
backing_pieces sites report _ _ = []

-- a report, its server's seal, and what backs it
unfoldable pub report_pieces : ℕ → ReportBody → List Piece
report_pieces sites r =
    (Plain (core_spelling r.statement) ∷ Sealed (signer r.statement (index_of r.statement)) r.statement r.seal ∷ [])
    ++ (backing_pieces sites r.statement (items_of r.statement) r.quorums ++ base_pieces (base_of r.statement) r.base)

-- why a view is entered
unfoldable pub words_pieces : ViewWords → List Piece
words_pieces (Local s q) = Plain (byte 0) ∷ Plain (core_spelling s) ∷ quorum_pieces s q
words_pieces (Global view sites) = Plain (byte 1) ∷ Plain (number w32 view.0) ∷ sites_pieces (λ site. GlobalVc site view) sites

-- a client's seal that comes with a value, where one does
unfoldable pub client_pieces : Value → List ℕ → List Piece
client_pieces (values.Update u) (b ∷ bs) = Sealed (parties.Client u.client) (ClientUpdate u) (b ∷ bs) ∷ []
client_pieces _ seal = Plain (number w16 (length seal)) ∷ Plain seal ∷ []

-- a client's update with its seal
unfoldable pub update_pieces : Update → List ℕ → List Piece
update_pieces u seal = Plain (update_spelling u) ∷ Sealed (parties.Client u.client) (ClientUpdate u) seal ∷ []

-- a value that is assigned, the client's seal, and the representative's on the Prepare
unfoldable pub assign_pieces : Statement → Value → List ℕ → Signed → List Piece
assign_pieces prepare v seal signed = Plain (value_spelling v) ∷ (client_pieces v seal ++ signed_pieces prepare signed)

-- the body behind a message's kind
unfoldable pub body_pieces : ℕ → Message → List Piece
body_pieces sites (messages.Update u seal) = update_pieces u seal
body_pieces sites (messages.Assign view local n v seal signed) = Plain (joined (number w32 view.0 ∷ number w32 local.0 ∷ number w32 n.0 ∷ [])) ∷ assign_pieces (Prepare (leader sites view) view local n v) v seal signed
body_pieces sites (messages.Share s signed) = Plain (core_spelling s) ∷ signed_pieces s signed
body_pieces sites (messages.Certificate s q) = Plain (core_spelling s) ∷ quorum_pieces s q
body_pieces sites (messages.OrderProof n p) = Plain (number w32 n.0) ∷ proof_pieces n p
body_pieces sites (messages.Report r) = report_pieces sites r
body_pieces sites (messages.Bundle reports) = Plain (byte (length reports)) ∷ flat_map (report_pieces sites) reports
body_pieces sites (messages.ViewProof words) = words_pieces words
body_pieces sites (messages.Ask server executed view local) = Plain (joined (byte server.site ∷ byte server.index ∷ number w32 executed ∷ number w32 view.0 ∷ number w32 local.0 ∷ [])) ∷ []
body_pieces sites (messages.Reply s signed) = Plain (core_spelling s) ∷ signed_pieces s signed

-- a message of the deployment with this id and this number of sites
unfoldable pub message_pieces : ℕ → ℕ → Message → List Piece
message_pieces id sites m = (Plain message_mark ∷ Plain (number w64 id) ∷ Plain (byte (kind_number (kind_of m))) ∷ []) ++ body_pieces sites m

-- ---- its seals

-- the seals of these pieces, where so many bytes stand before
unfoldable pub seals_from : ℕ → List Piece → List SealIn
seals_from at [] = []
seals_from at (Plain bytes ∷ pieces) = seals_from (at + length bytes) pieces
seals_from at (Sealed who s seal ∷ pieces) = record { who = who; statement = s; seal = seal; place = at + 2 } ∷ seals_from (at + 2 + length seal) pieces

-- the seals of a message
unfoldable pub seals_of : ℕ → ℕ → Message → List SealIn
seals_of id sites m = seals_from 0 (message_pieces id sites m)

-- the bytes of a piece
abbrev pub piece_spelling : Piece → List ℕ
piece_spelling (Plain bytes) = bytes
piece_spelling (Sealed who s seal) = text seal

-- the seal stands at its place
abbrev pub StandsIn : List ℕ → SealIn → Type 0
StandsIn bytes x = take (length x.seal) (drop x.place bytes) ≡ x.seal
