-- The statements that a message's seals are over keep their ranges where the message keeps its own.
use Rattle.std.proofs.Common.{ℕ, ◌+◌, ◌-◌, ◌<◌, ◌≤◌, Option, Some, None, List, [], ◌∷◌, ◌++◌, length, All, arith}
use Rattle.std.specs.List.{flat_map}
use Rattle.std.proofs.lemmas.List.Elements.{All-nil, All-cons}
use Rattle.st_fields.specs.Spelling.{KeepsEach}
use Rattle.st_words.specs.declared.ids.SiteId.{SiteId}
use Rattle.st_words.specs.declared.ids.Number.{Number}
use Rattle.st_words.specs.declared.value.Value.{Value}
use Rattle.st_words.specs.declared.value.Value.TheVariants as values
use Rattle.st_words.specs.declared.limits.ItemLimits.{ItemLimits}
use Rattle.st_words.specs.declared.statement.Item.{Item}
use Rattle.st_words.specs.declared.statement.Statement.{Statement}
use Rattle.st_words.specs.declared.statement.Statement.TheVariants.{Prepare, Proposal, Accept, LocalVc, GlobalVc, LocalReport, GlobalReport, LocalUnion, GlobalUnion, Reply, ClientUpdate}
use Rattle.st_words.specs.Ranges.{KeepsValue, KeepsItem, KeepsStatement, after_item, limits_above}
use Rattle.st_seal.specs.declared.quorum.Signed.{Signed}
use Rattle.st_message.specs.declared.message.SiteWord.{SiteWord}
use Rattle.st_message.specs.declared.message.Proof.{Proof}
use Rattle.st_message.specs.declared.message.ReportBody.{ReportBody}
use Rattle.st_message.specs.declared.message.ViewWords.{ViewWords}
use Rattle.st_message.specs.declared.message.ViewWords.TheVariants.{Local, Global}
use Rattle.st_message.specs.declared.message.Message.{Message}
use Rattle.st_message.specs.declared.message.Message.TheVariants as messages
use Rattle.st_wire.specs.declared.seal.SealIn.{SealIn}
use Rattle.st_wire.specs.declared.report.Bundled.{Bundled}
use Rattle.st_wire.specs.Kind.{items_of, base_of}
use Rattle.st_wire.specs.Ranges.{KeepsProof, KeepsBase, KeepsBacked, KeepsReport, KeepsWords, KeepsMessage, any_body, after_body}
use Rattle.st_wire.specs.Seals.{Piece, Plain, Sealed, signed_pieces, quorum_pieces, site_pieces, sites_pieces, proof_pieces, base_pieces, item_statement, backing_pieces, report_pieces, words_pieces, client_pieces, update_pieces, assign_pieces, body_pieces, message_pieces, seals_from, seals_of}

-- what is sealed in a piece keeps its ranges
abbrev pub KeepsPiece : Piece → Type 0
KeepsPiece (Plain bytes) = Unit {0}
KeepsPiece (Sealed who s seal) = KeepsStatement s

-- in each of these pieces
abbrev pub KeepsPieces : List Piece → Type 0
KeepsPieces [] = Unit {0}
KeepsPieces (p ∷ ps) = KeepsPiece p × KeepsPieces ps

-- in these and in those
both_keep : (xs ys : List Piece) → KeepsPieces xs → KeepsPieces ys → KeepsPieces (xs ++ ys)
both_keep [] ys kx ky = ky
both_keep (x ∷ xs) ys kx ky = (kx.0, both_keep xs ys kx.1 ky)

-- in the pieces of each element
each_keeps : {A : Type 0} (f : A → List Piece) (xs : List A) → ((x : A) → KeepsPieces (f x)) → KeepsPieces (flat_map f xs)
each_keeps f [] k = tt
each_keeps f (x ∷ xs) k = both_keep (f x) (flat_map f xs) (k x) (each_keeps f xs k)

-- ---- the parts

signed_keeps : (s : Statement) (x : Signed) → KeepsStatement s → KeepsPieces (signed_pieces s x)
unfolding signed_pieces
signed_keeps s x k = (tt, (k, tt))

quorum_keeps : (s : Statement) (shares : List Signed) → KeepsStatement s → KeepsPieces (quorum_pieces s shares)
unfolding quorum_pieces
quorum_keeps s shares k = (tt, each_keeps (signed_pieces s) shares (λ x. signed_keeps s x k))

site_keeps : (says : SiteId → Statement) (w : SiteWord) → KeepsStatement (says w.site) → KeepsPieces (site_pieces says w)
unfolding site_pieces
site_keeps says w k = (tt, quorum_keeps (says w.site) w.quorum k)

sites_keep : (says : SiteId → Statement) (sites : List SiteWord) → ((site : SiteId) → KeepsStatement (says site)) → KeepsPieces (sites_pieces says sites)
unfolding sites_pieces
sites_keep says sites k = (tt, each_keeps (site_pieces says) sites (λ w. site_keeps says w (k w.site)))

proof_keeps : (n : Number) (p : Proof) → 1 ≤ n.0 → KeepsProof p → KeepsPieces (proof_pieces n p)
unfolding proof_pieces
proof_keeps n p low k = (tt, (tt, sites_keep (λ site. Accept site p.view n p.value) p.sites (λ site. (low, k.0))))

base_keeps : (base : ℕ) (p : Option Proof) → KeepsBase base p → KeepsPieces (base_pieces base p)
unfolding base_pieces
base_keeps base None k = tt
base_keeps base (Some p) k = proof_keeps (record { 0 = base }) p k.0 k.1

-- what backs an item
item_keeps : (sites : ℕ) (report : Statement) (limits : ItemLimits) (i : Item) → KeepsItem limits i → KeepsStatement (item_statement sites report i)
item_keeps sites (LocalReport site local index view base items) limits i k = (omega (arith, k.0), k.4)
item_keeps sites _ limits i k = (omega (arith, k.0), k.4)

backing_keeps : (sites : ℕ) (report : Statement) (limits : ItemLimits) (items : List Item) (quorums : List (List Signed)) → KeepsEach KeepsItem after_item limits items → KeepsPieces (backing_pieces sites report items quorums)
unfolding backing_pieces
backing_keeps sites report limits [] quorums k = tt
backing_keeps sites report limits (i ∷ items) [] k = tt
backing_keeps sites report limits (i ∷ items) (q ∷ quorums) k =
    both_keep _ _ (quorum_keeps (item_statement sites report i) q (item_keeps sites report limits i k.0)) (backing_keeps sites report (after_item limits i) items quorums k.1)

-- what backs a report's own items
own_backing_keeps : (sites : ℕ) (report : Statement) (quorums : List (List Signed)) → KeepsStatement report → KeepsPieces (backing_pieces sites report (items_of report) quorums)
unfolding backing_pieces
own_backing_keeps sites (LocalReport site local index view base items) quorums k =
    backing_keeps sites (LocalReport site local index view base items) (limits_above base view.0 (Some (local.0 - 1))) items quorums k.2.1
own_backing_keeps sites (GlobalReport site view index base items) quorums k =
    backing_keeps sites (GlobalReport site view index base items) (limits_above base (view.0 - 1) None) items quorums k.2.1
own_backing_keeps sites _ quorums k = tt

report_keeps : (sites : ℕ) (r : ReportBody) → KeepsBacked r → KeepsPieces (report_pieces sites r)
unfolding report_pieces
report_keeps sites r k =
    (tt, (k.0, both_keep (backing_pieces sites r.statement (items_of r.statement) r.quorums) (base_pieces (base_of r.statement) r.base) (own_backing_keeps sites r.statement r.quorums k.0) (base_keeps (base_of r.statement) r.base k.4)))

reports_keep : (sites : ℕ) (b : Bundled) (reports : List ReportBody) → KeepsEach KeepsReport after_body b reports → KeepsPieces (flat_map (report_pieces sites) reports)
reports_keep sites b [] k = tt
reports_keep sites b (r ∷ reports) k =
    both_keep (report_pieces sites r) (flat_map (report_pieces sites) reports) (report_keeps sites r k.0.1) (reports_keep sites (after_body b r) reports k.1)

words_keep : (words : ViewWords) → KeepsWords words → KeepsPieces (words_pieces words)
unfolding words_pieces
words_keep (Local s q) k = (tt, (tt, quorum_keeps s q k.0.1))
words_keep (Global view sites) k = (tt, (tt, sites_keep (λ site. GlobalVc site view) sites (λ site. k.0)))

client_keeps : (v : Value) (seal : List ℕ) → KeepsValue v → KeepsPieces (client_pieces v seal)
unfolding client_pieces
client_keeps values.Noop seal k = (tt, (tt, tt))
client_keeps (values.Update u) [] k = (tt, (tt, tt))
client_keeps (values.Update u) (b ∷ bs) k = (k, tt)

-- ---- a message

body_keeps : (sites : ℕ) (m : Message) → KeepsMessage m → KeepsPieces (body_pieces sites m)
unfolding body_pieces update_pieces assign_pieces
body_keeps sites (messages.Update update seal) k = (tt, (k.0, tt))
body_keeps sites (messages.Assign view local n v seal signed) k =
    (tt, (tt, both_keep (client_pieces v seal) _ (client_keeps v seal k.1) (signed_keeps _ signed (k.0, k.1))))
body_keeps sites (messages.Share s signed) k = (tt, signed_keeps s signed k.0.1)
body_keeps sites (messages.Certificate s q) k = (tt, quorum_keeps s q k.0.1)
body_keeps sites (messages.OrderProof n proof) k = (tt, proof_keeps n proof k.0 k.1)
body_keeps sites (messages.Report report) k = report_keeps sites report k.1
body_keeps sites (messages.Bundle reports) k = (tt, reports_keep sites any_body reports k.1)
body_keeps sites (messages.ViewProof words) k = words_keep words k
body_keeps sites (messages.Ask server executed view local) k = (tt, tt)
body_keeps sites (messages.Reply s signed) k = (tt, signed_keeps s signed k.0.1)

-- the seals of pieces, wherever they stand
seals_keep : (at : ℕ) (pieces : List Piece) → KeepsPieces pieces → All (λ (x : SealIn). KeepsStatement x.statement) (seals_from at pieces)
unfolding seals_from
seals_keep at [] k = All-nil (λ (x : SealIn). KeepsStatement x.statement)
seals_keep at (Plain bytes ∷ pieces) k = seals_keep (at + length bytes) pieces k.1
seals_keep at (Sealed who s seal ∷ pieces) k =
    All-cons (λ (x : SealIn). KeepsStatement x.statement) _ _ k.0 (seals_keep (at + 2 + length seal) pieces k.1)

-- each statement that a seal of the message is over keeps its ranges
pub statements_keep : (id sites : ℕ) (m : Message) → KeepsMessage m → All (λ (x : SealIn). KeepsStatement x.statement) (seals_of id sites m)
unfolding seals_of message_pieces
statements_keep id sites m k = seals_keep 0 _ (tt, (tt, (tt, body_keeps sites m k)))
