-- A message's seals, with and without the places where they stand, are the same in the same order.
use Rattle.std.proofs.Common.{◌≡◌, ℕ, ◌+◌, ◌%◌, cond, Option, Some, None, List, [], ◌∷◌, ◌++◌, length, map, refl, ap, ◌∙◌}
use Rattle.std.specs.List.{flat_map}
use Rattle.st_fields.specs.Spelling.{KeepsEach}
use Rattle.st_words.specs.declared.ids.Number.{Number}
use Rattle.st_words.specs.declared.ids.SiteId.{SiteId}
use Rattle.st_words.specs.declared.ids.View.{View}
use Rattle.st_words.specs.declared.value.Value.{Value}
use Rattle.st_words.specs.declared.value.Value.TheVariants as values
use Rattle.st_words.specs.declared.limits.ReportBounds.{ReportBounds}
use Rattle.st_words.specs.declared.statement.Item.{Item}
use Rattle.st_words.specs.declared.statement.Statement.{Statement}
use Rattle.st_words.specs.declared.statement.Statement.TheVariants.{Prepare, Proposal, Accept, LocalVc, GlobalVc, LocalReport, GlobalReport, LocalUnion, GlobalUnion, Reply, ClientUpdate}
use Rattle.st_words.specs.Ranges.{KeepsBounds}
use Rattle.st_seal.specs.declared.quorum.Signed.{Signed}
use Rattle.st_message.specs.declared.message.SiteWord.{SiteWord}
use Rattle.st_message.specs.declared.message.Proof.{Proof}
use Rattle.st_message.specs.declared.message.ReportBody.{ReportBody}
use Rattle.st_message.specs.declared.message.ViewWords.{ViewWords}
use Rattle.st_message.specs.declared.message.ViewWords.TheVariants.{Local, Global}
use Rattle.st_message.specs.declared.message.Message.{Message}
use Rattle.st_message.specs.declared.message.Message.TheVariants as messages
use Rattle.st_wire.specs.declared.report.Bundled.{Bundled}
use Rattle.st_wire.specs.Ranges.{KeepsReport, KeepsMessage, any_body, after_body}
use Rattle.st_wire.specs.Seals as seals
use Rattle.st_wire.specs.Seals.{Piece, Plain, signed_pieces, quorum_pieces, site_pieces, sites_pieces, proof_pieces, base_pieces, item_statement, backing_pieces, report_pieces, words_pieces, client_pieces, update_pieces, assign_pieces, body_pieces, message_pieces, seals_from}
use Rattle.st_protocol.specs.Words.{server_at, a_prepare, a_proposal, an_accept, a_global_vc, site_of}
use Rattle.st_protocol.specs.Keeping.{given}
use Rattle.st_protocol.specs.Known.{Sealed, in_quorum, in_sites, in_proof, in_items, in_base, in_client_seal, in_report, in_reports, seals_of}
use Rattle.st_reading.specs.Deployed.{seal_in}
use Rattle.st_reading.specs.Placeless.{without_place}

-- the seals of pieces
abbrev pub sealed_in : List Piece → List Sealed
sealed_in [] = []
sealed_in (Plain bytes ∷ pieces) = sealed_in pieces
sealed_in (seals.Sealed who s seal ∷ pieces) = record { who = who; statement = s; seal = seal } ∷ sealed_in pieces

-- wherever they stand
placed_same : (at : ℕ) (pieces : List Piece) → map without_place (map seal_in (seals_from at pieces)) ≡ sealed_in pieces
unfolding seals_from
placed_same at [] = refl
placed_same at (Plain bytes ∷ pieces) = placed_same (at + length bytes) pieces
placed_same at (seals.Sealed who s seal ∷ pieces) = ap (λ (more : List Sealed). record { who = who; statement = s; seal = seal } ∷ more) (placed_same (at + 2 + length seal) pieces)

-- of these and of those
both_same : (xs ys : List Piece) (a b : List Sealed) → sealed_in xs ≡ a → sealed_in ys ≡ b → sealed_in (xs ++ ys) ≡ a ++ b
both_same xs ys a b ex ey = sealed_append xs ys ∙ ap (λ (s : List Sealed). s ++ sealed_in ys) ex ∙ ap (λ (s : List Sealed). a ++ s) ey
  where
    sealed_append : (us vs : List Piece) → sealed_in (us ++ vs) ≡ sealed_in us ++ sealed_in vs
    sealed_append [] vs = refl
    sealed_append (Plain bytes ∷ us) vs = sealed_append us vs
    sealed_append (seals.Sealed who s seal ∷ us) vs = ap (λ (more : List Sealed). record { who = who; statement = s; seal = seal } ∷ more) (sealed_append us vs)

-- ---- the parts

-- the site that a statement names
same_site : (s : Statement) → seals.site_of s ≡ site_of s
same_site s =
    elim s as (λ (t : Statement). seals.site_of t ≡ site_of t) [
      | Prepare site view local n v ↦ refl
      | _ ↦ refl
    ]

shares_same : (s : Statement) (shares : List Signed) → sealed_in (flat_map (signed_pieces s) shares) ≡ in_quorum (site_of s) s shares
unfolding signed_pieces in_quorum
shares_same s [] = refl
shares_same s (x ∷ xs) =
    ap (λ (site : ℕ). record { who = server_at site x.index; statement = s; seal = x.seal } ∷ sealed_in (flat_map (signed_pieces s) xs)) (same_site s)
    ∙ ap (λ (more : List Sealed). record { who = server_at (site_of s) x.index; statement = s; seal = x.seal } ∷ more) (shares_same s xs)

quorum_same : (s : Statement) (shares : List Signed) → sealed_in (quorum_pieces s shares) ≡ in_quorum (site_of s) s shares
unfolding quorum_pieces
quorum_same s shares = shares_same s shares

signed_same : (s : Statement) (x : Signed) → sealed_in (signed_pieces s x) ≡ in_quorum (site_of s) s (x ∷ [])
unfolding signed_pieces in_quorum
signed_same s x = ap (λ (site : ℕ). record { who = server_at site x.index; statement = s; seal = x.seal } ∷ []) (same_site s)

-- what a site says
abbrev by_site : (ℕ → Statement) → SiteId → Statement
by_site says site = says site.0

words_same : (says : ℕ → Statement) → ((n : ℕ) → site_of (says n) ≡ n) → (sites : List SiteWord) → sealed_in (flat_map (site_pieces (by_site says)) sites) ≡ in_sites says sites
unfolding site_pieces in_sites
words_same says named [] = refl
words_same says named (w ∷ sites) =
    both_same (quorum_pieces (says w.site.0) w.quorum) (flat_map (site_pieces (by_site says)) sites) _ _
    (quorum_same (says w.site.0) w.quorum ∙ ap (λ (n : ℕ). in_quorum n (says w.site.0) w.quorum) (named w.site.0))
    (words_same says named sites)

sites_same : (says : ℕ → Statement) → ((n : ℕ) → site_of (says n) ≡ n) → (sites : List SiteWord) → sealed_in (sites_pieces (by_site says) sites) ≡ in_sites says sites
unfolding sites_pieces
sites_same says named sites = words_same says named sites

proof_same : (n : Number) (p : Proof) → sealed_in (proof_pieces n p) ≡ in_proof n.0 p
unfolding proof_pieces
proof_same n p = sites_same (λ site. an_accept site p.view.0 n.0 p.value) (λ site. refl) p.sites

base_same : (base : ℕ) (p : Option Proof) → sealed_in (base_pieces base p) ≡ given p [] (in_proof base)
unfolding base_pieces
base_same base None = refl
base_same base (Some p) = proof_same (record { 0 = base }) p

items_same : (sites : ℕ) (report : Statement) (of_item : Item → Statement) → ((i : Item) → item_statement sites report i ≡ of_item i)
    → (items : List Item) (quorums : List (List Signed)) → sealed_in (backing_pieces sites report items quorums) ≡ in_items of_item items quorums
unfolding backing_pieces in_items
items_same sites report of_item says [] quorums = refl
items_same sites report of_item says (i ∷ items) [] = refl
items_same sites report of_item says (i ∷ items) (q ∷ quorums) =
    both_same (quorum_pieces (item_statement sites report i) q) (backing_pieces sites report items quorums) _ _
    (quorum_same (item_statement sites report i) q ∙ ap (λ (s : Statement). in_quorum (site_of s) s q) (says i))
    (items_same sites report of_item says items quorums)

-- a report with this statement
abbrev with_statement : ReportBody → Statement → ReportBody
with_statement r s = record r { statement = s }

report_as : (sites : ℕ) (b : ReportBounds) (r : ReportBody) (s : Statement) → KeepsBounds b s → sealed_in (report_pieces sites (with_statement r s)) ≡ in_report sites (with_statement r s)
unfolding report_pieces
report_as sites b r (LocalReport site local index view base items) k =
    ap (λ (more : List Sealed). record { who = server_at site.0 index; statement = LocalReport site local index view base items; seal = r.seal } ∷ more)
    (both_same (backing_pieces sites (LocalReport site local index view base items) items r.quorums) (base_pieces base r.base) _ _
    (items_same sites (LocalReport site local index view base items) (λ i. a_prepare site.0 i.view.0 i.local.0 i.number.0 i.value) (λ i. refl) items r.quorums)
    (base_same base r.base))
report_as sites b r (GlobalReport site view index base items) k =
    ap (λ (more : List Sealed). record { who = server_at site.0 index; statement = GlobalReport site view index base items; seal = r.seal } ∷ more)
    (both_same (backing_pieces sites (GlobalReport site view index base items) items r.quorums) (base_pieces base r.base) _ _
    (items_same sites (GlobalReport site view index base items) (λ i. a_proposal (i.view.0 % sites) i.view.0 i.local.0 i.number.0 i.value) (λ i. refl) items r.quorums)
    (base_same base r.base))
report_as sites b r _ k = absurd k

report_same : (sites : ℕ) (b : Bundled) (r : ReportBody) → KeepsReport b r → sealed_in (report_pieces sites r) ≡ in_report sites r
report_same sites b r k = report_as sites b.bounds r r.statement k.0

reports_same : (sites : ℕ) (b : Bundled) (reports : List ReportBody) → KeepsEach KeepsReport after_body b reports → sealed_in (flat_map (report_pieces sites) reports) ≡ in_reports sites reports
unfolding in_reports
reports_same sites b [] k = refl
reports_same sites b (r ∷ reports) k =
    both_same (report_pieces sites r) (flat_map (report_pieces sites) reports) _ _ (report_same sites b r k.0) (reports_same sites (after_body b r) reports k.1)

client_same : (v : Value) (seal : List ℕ) → sealed_in (client_pieces v seal) ≡ in_client_seal v seal
unfolding client_pieces
client_same values.Noop seal = refl
client_same (values.Update u) [] = refl
client_same (values.Update u) (b ∷ bs) = refl

-- ---- a message

body_same : (sites : ℕ) (m : Message) → KeepsMessage m → sealed_in (body_pieces sites m) ≡ seals_of sites m
unfolding body_pieces update_pieces assign_pieces words_pieces seals_of
body_same sites (messages.Update update seal) k = refl
body_same sites (messages.Assign view local n v seal signed) k =
    both_same (client_pieces v seal) (signed_pieces (a_prepare (view.0 % sites) view.0 local.0 n.0 v) signed) _ _
    (client_same v seal)
    (signed_same (a_prepare (view.0 % sites) view.0 local.0 n.0 v) signed)
body_same sites (messages.Share s signed) k = signed_same s signed
body_same sites (messages.Certificate s q) k = quorum_same s q
body_same sites (messages.OrderProof n proof) k = proof_same n proof
body_same sites (messages.Report report) k = report_same sites any_body report k
body_same sites (messages.Bundle reports) k = reports_same sites any_body reports k.1
body_same sites (messages.ViewProof (Local s q)) k = quorum_same s q
body_same sites (messages.ViewProof (Global view words)) k = sites_same (λ site. a_global_vc site view.0) (λ site. refl) words
body_same sites (messages.Ask server executed view local) k = refl
body_same sites (messages.Reply s signed) k = signed_same s signed

-- the seals of a message
pub same_seals : (id sites : ℕ) (m : Message) → KeepsMessage m → map without_place (map seal_in (seals.seals_of id sites m)) ≡ seals_of sites m
unfolding seals.seals_of message_pieces
same_seals id sites m k = placed_same 0 (message_pieces id sites m) ∙ body_same sites m k
