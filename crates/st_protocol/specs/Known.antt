-- What is looked at before a part is asked: whether all that a message names is of the deployment, and which
-- seals it holds, in byte order.
use Rattle.std.specs.Prelude.{ℕ, ◌+◌, ◌*◌, ◌%◌, ◌/◌, Bool, true, cond, nat_eq, nat_lt, ◌&&◌, List, [], ◌∷◌, ◌++◌, length}
use Rattle.st_words.specs.declared.ids.Who.{Who}
use Rattle.st_words.specs.declared.ids.Who.TheVariants as parties
use Rattle.st_words.specs.declared.value.Value.{Value}
use Rattle.st_words.specs.declared.value.Value.TheVariants as values
use Rattle.st_words.specs.declared.statement.Item.{Item}
use Rattle.st_words.specs.declared.statement.Statement.{Statement}
use Rattle.st_words.specs.declared.statement.Statement.TheVariants.{Prepare, Proposal, Accept, LocalVc, GlobalVc, LocalReport, GlobalReport, LocalUnion, GlobalUnion, Reply, ClientUpdate}
use Rattle.st_seal.specs.declared.quorum.Signed.{Signed}
use Rattle.st_message.specs.declared.message.SiteWord.{SiteWord}
use Rattle.st_message.specs.declared.message.Proof.{Proof}
use Rattle.st_message.specs.declared.message.ReportBody.{ReportBody}
use Rattle.st_message.specs.declared.message.ViewWords.{ViewWords}
use Rattle.st_message.specs.declared.message.ViewWords.TheVariants as view_words
use Rattle.st_message.specs.declared.message.Message.{Message}
use Rattle.st_message.specs.declared.message.Message.TheVariants as messages
use Rattle.st_protocol.specs.Words.{Bytes, Quorum, server_at, a_prepare, a_proposal, an_accept, a_global_vc, site_of}
use Rattle.st_protocol.specs.Keeping.{given}
use Rattle.st_protocol.specs.Assigning.{is_empty}

-- each passes the test
unfoldable pub all_of : {A : Type 0} → (A → Bool) → List A → Bool
all_of test [] = true
all_of test (x ∷ xs) = test x && all_of test xs

-- ---- known: of these sites, of 3f+1 servers each, and of these clients

module _ (sites f clients : ℕ) where
  -- a site of the deployment
  abbrev pub knows_site : ℕ → Bool
  knows_site site = nat_lt site sites

  -- the index of a server of a site
  abbrev pub knows_index : ℕ → Bool
  knows_index index = nat_lt index (3 * f + 1)

  -- a client of the deployment
  abbrev pub knows_client : ℕ → Bool
  knows_client client = nat_lt client clients

  -- a value whose client is of the deployment
  abbrev pub knows_value : Value → Bool
  knows_value values.Noop = true
  knows_value (values.Update u) = knows_client u.client.0

  -- an item whose certificate is the site's own
  abbrev pub knows_own_item : ℕ → Item → Bool
  knows_own_item site i = knows_value i.value && nat_eq (i.view.0 % sites) site

  -- an item whose value is known
  abbrev pub knows_item : Item → Bool
  knows_item i = knows_value i.value

  -- All that a statement names is of the deployment, and a Prepare's or Proposal's site leads its view.
  unfoldable pub knows_statement : Statement → Bool
  knows_statement (Prepare site view local number value) = knows_site site.0 && nat_eq (view.0 % sites) site.0 && knows_value value
  knows_statement (Proposal site view local number value) = knows_site site.0 && nat_eq (view.0 % sites) site.0 && knows_value value
  knows_statement (Accept site view number value) = knows_site site.0 && knows_value value
  knows_statement (LocalVc site local) = knows_site site.0
  knows_statement (GlobalVc site view) = knows_site site.0
  knows_statement (LocalReport site local index view base items) = knows_site site.0 && knows_index index && all_of (knows_own_item site.0) items
  knows_statement (GlobalReport site view index base items) = knows_site site.0 && knows_index index && all_of knows_item items
  knows_statement (LocalUnion site local greatest base items) = knows_site site.0 && all_of (knows_own_item site.0) items
  knows_statement (GlobalUnion site view base items) = knows_site site.0 && all_of knows_item items
  knows_statement (Reply site client time number result) = knows_site site.0 && knows_client client.0
  knows_statement (ClientUpdate update) = knows_client update.client.0

  -- a seal of a server of a site
  abbrev pub knows_signed : Signed → Bool
  knows_signed signed = knows_index signed.index

  -- A Quorum of exactly 2f+1 seals.
  unfoldable pub knows_quorum : Quorum → Bool
  knows_quorum q = nat_eq (length q) (2 * f + 1) && all_of knows_signed q

  -- a site's word whose site and Quorum are known
  abbrev pub knows_site_word : SiteWord → Bool
  knows_site_word word = knows_site word.site.0 && knows_quorum word.quorum

  -- Words of exactly a majority of sites.
  unfoldable pub knows_sites : List SiteWord → Bool
  knows_sites words = nat_eq (length words) (sites / 2 + 1) && all_of knows_site_word words

  -- An order proof whose value and sites are known.
  unfoldable pub knows_proof : Proof → Bool
  knows_proof p = knows_value p.value && knows_sites p.sites

  -- A report of which all parts are known.
  unfoldable pub knows_report : ReportBody → Bool
  knows_report r = knows_statement r.statement && all_of knows_quorum r.quorums && given r.base true knows_proof

  -- the proof of a view of which all parts are known
  abbrev pub knows_words : ViewWords → Bool
  knows_words (view_words.Local s q) = knows_statement s && knows_quorum q
  knows_words (view_words.Global view words) = knows_sites words

  -- All sites, indices and clients that it names are of the deployment, and its lists have the right lengths.
  unfoldable pub knows : Message → Bool
  knows (messages.Update u seal) = knows_client u.client.0
  knows (messages.Assign view local number value client_seal signed) = knows_value value && knows_signed signed
  knows (messages.Share s signed) = knows_statement s && knows_signed signed
  knows (messages.Certificate s q) = knows_statement s && knows_quorum q
  knows (messages.OrderProof number p) = knows_proof p
  knows (messages.Report r) = knows_report r
  knows (messages.Bundle rs) = nat_eq (length rs) (2 * f + 1) && all_of knows_report rs
  knows (messages.ViewProof words) = knows_words words
  knows (messages.Ask server executed view local) = knows_site server.site && knows_index server.index
  knows (messages.Reply s signed) = knows_statement s && knows_signed signed

-- ---- the seals of a message

-- A seal, who is named as its maker, and over what.
pub record Sealed : Type 0 where
  pub who : Who
  pub statement : Statement
  pub seal : Bytes

-- the seals of a Quorum, each over the statement
unfoldable pub in_quorum : ℕ → Statement → Quorum → List Sealed
in_quorum site s [] = []
in_quorum site s (x ∷ xs) = record { who = server_at site x.index; statement = s; seal = x.seal } ∷ in_quorum site s xs

-- each site's Quorum over that site's statement
unfoldable pub in_sites : (ℕ → Statement) → List SiteWord → List Sealed
in_sites of_site [] = []
in_sites of_site (x ∷ xs) = in_quorum x.site.0 (of_site x.site.0) x.quorum ++ in_sites of_site xs

-- the seals of an order proof of the number
abbrev pub in_proof : ℕ → Proof → List Sealed
in_proof number p = in_sites (λ site. an_accept site p.view.0 number p.value) p.sites

-- one Quorum per item, each over what the item says
unfoldable pub in_items : (Item → Statement) → List Item → List Quorum → List Sealed
in_items of_item (i ∷ is) (q ∷ qs) = in_quorum (site_of (of_item i)) (of_item i) q ++ in_items of_item is qs
in_items of_item _ _ = []

-- the seals of a report's order proof, if it has one
abbrev pub in_base : ℕ → ReportBody → List Sealed
in_base base r = given r.base [] (in_proof base)

-- the client's seal in an assignment, if there is one
abbrev pub in_client_seal : Value → Bytes → List Sealed
in_client_seal values.Noop seal = []
in_client_seal (values.Update u) seal = cond (is_empty seal) [] (record { who = parties.Client u.client; statement = ClientUpdate u; seal = seal } ∷ [])

module _ (sites : ℕ) where
  -- a report's own seal, its items' and its base's; items of a local report are Prepares, of a global one Proposals
  abbrev pub in_report_as : ReportBody → Statement → List Sealed
  in_report_as r (LocalReport site local index view base items) =
      record { who = server_at site.0 index; statement = r.statement; seal = r.seal }
      ∷ in_items (λ (i : Item). a_prepare site.0 i.view.0 i.local.0 i.number.0 i.value) items r.quorums ++ in_base base r
  in_report_as r (GlobalReport site view index base items) =
      record { who = server_at site.0 index; statement = r.statement; seal = r.seal }
      ∷ in_items (λ (i : Item). a_proposal (i.view.0 % sites) i.view.0 i.local.0 i.number.0 i.value) items r.quorums ++ in_base base r
  in_report_as r _ = []

  -- the seals of a report
  abbrev pub in_report : ReportBody → List Sealed
  in_report r = in_report_as r r.statement

  -- the seals of reports
  unfoldable pub in_reports : List ReportBody → List Sealed
  in_reports [] = []
  in_reports (r ∷ rs) = in_report r ++ in_reports rs

  -- The seals of a message, in byte order.
  unfoldable pub seals_of : Message → List Sealed
  seals_of (messages.Update u seal) = record { who = parties.Client u.client; statement = ClientUpdate u; seal = seal } ∷ []
  seals_of (messages.Assign view local number value client_seal signed) =
      in_client_seal value client_seal ++ in_quorum (view.0 % sites) (a_prepare (view.0 % sites) view.0 local.0 number.0 value) (signed ∷ [])
  seals_of (messages.Share s signed) = in_quorum (site_of s) s (signed ∷ [])
  seals_of (messages.Certificate s q) = in_quorum (site_of s) s q
  seals_of (messages.OrderProof number p) = in_proof number.0 p
  seals_of (messages.Report r) = in_report r
  seals_of (messages.Bundle rs) = in_reports rs
  seals_of (messages.ViewProof (view_words.Local s q)) = in_quorum (site_of s) s q
  seals_of (messages.ViewProof (view_words.Global view words)) = in_sites (λ site. a_global_vc site view.0) words
  seals_of (messages.Ask server executed view local) = []
  seals_of (messages.Reply s signed) = in_quorum (site_of s) s (signed ∷ [])
