-- Where certificates and proofs stand in what a server records and in messages: whether each is one.
use Rattle.std.specs.Prelude.{ℕ, ◌%◌, Bool, true, false, ◌&&◌, Option, List, [], ◌∷◌}
use Rattle.st_words.specs.declared.ids.Who.{Who}
use Rattle.st_words.specs.declared.statement.Item.{Item}
use Rattle.st_words.specs.declared.statement.Statement.{Statement}
use Rattle.st_words.specs.declared.statement.Statement.TheVariants.{LocalReport, GlobalReport}
use Rattle.st_message.specs.declared.message.Proof.{Proof}
use Rattle.st_message.specs.declared.message.ReportBody.{ReportBody}
use Rattle.st_message.specs.declared.message.ViewWords.TheVariants as view_words
use Rattle.st_message.specs.declared.message.Message.{Message}
use Rattle.st_message.specs.declared.message.Message.TheVariants as messages
use Rattle.st_message.specs.declared.change.Change.{Change}
use Rattle.st_message.specs.declared.change.Change.TheVariants.{EnterLocal, EnterGlobal, Made, Prepared, Accepted, Union, Executed}
use Rattle.st_protocol.specs.Words.{Bytes, Quorum, a_prepare, a_proposal, site_of}
use Rattle.st_protocol.specs.Keeping.{given}
use Rattle.st_protocol.specs.Known.{all_of}
use Rattle.st_protocol.specs.Certificates.{is_certificate, is_order_proof, is_view_proof, is_local_proof}

-- what an item of a site's local report says
abbrev pub prepare_of : ℕ → Item → Statement
prepare_of site i = a_prepare site i.view.0 i.local.0 i.number.0 i.value

-- by which seals hold, at sites of 3f+1 servers
module _ (holds : Who → Statement → Bytes → Bool) (f sites : ℕ) where
  -- what an item of a global report says, of the site that leads its view
  abbrev pub proposal_of : Item → Statement
  proposal_of i = a_proposal (i.view.0 % sites) i.view.0 i.local.0 i.number.0 i.value

  -- The certificate or proof that a change of a server of the site brings is one.
  abbrev pub record_is_certified : ℕ → Change → Bool
  record_is_certified site (EnterLocal local q) = is_local_proof holds f sites site local.0 q
  record_is_certified site (EnterGlobal view words) = is_view_proof holds f sites view.0 words
  record_is_certified site (Made leaf s) = true
  record_is_certified site (Prepared s q) = is_certificate holds f sites (site_of s) s q
  record_is_certified site (Accepted s q) = is_certificate holds f sites (site_of s) s q
  record_is_certified site (Union s q) = is_certificate holds f sites (site_of s) s q
  record_is_certified site (Executed number p) = is_order_proof holds f sites number.0 p.value p

  -- one Quorum per item, each a certificate of what the item says
  unfoldable pub items_are_certified : (Item → Statement) → List Item → List Quorum → Bool
  items_are_certified of_item [] [] = true
  items_are_certified of_item (i ∷ is) (q ∷ qs) = is_certificate holds f sites (site_of (of_item i)) (of_item i) q && items_are_certified of_item is qs
  items_are_certified of_item _ _ = false

  -- the order proof of a report's base, where there is one
  abbrev pub base_is_certified : ℕ → Option Proof → Bool
  base_is_certified base proof = given proof true (λ p. is_order_proof holds f sites base p.value p)

  -- a report of the statement with these Quorums and this proof of its base
  abbrev pub parts_are_certified : Statement → List Quorum → Option Proof → Bool
  parts_are_certified (LocalReport site local index view base items) quorums proof = items_are_certified (prepare_of site.0) items quorums && base_is_certified base proof
  parts_are_certified (GlobalReport site view index base items) quorums proof = items_are_certified proposal_of items quorums && base_is_certified base proof
  parts_are_certified _ quorums proof = true

  -- a report
  abbrev pub report_is_certified : ReportBody → Bool
  report_is_certified r = parts_are_certified r.statement r.quorums r.base

  -- Each certificate and each proof in a message is one.
  abbrev pub message_is_certified : Message → Bool
  message_is_certified (messages.Certificate s q) = is_certificate holds f sites (site_of s) s q
  message_is_certified (messages.OrderProof number p) = is_order_proof holds f sites number.0 p.value p
  message_is_certified (messages.Report r) = report_is_certified r
  message_is_certified (messages.Bundle rs) = all_of report_is_certified rs
  message_is_certified (messages.ViewProof (view_words.Local s q)) = is_certificate holds f sites (site_of s) s q
  message_is_certified (messages.ViewProof (view_words.Global view words)) = is_view_proof holds f sites view.0 words
  message_is_certified _ = true
