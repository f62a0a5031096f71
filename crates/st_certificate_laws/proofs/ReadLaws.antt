-- In what a server reads, and that is in range, each certificate and each proof is one.
use Rattle.std.proofs.Common.{◌≡◌, ℕ, ◌+◌, true, List, [], ◌∷◌, length, subst, sym, refl, arith}
use Rattle.std.proofs.lemmas.List.Elements.{recursion_from_All}
use Rattle.std.proofs.lemmas.Bool.{and_from}
use Rattle.std.specs.Prelude.{◌&&◌, Option, Some, None}
use Rattle.std.specs.List.{AllByRecursion as Each}
use Rattle.std.specs.Option.{IfSome}
use Rattle.st_fields.specs.Spelling.{KeepsEach}
use Rattle.st_words.specs.declared.statement.Item.{Item}
use Rattle.st_words.specs.declared.statement.Statement.{Statement}
use Rattle.st_words.specs.declared.statement.Statement.TheVariants.{Proposal, LocalReport, GlobalReport}
use Rattle.st_message.specs.declared.message.SiteWord.{SiteWord}
use Rattle.st_message.specs.declared.message.Proof.{Proof}
use Rattle.st_message.specs.declared.message.ReportBody.{ReportBody}
use Rattle.st_message.specs.declared.message.ViewWords.TheVariants as view_words
use Rattle.st_message.specs.declared.message.Message.{Message}
use Rattle.st_message.specs.declared.message.Message.TheVariants as messages
use Rattle.st_wire.specs.declared.rising.Rising.{Rising}
use Rattle.st_wire.specs.Ranges.{KeepsSigned, after_signed, KeepsQuorum, KeepsSite, after_site, KeepsSites, KeepsBase, KeepsBacked, KeepsReport, any_body, after_body, first}
use Rattle.st_wire.specs.Kind.{items_of, base_of}
use Rattle.st_wire.specs.declared.report.Bundled.{Bundled}
use Rattle.st_protocol.specs.Words.{Quorum, an_accept, a_global_vc, site_of}
use Rattle.st_protocol.specs.Certificates.{seals_hold, is_certificate, words_hold, are_sites, is_order_proof, is_view_proof}
use Rattle.st_protocol.specs.Duty.{Clean}
use Rattle.st_protocol.specs.World.{Deployment, seat_of, reads}
use Rattle.st_protocol.proofs.SameLaws.{same_value-Decides}
use Rattle.st_ranges.specs.Ranges.{MessageInRange, ReadingInRange}
use Rattle.st_frame_laws.specs.Exact.{StatementInDeployment, SignedInDeployment, QuorumIsExact, WordIsExact, SitesAreExact, ProofIsExact, ReportIsExact, MessageIsExact}
use Rattle.st_honest_laws.specs.Honest.{SealsAreRead}
use Rattle.st_honest_laws.proofs.SealFacts.{QuorumHas, WordsHave, ProofHas, BaseHas, ItemsHave, PartsHave, ReportHas, MessageHas, seals_message}
use Rattle.st_log_laws.proofs.CheckedLaws.{Holds, IsChecked, reads_checked}
use Rattle.st_certificate_laws.specs.Certified.{prepare_of, proposal_of, items_are_certified, base_is_certified, parts_are_certified, report_is_certified, message_is_certified}
use Rattle.st_certificate_laws.proofs.QuorumLaws.{seal_from, no_seals, certificate_from, word_from, no_words, sites_from}
use Rattle.st_certificate_laws.proofs.CertificateFacts.{Brings, Leads, TakenHas}
use Rattle.st_certificate_laws.proofs.SlotParts.{all_of_each}

module _ {Wire : Type 0} (d : Deployment Wire) where
  -- seals that check and rise pass the test
  seals_read : (s : Statement) (q : Quorum) (r : Rising) → QuorumHas (Holds d) s q → Each (SignedInDeployment d) q → KeepsEach KeepsSigned after_signed r q →
      seals_hold d.formats.holds d.f d.sites (site_of s) s r.least q ≡ true
  seals_read s [] r h k e = no_seals d.formats.holds d.f d.sites (site_of s) s r.least
  seals_read s (x ∷ xs) r h k e =
      seal_from d.formats.holds d.f d.sites (site_of s) s r.least x xs e.0.0 k.0 h.0 (seals_read s xs (record { least = x.index + 1 }) h.1 k.1 e.1)

  -- a certificate
  quorum_read : (s : Statement) (q : Quorum) → QuorumHas (Holds d) s q → QuorumIsExact d q → KeepsQuorum q → is_certificate d.formats.holds d.f d.sites (site_of s) s q ≡ true
  quorum_read s q h k e = certificate_from d.formats.holds d.f d.sites (site_of s) s q k.0 (seals_read s q first h k.1 e.1)

  module _ (of_site : ℕ → Statement) (same : (s : ℕ) → site_of (of_site s) ≡ s) where
    -- words of sites that rise, each with its certificate
    words_read : (ws : List SiteWord) (r : Rising) → WordsHave (Holds d) of_site ws → Each (WordIsExact d) ws →
        KeepsEach KeepsSite after_site r ws → words_hold d.formats.holds d.f d.sites of_site r.least ws ≡ true
    words_read [] r h k e = no_words d.formats.holds d.f d.sites of_site r.least
    words_read (w ∷ ws) r h k e =
        word_from d.formats.holds d.f d.sites of_site r.least w ws e.0.0 k.0.0
        (subst (λ n. is_certificate d.formats.holds d.f d.sites n (of_site w.site.0) w.quorum ≡ true) (same w.site.0) (quorum_read (of_site w.site.0) w.quorum h.0 k.0.1 e.0.1))
        (words_read ws (record { least = w.site.0 + 1 }) h.1 k.1 e.1)

    -- a majority of them
    sites_read : (ws : List SiteWord) → WordsHave (Holds d) of_site ws → SitesAreExact d ws → KeepsSites ws → are_sites d.formats.holds d.f d.sites of_site ws ≡ true
    sites_read ws h k e = sites_from d.formats.holds d.f d.sites of_site ws k.0 (words_read ws first h k.1 e.1)

  -- the proof of a view
  view_read : (view : ℕ) (ws : List SiteWord) → WordsHave (Holds d) (λ s. a_global_vc s view) ws → SitesAreExact d ws → KeepsSites ws → is_view_proof d.formats.holds d.f d.sites view ws ≡ true
  unfolding is_view_proof
  view_read view ws h k e = sites_read (λ s. a_global_vc s view) (λ s. refl) ws h k e

  -- the proof of an order
  proof_read : (n : ℕ) (p : Proof) → ProofHas (Holds d) n p → ProofIsExact d p → KeepsSites p.sites → is_order_proof d.formats.holds d.f d.sites n p.value p ≡ true
  unfolding is_order_proof
  proof_read n p h k e =
      and_from _ (are_sites d.formats.holds d.f d.sites (λ site. an_accept site p.view.0 n p.value) p.sites) ((same_value-Decides p.value p.value).1 refl)
      (sites_read (λ site. an_accept site p.view.0 n p.value) (λ s. refl) p.sites h k.1 e)

  -- ---- reports

  -- the certificates behind items
  items_read : (of_item : Item → Statement) (is : List Item) (qs : List Quorum) → length qs ≡ length is → ItemsHave (Holds d) of_item is qs → Each (QuorumIsExact d) qs → Each KeepsQuorum qs →
      items_are_certified d.formats.holds d.f d.sites of_item is qs ≡ true
  unfolding items_are_certified ItemsHave
  items_read of_item [] [] l h k e = refl
  items_read of_item [] (q ∷ qs) l h k e = absurd (omega (arith, l))
  items_read of_item (i ∷ is) [] l h k e = absurd (omega (arith, l))
  items_read of_item (i ∷ is) (q ∷ qs) l h k e =
      and_from (is_certificate d.formats.holds d.f d.sites (site_of (of_item i)) (of_item i) q) (items_are_certified d.formats.holds d.f d.sites of_item is qs) (quorum_read (of_item i) q h.0 k.0 e.0)
      (items_read of_item is qs (omega (arith, l)) h.1 k.1 e.1)

  -- the proof of a report's base
  base_read : (n : ℕ) (base : Option Proof) → BaseHas (Holds d) n base → IfSome base (ProofIsExact d) → KeepsBase n base → base_is_certified d.formats.holds d.f d.sites n base ≡ true
  base_read n None h k e = refl
  base_read n (Some p) h k e = proof_read n p h k e.1.1

  -- a report
  report_read : (r : ReportBody) → ReportHas (Holds d) d.sites r → ReportIsExact d r → KeepsBacked r → report_is_certified d.formats.holds d.f d.sites r ≡ true
  report_read r h k e = by r.statement h.1 e.2 e.4
    where
      each : Each KeepsQuorum r.quorums
      each = recursion_from_All KeepsQuorum r.quorums e.3

      both : (of_item : Item → Statement) (items : List Item) (n : ℕ) → length r.quorums ≡ length items → ItemsHave (Holds d) of_item items r.quorums → BaseHas (Holds d) n r.base → KeepsBase n r.base →
          (items_are_certified d.formats.holds d.f d.sites of_item items r.quorums && base_is_certified d.formats.holds d.f d.sites n r.base) ≡ true
      both of_item items n l g b o =
          and_from (items_are_certified d.formats.holds d.f d.sites of_item items r.quorums) (base_is_certified d.formats.holds d.f d.sites n r.base)
          (items_read of_item items r.quorums l g k.0.1 each) (base_read n r.base b k.1 o)

      by : (s : Statement) → PartsHave (Holds d) d.sites s r.quorums r.base → length r.quorums ≡ length (items_of s) → KeepsBase (base_of s) r.base → parts_are_certified d.formats.holds d.f d.sites s r.quorums r.base ≡ true
      by (LocalReport site local index view base items) g l o = both (prepare_of site.0) items base l g.0 g.1 o
      by (GlobalReport site view index base items) g l o = both (proposal_of d.formats.holds d.f d.sites) items base l g.0 g.1 o
      by _ g l o = refl

  -- a bundle's reports
  reports_read : (rs : List ReportBody) (b : Bundled) → Each (ReportHas (Holds d) d.sites) rs → Each (ReportIsExact d) rs → KeepsEach KeepsReport after_body b rs →
      Each (λ (r : ReportBody). report_is_certified d.formats.holds d.f d.sites r ≡ true) rs
  reports_read [] b h k e = tt
  reports_read (r ∷ rs) b h k e = (report_read r h.0 k.0 e.0.1, reports_read rs (after_body b r) h.1 k.1 e.1)

  -- ---- messages

  -- the site of a Proposal leads its view
  led : (site index : ℕ) (s : Statement) → StatementInDeployment d s → Leads d.formats.holds (seat_of d site index) s
  led site index (Proposal leading view local number value) e = sym e.0.1
  led site index _ e = tt

  -- A message that is read with all tests, and in range.
  pub read_brings : (site index : ℕ) (wire : Wire) (m : Message) → IsChecked d wire m → MessageInRange m → TakenHas d.formats.holds (seat_of d site index) m
  read_brings site index wire m checked inside = by m (seals_message (Holds d) d.sites m checked.holds) checked.exact inside
    where
      by : (m : Message) → MessageHas (Holds d) d.sites m → MessageIsExact d m → MessageInRange m → TakenHas d.formats.holds (seat_of d site index) m
      by (messages.Assign view local number value client_seal signed) h k r = (h.1, tt)
      by (messages.Share s signed) h k r = (h, tt)
      by (messages.Certificate s q) h k r = (quorum_read s q h k.1 r.0.1, led site index s k.0)
      by (messages.OrderProof number p) h k r = (proof_read number.0 p h k r.0.1.1, tt)
      by (messages.Report r) h k e = (report_read r h k e.0.1, tt)
      by (messages.Bundle rs) h k e =
          (all_of_each (report_is_certified d.formats.holds d.f d.sites) rs (reports_read rs any_body h k.1 e.0.1), tt)
      by (messages.ViewProof (view_words.Local s q)) h k r = (quorum_read s q h k.1 r.0.1, tt)
      by (messages.ViewProof (view_words.Global view words)) h k r = (view_read view.0 words h k r.0.1, tt)
      by (messages.Update u seal) h k r = (refl, tt)
      by (messages.Ask server executed view local) h k r = (refl, tt)
      by (messages.Reply s signed) h k r = (refl, tt)

  -- So in what a server reads, and that is in range, each certificate and each proof is one.
  pub read_certified : SealsAreRead d MessageInRange → (wire : Wire) (m : Message) → ReadingInRange (d.formats.read wire) → reads d wire ≡ Clean m → message_is_certified d.formats.holds d.f d.sites m ≡ true
  read_certified formats wire m inside e =
      let checked : IsChecked d wire m = reads_checked d MessageInRange formats wire m (λ n r. subst ReadingInRange r inside) e in
      by m (read_brings 0 0 wire m checked (subst ReadingInRange checked.read inside)).0
    where
      by : (m : Message) → Brings d.formats.holds (seat_of d 0 0) m → message_is_certified d.formats.holds d.f d.sites m ≡ true
      by (messages.Assign view local number value client_seal signed) h = refl
      by (messages.Share s signed) h = refl
      by m h = h
