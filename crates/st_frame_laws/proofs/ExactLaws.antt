-- A message is exact just where all that it names is known; so each message that is read is exact, in formats that test for it.
use Rattle.std.proofs.Common.{◌≡◌, ◌∙◌, sym, ap, refl, ℕ, ◌+◌, ◌*◌, ◌<◌, Bool, true, false, cond, nat_eq, nat_lt, List, [], ◌∷◌, length}
use Rattle.std.proofs.lemmas.Bool.{eqb-true, ltb-true, and_parts, and_from}
use Rattle.std.specs.Prelude.{◌%◌, ◌/◌, ◌&&◌, Option, Some, None}
use Rattle.std.specs.List.{AllByRecursion as Each}
use Rattle.std.specs.Option.{IfSome}
use Rattle.st_words.specs.declared.value.Value.{Value}
use Rattle.st_words.specs.declared.value.Value.TheVariants as values
use Rattle.st_words.specs.declared.statement.Item.{Item}
use Rattle.st_words.specs.declared.statement.Statement.{Statement}
use Rattle.st_words.specs.declared.statement.Statement.TheVariants.{Prepare, Proposal, Accept, LocalVc, GlobalVc, LocalReport, GlobalReport, LocalUnion, GlobalUnion, Reply, ClientUpdate}
use Rattle.st_seal.specs.declared.quorum.Signed.{Signed}
use Rattle.st_message.specs.declared.message.SiteWord.{SiteWord}
use Rattle.st_message.specs.declared.message.Proof.{Proof}
use Rattle.st_message.specs.declared.message.ReportBody.{ReportBody}
use Rattle.st_message.specs.declared.message.ViewWords.TheVariants as view_words
use Rattle.st_message.specs.declared.message.Message.{Message}
use Rattle.st_message.specs.declared.message.Message.TheVariants as messages
use Rattle.st_message.specs.declared.reason.Reason.TheVariants.{Unknown}
use Rattle.st_protocol.specs.Words.{Quorum}
use Rattle.st_protocol.specs.Keeping.{given}
use Rattle.st_protocol.specs.Duty.{Reading, Faulty, Clean}
use Rattle.st_protocol.specs.Known.{all_of, knows_value, knows_own_item, knows_item, knows_statement, knows_signed, knows_quorum, knows_site_word, knows_sites, knows_proof, knows_report, knows}
use Rattle.st_protocol.specs.World.{Deployment, with_known, read_known}
use Rattle.st_frame_laws.specs.Exact.{ValueInDeployment, IsLeader, OwnItemInDeployment, ItemInDeployment, StatementInDeployment, SignedInDeployment, QuorumIsExact, WordIsExact, SitesAreExact, ProofIsExact, ReportIsExact, MessageIsExact}

-- ---- tests and facts

-- of each that passes a test, the fact
facts : {A : Type 0} (test : A → Bool) (Fact : A → Type 0) → ((x : A) → test x ≡ true → Fact x) → (xs : List A) → all_of test xs ≡ true → Each Fact xs
unfolding all_of
facts test Fact give [] e = tt
facts test Fact give (x ∷ xs) e = let parts = and_parts (test x) (all_of test xs) e in (give x parts.0, facts test Fact give xs parts.1)

-- of each with the fact, the test
tests : {A : Type 0} (test : A → Bool) (Fact : A → Type 0) → ((x : A) → Fact x → test x ≡ true) → (xs : List A) → Each Fact xs → all_of test xs ≡ true
unfolding all_of
tests test Fact give [] h = refl
tests test Fact give (x ∷ xs) h = and_from (test x) (all_of test xs) (give x h.0) (tests test Fact give xs h.1)

module _ {Wire : Type 0} (d : Deployment Wire) where
  -- ---- from the tests

  value_in : (v : Value) → knows_value d.sites d.f d.clients v ≡ true → ValueInDeployment d v
  value_in values.Noop e = tt
  value_in (values.Update u) e = ltb-true u.client.0 d.clients e

  leader_in : (site view : ℕ) → (nat_lt site d.sites && nat_eq (view % d.sites) site) ≡ true → IsLeader d site view
  leader_in site view e = let parts = and_parts (nat_lt site d.sites) (nat_eq (view % d.sites) site) e in (ltb-true site d.sites parts.0, eqb-true (view % d.sites) site parts.1)

  own_item_in : (site : ℕ) (i : Item) → knows_own_item d.sites d.f d.clients site i ≡ true → OwnItemInDeployment d site i
  own_item_in site i e =
      let parts = and_parts (knows_value d.sites d.f d.clients i.value) (nat_eq (i.view.0 % d.sites) site) e in (value_in i.value parts.0, eqb-true (i.view.0 % d.sites) site parts.1)

  server_in : (site index : ℕ) → (nat_lt site d.sites && nat_lt index (3 * d.f + 1)) ≡ true → (site < d.sites) × (index < 3 * d.f + 1)
  server_in site index e = let parts = and_parts (nat_lt site d.sites) (nat_lt index (3 * d.f + 1)) e in (ltb-true site d.sites parts.0, ltb-true index (3 * d.f + 1) parts.1)

  statement_in : (s : Statement) → knows_statement d.sites d.f d.clients s ≡ true → StatementInDeployment d s
  unfolding knows_statement
  statement_in (Prepare site view local number value) e =
      let parts = and_parts (nat_lt site.0 d.sites && nat_eq (view.0 % d.sites) site.0) (knows_value d.sites d.f d.clients value) e in (leader_in site.0 view.0 parts.0, value_in value parts.1)
  statement_in (Proposal site view local number value) e =
      let parts = and_parts (nat_lt site.0 d.sites && nat_eq (view.0 % d.sites) site.0) (knows_value d.sites d.f d.clients value) e in (leader_in site.0 view.0 parts.0, value_in value parts.1)
  statement_in (Accept site view number value) e =
      let parts = and_parts (nat_lt site.0 d.sites) (knows_value d.sites d.f d.clients value) e in (ltb-true site.0 d.sites parts.0, value_in value parts.1)
  statement_in (LocalVc site local) e = ltb-true site.0 d.sites e
  statement_in (GlobalVc site view) e = ltb-true site.0 d.sites e
  statement_in (LocalReport site local index view base items) e =
      let parts = and_parts (nat_lt site.0 d.sites && nat_lt index (3 * d.f + 1)) (all_of (knows_own_item d.sites d.f d.clients site.0) items) e in
      (server_in site.0 index parts.0, facts (knows_own_item d.sites d.f d.clients site.0) (OwnItemInDeployment d site.0) (own_item_in site.0) items parts.1)
  statement_in (GlobalReport site view index base items) e =
      let parts = and_parts (nat_lt site.0 d.sites && nat_lt index (3 * d.f + 1)) (all_of (knows_item d.sites d.f d.clients) items) e in
      (server_in site.0 index parts.0, facts (knows_item d.sites d.f d.clients) (ItemInDeployment d) (λ i. value_in i.value) items parts.1)
  statement_in (LocalUnion site local greatest base items) e =
      let parts = and_parts (nat_lt site.0 d.sites) (all_of (knows_own_item d.sites d.f d.clients site.0) items) e in
      (ltb-true site.0 d.sites parts.0, facts (knows_own_item d.sites d.f d.clients site.0) (OwnItemInDeployment d site.0) (own_item_in site.0) items parts.1)
  statement_in (GlobalUnion site view base items) e =
      let parts = and_parts (nat_lt site.0 d.sites) (all_of (knows_item d.sites d.f d.clients) items) e in
      (ltb-true site.0 d.sites parts.0, facts (knows_item d.sites d.f d.clients) (ItemInDeployment d) (λ i. value_in i.value) items parts.1)
  statement_in (Reply site client time number result) e =
      let parts = and_parts (nat_lt site.0 d.sites) (nat_lt client.0 d.clients) e in (ltb-true site.0 d.sites parts.0, ltb-true client.0 d.clients parts.1)
  statement_in (ClientUpdate u) e = ltb-true u.client.0 d.clients e

  signed_in : (x : Signed) → knows_signed d.sites d.f d.clients x ≡ true → SignedInDeployment d x
  signed_in x e = ltb-true x.index (3 * d.f + 1) e

  quorum_exact : (q : Quorum) → knows_quorum d.sites d.f d.clients q ≡ true → QuorumIsExact d q
  unfolding knows_quorum
  quorum_exact q e =
      let parts = and_parts (nat_eq (length q) (2 * d.f + 1)) (all_of (knows_signed d.sites d.f d.clients) q) e in
      (eqb-true (length q) (2 * d.f + 1) parts.0, facts (knows_signed d.sites d.f d.clients) (SignedInDeployment d) signed_in q parts.1)

  word_exact : (w : SiteWord) → knows_site_word d.sites d.f d.clients w ≡ true → WordIsExact d w
  word_exact w e =
      let parts = and_parts (nat_lt w.site.0 d.sites) (knows_quorum d.sites d.f d.clients w.quorum) e in (ltb-true w.site.0 d.sites parts.0, quorum_exact w.quorum parts.1)

  sites_exact : (ws : List SiteWord) → knows_sites d.sites d.f d.clients ws ≡ true → SitesAreExact d ws
  unfolding knows_sites
  sites_exact ws e =
      let parts = and_parts (nat_eq (length ws) (d.sites / 2 + 1)) (all_of (knows_site_word d.sites d.f d.clients) ws) e in
      (eqb-true (length ws) (d.sites / 2 + 1) parts.0, facts (knows_site_word d.sites d.f d.clients) (WordIsExact d) word_exact ws parts.1)

  proof_exact : (p : Proof) → knows_proof d.sites d.f d.clients p ≡ true → ProofIsExact d p
  unfolding knows_proof
  proof_exact p e = let parts = and_parts (knows_value d.sites d.f d.clients p.value) (knows_sites d.sites d.f d.clients p.sites) e in (value_in p.value parts.0, sites_exact p.sites parts.1)

  base_exact : (base : Option Proof) → given base true (knows_proof d.sites d.f d.clients) ≡ true → IfSome base (ProofIsExact d)
  base_exact None e = tt
  base_exact (Some p) e = proof_exact p e

  report_exact : (r : ReportBody) → knows_report d.sites d.f d.clients r ≡ true → ReportIsExact d r
  unfolding knows_report
  report_exact r e =
      let whole = and_parts (knows_statement d.sites d.f d.clients r.statement && all_of (knows_quorum d.sites d.f d.clients) r.quorums) (given r.base true (knows_proof d.sites d.f d.clients)) e in
      let parts = and_parts (knows_statement d.sites d.f d.clients r.statement) (all_of (knows_quorum d.sites d.f d.clients) r.quorums) whole.0 in
      ((statement_in r.statement parts.0, facts (knows_quorum d.sites d.f d.clients) (QuorumIsExact d) quorum_exact r.quorums parts.1), base_exact r.base whole.1)

  -- What is known is exact.
  pub message_exact : (m : Message) → knows d.sites d.f d.clients m ≡ true → MessageIsExact d m
  unfolding knows
  message_exact (messages.Update u seal) e = ltb-true u.client.0 d.clients e
  message_exact (messages.Assign view local number value client_seal signed) e =
      let parts = and_parts (knows_value d.sites d.f d.clients value) (knows_signed d.sites d.f d.clients signed) e in (value_in value parts.0, signed_in signed parts.1)
  message_exact (messages.Share s signed) e =
      let parts = and_parts (knows_statement d.sites d.f d.clients s) (knows_signed d.sites d.f d.clients signed) e in (statement_in s parts.0, signed_in signed parts.1)
  message_exact (messages.Certificate s q) e =
      let parts = and_parts (knows_statement d.sites d.f d.clients s) (knows_quorum d.sites d.f d.clients q) e in (statement_in s parts.0, quorum_exact q parts.1)
  message_exact (messages.OrderProof number p) e = proof_exact p e
  message_exact (messages.Report r) e = report_exact r e
  message_exact (messages.Bundle rs) e =
      let parts = and_parts (nat_eq (length rs) (2 * d.f + 1)) (all_of (knows_report d.sites d.f d.clients) rs) e in
      (eqb-true (length rs) (2 * d.f + 1) parts.0, facts (knows_report d.sites d.f d.clients) (ReportIsExact d) report_exact rs parts.1)
  message_exact (messages.ViewProof (view_words.Local s q)) e =
      let parts = and_parts (knows_statement d.sites d.f d.clients s) (knows_quorum d.sites d.f d.clients q) e in (statement_in s parts.0, quorum_exact q parts.1)
  message_exact (messages.ViewProof (view_words.Global view words)) e = sites_exact words e
  message_exact (messages.Ask server executed view local) e = server_in server.site server.index e
  message_exact (messages.Reply s signed) e =
      let parts = and_parts (knows_statement d.sites d.f d.clients s) (knows_signed d.sites d.f d.clients signed) e in (statement_in s parts.0, signed_in signed parts.1)

  -- ---- what is read

  -- What a client or a server reads as a message was read as this, and all that it names is known.
  pub known_parts : (wire : Wire) (m : Message) → read_known d wire ≡ Clean m → (d.formats.read wire ≡ Clean m) × (d.formats.knows m ≡ true)
  known_parts wire m e = by (d.formats.read wire) e
    where
      by_test : (n : Message) (b : Bool) → d.formats.knows n ≡ b → cond b (Clean n) (Faulty Unknown) ≡ Clean m → (Clean n ≡ Clean m) × (d.formats.knows m ≡ true)
      by_test n true is f = let same : n ≡ m = let clean : Clean n ≡ Clean m = f in cc in (f, sym (ap d.formats.knows same) ∙ is)
      by_test n false is f = absurd (let no : Faulty Unknown ≡ Clean m = f in cc)

      by : (r : Reading) → with_known d r ≡ Clean m → (r ≡ Clean m) × (d.formats.knows m ≡ true)
      by (Faulty reason) f = absurd (let no : Faulty reason ≡ Clean m = f in cc)
      by (Clean n) f = by_test n (d.formats.knows n) refl f

  -- So in formats that test for what is known, what is read is exact.
  pub read_exact : ((m : Message) → d.formats.knows m ≡ true → knows d.sites d.f d.clients m ≡ true) → (wire : Wire) (m : Message) → read_known d wire ≡ Clean m → MessageIsExact d m
  read_exact test wire m e = message_exact m (test m (known_parts wire m e).1)
