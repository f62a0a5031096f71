-- A fact of seals: of all that a message holds, of what a server records and answers, and what it gives of what is picked.
use Rattle.std.proofs.Common.{◌≡◌, ℕ, ◌+◌, Bool, true, false, cond, List, [], ◌∷◌, sym, subst, refl}
use Rattle.std.specs.Prelude.{◌%◌, Option, Some, None}
use Rattle.std.specs.Option.{IfSome}
use Rattle.std.specs.List.{AllByRecursion as Each}
use Rattle.st_words.specs.declared.ids.Who.TheVariants as parties
use Rattle.st_words.specs.declared.value.Value.{Value}
use Rattle.st_words.specs.declared.value.Value.TheVariants as values
use Rattle.st_words.specs.declared.value.Update.{Update}
use Rattle.st_words.specs.declared.statement.Item.{Item}
use Rattle.st_words.specs.declared.statement.Statement.{Statement}
use Rattle.st_words.specs.declared.statement.Statement.TheVariants.{Prepare, Proposal, LocalVc, GlobalVc, LocalReport, GlobalReport, ClientUpdate}
use Rattle.st_seal.specs.declared.quorum.Signed.{Signed}
use Rattle.st_message.specs.declared.message.SiteWord.{SiteWord}
use Rattle.st_message.specs.declared.message.Proof.{Proof}
use Rattle.st_message.specs.declared.message.ReportBody.{ReportBody}
use Rattle.st_message.specs.declared.message.ViewWords.TheVariants as view_words
use Rattle.st_message.specs.declared.message.Message.{Message}
use Rattle.st_message.specs.declared.message.Message.TheVariants as messages
use Rattle.st_message.specs.declared.change.Change.{Change}
use Rattle.st_message.specs.declared.change.Change.TheVariants.{EnterLocal, EnterGlobal, Made, Prepared, Accepted, Union, Executed}
use Rattle.st_protocol.specs.Words.{Bytes, Quorum, server_at, a_prepare, a_proposal, an_accept, a_local_vc, a_global_vc, site_of}
use Rattle.st_protocol.specs.Keeping.{given}
use Rattle.st_protocol.specs.State.{Here, Seat}
use Rattle.st_protocol.specs.Assigning.{is_empty}
use Rattle.st_protocol.specs.Questions.{held_of}
use Rattle.st_protocol.specs.Known.{Sealed, in_quorum, in_sites, in_proof, in_items, in_base, in_client_seal, in_report_as, in_report, in_reports, seals_of}
use Rattle.st_frame_laws.proofs.ChoiceLaws.{append_all, append_parts, if_any}
use Rattle.st_frame_laws.proofs.StateFrame.{Facts, ArePicked}

module _ (H : Sealed → Type 0) where
  -- ---- seals of servers over a statement

  -- a server's seal
  abbrev pub SignedHas : Statement → Signed → Type 0
  SignedHas s x = H (record { who = server_at (site_of s) x.index; statement = s; seal = x.seal })

  -- a Quorum's
  abbrev pub QuorumHas : Statement → Quorum → Type 0
  QuorumHas s q = Each (SignedHas s) q

  -- each site's, over that site's statement
  abbrev pub WordsHave : (ℕ → Statement) → List SiteWord → Type 0
  WordsHave of_site words = Each (λ (w : SiteWord). QuorumHas (of_site w.site.0) w.quorum) words

  -- an order proof's, of the number
  abbrev pub ProofHas : ℕ → Proof → Type 0
  ProofHas n p = WordsHave (λ site. an_accept site p.view.0 n p.value) p.sites

  -- one Quorum per item
  unfoldable pub ItemsHave : (Item → Statement) → List Item → List Quorum → Type 0
  ItemsHave of_item (i ∷ is) (q ∷ qs) = QuorumHas (of_item i) q × ItemsHave of_item is qs
  ItemsHave of_item _ _ = Unit {0}

  -- a client's
  abbrev pub ClientHas : Update → Bytes → Type 0
  ClientHas u seal = H (record { who = parties.Client u.client; statement = ClientUpdate u; seal = seal })

  -- the client's seal with a value
  abbrev pub ValueHas : Value → Bytes → Type 0
  ValueHas values.Noop seal = Unit {0}
  ValueHas (values.Update u) seal = is_empty seal ≡ false → ClientHas u seal

  -- ---- the same of lists as a message has them

  pub quorum_seals : (s : Statement) (q : Quorum) → QuorumHas s q → Each H (in_quorum (site_of s) s q)
  unfolding in_quorum
  quorum_seals s [] h = tt
  quorum_seals s (x ∷ xs) h = (h.0, quorum_seals s xs h.1)

  pub seals_quorum : (s : Statement) (q : Quorum) → Each H (in_quorum (site_of s) s q) → QuorumHas s q
  unfolding in_quorum
  seals_quorum s [] h = tt
  seals_quorum s (x ∷ xs) h = (h.0, seals_quorum s xs h.1)

  module _ (of_site : ℕ → Statement) (same : (s : ℕ) → site_of (of_site s) ≡ s) where
    words_seals : (words : List SiteWord) → WordsHave of_site words → Each H (in_sites of_site words)
    unfolding in_sites
    words_seals [] h = tt
    words_seals (w ∷ ws) h =
        append_all H (in_quorum w.site.0 (of_site w.site.0) w.quorum) (in_sites of_site ws)
        (subst (λ n. Each H (in_quorum n (of_site w.site.0) w.quorum)) (same w.site.0) (quorum_seals (of_site w.site.0) w.quorum h.0))
        (words_seals ws h.1)

    seals_words : (words : List SiteWord) → Each H (in_sites of_site words) → WordsHave of_site words
    unfolding in_sites
    seals_words [] h = tt
    seals_words (w ∷ ws) h =
        let parts = append_parts H (in_quorum w.site.0 (of_site w.site.0) w.quorum) (in_sites of_site ws) h in (
          seals_quorum (of_site w.site.0) w.quorum (subst (λ n. Each H (in_quorum n (of_site w.site.0) w.quorum)) (sym (same w.site.0)) parts.0),
          seals_words ws parts.1,
        )

  items_seals : (of_item : Item → Statement) (is : List Item) (qs : List Quorum) → ItemsHave of_item is qs → Each H (in_items of_item is qs)
  unfolding ItemsHave in_items
  items_seals of_item [] qs h = tt
  items_seals of_item (i ∷ is) [] h = tt
  items_seals of_item (i ∷ is) (q ∷ qs) h =
      append_all H (in_quorum (site_of (of_item i)) (of_item i) q) (in_items of_item is qs) (quorum_seals (of_item i) q h.0) (items_seals of_item is qs h.1)

  seals_items : (of_item : Item → Statement) (is : List Item) (qs : List Quorum) → Each H (in_items of_item is qs) → ItemsHave of_item is qs
  unfolding ItemsHave in_items
  seals_items of_item [] qs h = tt
  seals_items of_item (i ∷ is) [] h = tt
  seals_items of_item (i ∷ is) (q ∷ qs) h =
      let parts = append_parts H (in_quorum (site_of (of_item i)) (of_item i) q) (in_items of_item is qs) h in (seals_quorum (of_item i) q parts.0, seals_items of_item is qs parts.1)

  -- an order proof's seals
  pub proof_seals : (n : ℕ) (p : Proof) → ProofHas n p → Each H (in_proof n p)
  proof_seals n p h = words_seals (λ site. an_accept site p.view.0 n p.value) (λ s. refl) p.sites h

  pub seals_proof : (n : ℕ) (p : Proof) → Each H (in_proof n p) → ProofHas n p
  seals_proof n p h = seals_words (λ site. an_accept site p.view.0 n p.value) (λ s. refl) p.sites h

  -- the seals of words for a view
  pub view_seals : (y : ℕ) (words : List SiteWord) → WordsHave (λ s. a_global_vc s y) words → Each H (in_sites (λ s. a_global_vc s y) words)
  view_seals y words h = words_seals (λ s. a_global_vc s y) (λ s. refl) words h

  pub seals_view : (y : ℕ) (words : List SiteWord) → Each H (in_sites (λ s. a_global_vc s y) words) → WordsHave (λ s. a_global_vc s y) words
  seals_view y words h = seals_words (λ s. a_global_vc s y) (λ s. refl) words h

  -- ---- messages

  -- a report's base
  abbrev pub BaseHas : ℕ → Option Proof → Type 0
  BaseHas base proof = IfSome proof (ProofHas base)

  base_seals : (base : ℕ) (proof : Option Proof) → BaseHas base proof → Each H (given proof [] (in_proof base))
  base_seals base None h = tt
  base_seals base (Some p) h = proof_seals base p h

  seals_base : (base : ℕ) (proof : Option Proof) → Each H (given proof [] (in_proof base)) → BaseHas base proof
  seals_base base None h = tt
  seals_base base (Some p) h = seals_proof base p h

  module _ (sites : ℕ) where
    -- what an item of a report says: of a local one a Prepare, of a global one a Proposal
    abbrev pub local_item_of : ℕ → Item → Statement
    local_item_of site i = a_prepare site i.view.0 i.local.0 i.number.0 i.value

    abbrev pub global_item_of : Item → Statement
    global_item_of i = a_proposal (i.view.0 % sites) i.view.0 i.local.0 i.number.0 i.value

    -- the seals of items and base in a report
    abbrev pub PartsHave : Statement → List Quorum → Option Proof → Type 0
    PartsHave (LocalReport site local index view base items) quorums proof = ItemsHave (local_item_of site.0) items quorums × BaseHas base proof
    PartsHave (GlobalReport site view index base items) quorums proof = ItemsHave global_item_of items quorums × BaseHas base proof
    PartsHave _ quorums proof = Unit {0}

    -- the report's own seal
    abbrev pub OwnSealHas : Statement → Bytes → Type 0
    OwnSealHas (LocalReport site local index view base items) seal = SignedHas (LocalReport site local index view base items) (record { index = index; seal = seal })
    OwnSealHas (GlobalReport site view index base items) seal = SignedHas (GlobalReport site view index base items) (record { index = index; seal = seal })
    OwnSealHas _ seal = Unit {0}

    -- a report's
    abbrev pub ReportHas : ReportBody → Type 0
    ReportHas r = OwnSealHas r.statement r.seal × PartsHave r.statement r.quorums r.base

    pub report_seals : (r : ReportBody) → ReportHas r → Each H (in_report sites r)
    report_seals r h = by r.statement refl h
      where
        by : (s : Statement) → r.statement ≡ s → OwnSealHas s r.seal × PartsHave s r.quorums r.base → Each H (in_report_as sites r s)
        by (LocalReport site local index view base items) e g = (
          subst (λ (x : Statement). H (record { who = server_at site.0 index; statement = x; seal = r.seal })) (sym e) g.0,
          append_all H (in_items (local_item_of site.0) items r.quorums) (in_base base r) (items_seals (local_item_of site.0) items r.quorums g.1.0) (base_seals base r.base g.1.1),
        )
        by (GlobalReport site view index base items) e g = (
          subst (λ (x : Statement). H (record { who = server_at site.0 index; statement = x; seal = r.seal })) (sym e) g.0,
          append_all H (in_items global_item_of items r.quorums) (in_base base r) (items_seals global_item_of items r.quorums g.1.0) (base_seals base r.base g.1.1),
        )
        by _ e g = tt

    pub seals_report : (r : ReportBody) → Each H (in_report sites r) → ReportHas r
    seals_report r h = by r.statement refl h
      where
        by : (s : Statement) → r.statement ≡ s → Each H (in_report_as sites r s) → OwnSealHas s r.seal × PartsHave s r.quorums r.base
        by (LocalReport site local index view base items) e g =
            let parts = append_parts H (in_items (local_item_of site.0) items r.quorums) (in_base base r) g.1 in (
              subst (λ (x : Statement). H (record { who = server_at site.0 index; statement = x; seal = r.seal })) e g.0,
              (seals_items (local_item_of site.0) items r.quorums parts.0, seals_base base r.base parts.1),
            )
        by (GlobalReport site view index base items) e g =
            let parts = append_parts H (in_items global_item_of items r.quorums) (in_base base r) g.1 in (
              subst (λ (x : Statement). H (record { who = server_at site.0 index; statement = x; seal = r.seal })) e g.0,
              (seals_items global_item_of items r.quorums parts.0, seals_base base r.base parts.1),
            )
        by _ e g = (tt, tt)

    reports_seals : (rs : List ReportBody) → Each ReportHas rs → Each H (in_reports sites rs)
    unfolding in_reports
    reports_seals [] h = tt
    reports_seals (r ∷ rs) h = append_all H (in_report sites r) (in_reports sites rs) (report_seals r h.0) (reports_seals rs h.1)

    seals_reports : (rs : List ReportBody) → Each H (in_reports sites rs) → Each ReportHas rs
    unfolding in_reports
    seals_reports [] h = tt
    seals_reports (r ∷ rs) h = let parts = append_parts H (in_report sites r) (in_reports sites rs) h in (seals_report r parts.0, seals_reports rs parts.1)

    -- all seals of a message
    abbrev pub MessageHas : Message → Type 0
    MessageHas (messages.Update u seal) = ClientHas u seal
    MessageHas (messages.Assign view local number value client_seal signed) =
        ValueHas value client_seal × SignedHas (a_prepare (view.0 % sites) view.0 local.0 number.0 value) signed
    MessageHas (messages.Share s signed) = SignedHas s signed
    MessageHas (messages.Certificate s q) = QuorumHas s q
    MessageHas (messages.OrderProof number p) = ProofHas number.0 p
    MessageHas (messages.Report r) = ReportHas r
    MessageHas (messages.Bundle rs) = Each ReportHas rs
    MessageHas (messages.ViewProof (view_words.Local s q)) = QuorumHas s q
    MessageHas (messages.ViewProof (view_words.Global view words)) = WordsHave (λ s. a_global_vc s view.0) words
    MessageHas (messages.Ask server executed view local) = Unit {0}
    MessageHas (messages.Reply s signed) = SignedHas s signed

    value_seals : (value : Value) (seal : Bytes) → ValueHas value seal → Each H (in_client_seal value seal)
    value_seals values.Noop seal h = tt
    value_seals (values.Update u) seal h = by (is_empty seal) refl
      where
        by : (b : Bool) → is_empty seal ≡ b → Each H (cond b [] (record { who = parties.Client u.client; statement = ClientUpdate u; seal = seal } ∷ []))
        by true e = tt
        by false e = (h e, tt)

    seals_value : (value : Value) (seal : Bytes) → Each H (in_client_seal value seal) → ValueHas value seal
    seals_value values.Noop seal h = tt
    seals_value (values.Update u) seal h = λ e. by (is_empty seal) e h
      where
        by : (b : Bool) → b ≡ false → Each H (cond b [] (record { who = parties.Client u.client; statement = ClientUpdate u; seal = seal } ∷ [])) → ClientHas u seal
        by true e g = absurd (let no : true ≡ false = e in cc)
        by false e g = g.0

    -- So of the list, and back.
    pub message_seals : (m : Message) → MessageHas m → Each H (seals_of sites m)
    unfolding seals_of in_quorum
    message_seals (messages.Update u seal) h = (h, tt)
    message_seals (messages.Assign view local number value client_seal signed) h =
        append_all H (in_client_seal value client_seal) _ (value_seals value client_seal h.0) (h.1, tt)
    message_seals (messages.Share s signed) h = (h, tt)
    message_seals (messages.Certificate s q) h = quorum_seals s q h
    message_seals (messages.OrderProof number p) h = proof_seals number.0 p h
    message_seals (messages.Report r) h = report_seals r h
    message_seals (messages.Bundle rs) h = reports_seals rs h
    message_seals (messages.ViewProof (view_words.Local s q)) h = quorum_seals s q h
    message_seals (messages.ViewProof (view_words.Global view words)) h = view_seals view.0 words h
    message_seals (messages.Ask server executed view local) h = tt
    message_seals (messages.Reply s signed) h = (h, tt)

    pub seals_message : (m : Message) → Each H (seals_of sites m) → MessageHas m
    unfolding seals_of in_quorum
    seals_message (messages.Update u seal) h = h.0
    seals_message (messages.Assign view local number value client_seal signed) h =
        let parts = append_parts H (in_client_seal value client_seal) _ h in (seals_value value client_seal parts.0, parts.1.0)
    seals_message (messages.Share s signed) h = h.0
    seals_message (messages.Certificate s q) h = seals_quorum s q h
    seals_message (messages.OrderProof number p) h = seals_proof number.0 p h
    seals_message (messages.Report r) h = seals_report r h
    seals_message (messages.Bundle rs) h = seals_reports rs h
    seals_message (messages.ViewProof (view_words.Local s q)) h = seals_quorum s q h
    seals_message (messages.ViewProof (view_words.Global view words)) h = seals_view view.0 words h
    seals_message (messages.Ask server executed view local) h = tt
    seals_message (messages.Reply s signed) h = h.0

  -- ---- a server's records and answers

  module _ (seat : Seat) where
    -- a Prepare or Proposal of the site that leads its view
    abbrev pub Leads : Statement → Type 0
    Leads (Prepare site view local number value) = site.0 ≡ view.0 % seat.sites
    Leads (Proposal site view local number value) = site.0 ≡ view.0 % seat.sites
    Leads _ = Unit {0}

    -- the server of a report
    abbrev pub Reports : Statement → Type 0
    Reports (LocalReport site local index view base items) = index ≡ seat.index
    Reports (GlobalReport site view index base items) = index ≡ seat.index
    Reports _ = Unit {0}

    -- a statement that this server makes
    pub record Mine (s : Statement) : Type 0 where
      pub site : site_of s ≡ seat.site
      pub leads : Leads s
      pub reports : Reports s

    -- the seals that a change brings
    abbrev pub RecordHas : Change → Type 0
    RecordHas (EnterLocal x q) = QuorumHas (a_local_vc seat.site x.0) q
    RecordHas (EnterGlobal y words) = WordsHave (λ s. a_global_vc s y.0) words
    RecordHas (Made leaf s) = Unit {0}
    RecordHas (Prepared s q) = QuorumHas s q
    RecordHas (Accepted s q) = QuorumHas s q
    RecordHas (Union s q) = QuorumHas s q
    RecordHas (Executed n p) = ProofHas n.0 p

    -- what a change's statement is, and which number is executed
    abbrev pub Stands : Here → Change → Type 0
    Stands here (Made leaf s) = Mine s
    Stands here (Prepared s q) = site_of s ≡ seat.site
    Stands here (Accepted s q) = Leads s
    Stands here (Executed n p) = n.0 ≡ here.executed + 1
    Stands here _ = Unit {0}

    -- a share that asks for a view is kept of the server's own site
    abbrev pub OfSite : Message → Type 0
    OfSite (messages.Share (LocalVc site local) signed) = site.0 ≡ seat.site
    OfSite (messages.Share (GlobalVc site view) signed) = site.0 ≡ seat.site
    OfSite _ = Unit {0}

    -- The facts.
    abbrev pub seal_facts : Facts
    seal_facts =
        record {
          change = λ here x. RecordHas x × Stands here x;
          message = λ m. MessageHas seat.sites m × OfSite m;
          made = λ is m. Mine m.statement;
          prepared = λ n b. QuorumHas (a_prepare seat.site b.view b.local n b.value) b.quorum;
          accepted = λ n b. QuorumHas (a_proposal (b.view % seat.sites) b.view b.local n b.value) b.quorum;
          proof = ProofHas;
          held = λ s u. Unit {0};
          local_words = λ x q. QuorumHas (a_local_vc seat.site x) q;
          view_words = λ y words. WordsHave (λ s. a_global_vc s y) words;
          share = λ i x. SignedHas x.statement (record { index = i; seal = x.seal });
          local_vote = λ i v. SignedHas (a_local_vc seat.site v.view) (record { index = i; seal = v.seal });
          global_vote = λ i v. SignedHas (a_global_vc seat.site v.view) (record { index = i; seal = v.seal });
          asked = λ s a. QuorumHas (a_global_vc s a.view) a.quorum;
          pended = λ k. ClientHas k.update k.seal;
          report = ReportHas seat.sites;
          word = λ n s w. QuorumHas (an_accept s w.view n w.value) w.quorum;
        }

    -- a union as it is held
    -- They give what is picked.
    pub seals_are_picked : ArePicked seal_facts
    seals_are_picked =
        record {
          made = λ here is leaf s yes h. h.1;
          prepared = λ here s g l n v q h. subst (λ i. QuorumHas (a_prepare i g l n v) q) h.1 h.0;
          accepted = λ here s g l n v q h. subst (λ i. QuorumHas (a_proposal i g l n v) q) h.1 h.0;
          proof = λ here n p h. subst (λ i. ProofHas i p) h.1 h.0;
          held = λ here s q h. if_any (held_of s q);
          local_words = λ here x q h. h.0;
          view_words = λ here y words h. h.0;
          share = λ s signed h. h.0;
          local_vote = λ s x signed h. subst (λ i. SignedHas (a_local_vc i x) signed) h.1 h.0;
          global_vote = λ s y signed h. subst (λ i. SignedHas (a_global_vc i y) signed) h.1 h.0;
          asked = λ s y q h. h.0;
          pended = λ u seal h. h.0;
          report = λ r h. h.0;
          word = λ s g n v q h. h.0;
          order_proof = λ n p h. h.0;
        }
