-- The facts of what a server records, hears and answers, by which its certificates are certificates.
use Rattle.std.proofs.Common.{◌≡◌, ℕ, ◌+◌, Bool, true, false, List, subst}
use Rattle.std.specs.Prelude.{◌%◌, Option}
use Rattle.std.specs.Option.{IfSome}
use Rattle.st_words.specs.declared.ids.Who.{Who}
use Rattle.st_words.specs.declared.statement.Statement.{Statement}
use Rattle.st_words.specs.declared.statement.Statement.TheVariants.{Proposal, LocalVc, GlobalVc}
use Rattle.st_message.specs.declared.message.SiteWord.{SiteWord}
use Rattle.st_message.specs.declared.message.Proof.{Proof}
use Rattle.st_message.specs.declared.message.ReportBody.{ReportBody}
use Rattle.st_message.specs.declared.message.Message.{Message}
use Rattle.st_message.specs.declared.message.Message.TheVariants as messages
use Rattle.st_message.specs.declared.change.Change.{Change}
use Rattle.st_message.specs.declared.change.Change.TheVariants.{Prepared, Accepted, Executed}
use Rattle.st_message.specs.declared.change.Heard.{Heard}
use Rattle.st_message.specs.declared.step.Form.{Form}
use Rattle.st_message.specs.declared.step.Form.TheVariants as forms
use Rattle.st_message.specs.declared.step.Out.{Out}
use Rattle.st_message.specs.declared.step.Out.TheVariants.{Make, Send}
use Rattle.st_protocol.specs.Words.{Bytes, Quorum, server_at, a_prepare, a_proposal, an_accept, a_local_vc, a_global_vc, site_of}
use Rattle.st_protocol.specs.State.{Seat, Here, Share, Completed}
use Rattle.st_protocol.specs.Questions.{held_of}
use Rattle.st_protocol.specs.Certificates.{is_certificate, is_order_proof, is_view_proof, is_local_proof}
use Rattle.st_frame_laws.proofs.ChoiceLaws.{if_any}
use Rattle.st_frame_laws.proofs.StateFrame.{Facts, ArePicked}
use Rattle.st_certificate_laws.specs.Certified.{record_is_certified, parts_are_certified, report_is_certified, message_is_certified}
use Rattle.st_certificate_laws.proofs.AskLaws.{AsksNot}

module _ (holds : Who → Statement → Bytes → Bool) (seat : Seat) where
  -- a certificate of a statement
  abbrev pub Certifies : Statement → Quorum → Type 0
  Certifies s q = is_certificate holds seat.f seat.sites (site_of s) s q ≡ true

  -- an order proof of the number
  abbrev pub IsOrder : ℕ → Proof → Type 0
  IsOrder n p = is_order_proof holds seat.f seat.sites n p.value p ≡ true

  -- a proof that the view was asked for
  abbrev pub IsAsked : ℕ → List SiteWord → Type 0
  IsAsked view words = is_view_proof holds seat.f seat.sites view words ≡ true

  -- a message in which each certificate is one
  abbrev pub Certified : Message → Type 0
  Certified m = message_is_certified holds seat.f seat.sites m ≡ true

  -- a report in which each is one
  abbrev pub Reported : ReportBody → Type 0
  Reported r = report_is_certified holds seat.f seat.sites r ≡ true

  -- what a message brings
  abbrev pub Brings : Message → Type 0
  Brings (messages.Assign view local number value client_seal signed) =
      holds (server_at (view.0 % seat.sites) signed.index) (a_prepare (view.0 % seat.sites) view.0 local.0 number.0 value) signed.seal ≡ true
  Brings (messages.Share s signed) = holds (server_at (site_of s) signed.index) s signed.seal ≡ true
  Brings m = Certified m

  -- a Proposal of the site that leads its view
  abbrev pub Leads : Statement → Type 0
  Leads (Proposal site view local number value) = site.0 ≡ view.0 % seat.sites
  Leads _ = Unit {0}

  -- so of a message's certificate
  abbrev pub Led : Message → Type 0
  Led (messages.Certificate s q) = Leads s
  Led m = Unit {0}

  -- a share that asks for a view is kept of the server's own site
  abbrev pub OfSite : Message → Type 0
  OfSite (messages.Share (LocalVc site local) signed) = site.0 ≡ seat.site
  OfSite (messages.Share (GlobalVc site view) signed) = site.0 ≡ seat.site
  OfSite _ = Unit {0}

  -- what a change brings is certified
  abbrev pub Recorded : Change → Type 0
  Recorded x = record_is_certified holds seat.f seat.sites seat.site x ≡ true

  -- what a change's statement is, and which number is executed
  abbrev pub Stands : Here → Change → Type 0
  Stands here (Prepared s q) = site_of s ≡ seat.site
  Stands here (Accepted s q) = Leads s
  Stands here (Executed n p) = n.0 ≡ here.executed + 1
  Stands here _ = Unit {0}

  -- The facts.
  abbrev pub certificate_facts : Facts
  certificate_facts =
      record {
        change = λ here x. Recorded x × Stands here x;
        message = λ m. Brings m × OfSite m;
        made = λ is m. Unit {0};
        prepared = λ n b. Certifies (a_prepare seat.site b.view b.local n b.value) b.quorum;
        accepted = λ n b. Certifies (a_proposal (b.view % seat.sites) b.view b.local n b.value) b.quorum;
        proof = IsOrder;
        held = λ s u. Unit {0};
        local_words = λ x q. Certifies (a_local_vc seat.site x) q;
        view_words = IsAsked;
        share = λ i x. holds (server_at (site_of x.statement) i) x.statement x.seal ≡ true;
        local_vote = λ i v. holds (server_at seat.site i) (a_local_vc seat.site v.view) v.seal ≡ true;
        global_vote = λ i v. holds (server_at seat.site i) (a_global_vc seat.site v.view) v.seal ≡ true;
        asked = λ s a. Certifies (a_global_vc s a.view) a.quorum;
        pended = λ k. Unit {0};
        report = Reported;
        word = λ n s w. Certifies (an_accept s w.view n w.value) w.quorum;
      }

  -- They give what is picked.
  pub certificates_are_picked : ArePicked certificate_facts
  unfolding is_local_proof
  certificates_are_picked =
      record {
        made = λ here is leaf s yes h. tt;
        prepared = λ here s g l n v q h. subst (λ i. Certifies (a_prepare i g l n v) q) h.1 h.0;
        accepted = λ here s g l n v q h. subst (λ i. Certifies (a_proposal i g l n v) q) h.1 h.0;
        proof = λ here n p h. subst (λ i. IsOrder i p) h.1 h.0;
        held = λ here s q h. if_any (held_of s q);
        local_words = λ here x q h. h.0;
        view_words = λ here y words h. h.0;
        share = λ s signed h. h.0;
        local_vote = λ s x signed h. subst (λ i. holds (server_at i signed.index) (a_local_vc i x) signed.seal ≡ true) h.1 h.0;
        global_vote = λ s y signed h. subst (λ i. holds (server_at i signed.index) (a_global_vc i y) signed.seal ≡ true) h.1 h.0;
        asked = λ s y q h. h.0;
        pended = λ u seal h. tt;
        report = λ r h. h.0;
        word = λ s g n v q h. h.0;
        order_proof = λ n p h. h.0;
      }

  -- ---- what holds of a step

  -- a change, wherever it is recorded
  abbrev pub ChangeHas : Change → Type 0
  ChangeHas x = Recorded x × ((h : Here) → Stands h x)

  -- something heard; a certificate that asks for a view is looked at where it is kept
  abbrev pub HeardHas : Heard → Type 0
  HeardHas m = (m.own ≡ false → Brings m.message × OfSite m.message × AsksNot m.message) × (m.own ≡ true → Certified m.message)

  -- the certificates with which a statement goes out
  abbrev pub FormHas : Statement → Form → Type 0
  FormHas s (forms.Report quorums base) = parts_are_certified holds seat.f seat.sites s quorums base ≡ true
  FormHas s form = Unit {0}

  -- what goes out
  abbrev pub OutHas : Out → Type 0
  OutHas (Make s form to) = FormHas s form
  OutHas (Send m to) = Certified m

  -- a message that is taken
  abbrev pub TakenHas : Message → Type 0
  TakenHas m = Brings m × Led m

  -- a certificate that was completed here
  abbrev pub CompletedHas : Completed → Type 0
  CompletedHas c = Certifies c.statement c.quorum

module _ (holds : Who → Statement → Bytes → Bool) (here : Here) where
  -- another server's message that is kept
  pub other : (m : Message) → Brings holds here.seat m → OfSite holds here.seat m → AsksNot m → HeardHas holds here.seat (record { own = false; message = m })
  other m h o n = (λ e. (h, o, n), λ e. absurd (let no : false ≡ true = e in cc))

  -- the server's own
  pub own : (m : Message) → Certified holds here.seat m → HeardHas holds here.seat (record { own = true; message = m })
  own m h = (λ e. absurd (let no : true ≡ false = e in cc), λ e. h)

  -- of shares that are kept each holds
  abbrev pub SharesHave : (ℕ → Option Share) → Type 0
  SharesHave shares = (i : ℕ) → IfSome (shares i) (λ x. holds (server_at (site_of x.statement) i) x.statement x.seal ≡ true)
