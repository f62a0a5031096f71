-- What holds of each change that is recorded and of each message that is heard holds of what a state answers of them.
use Rattle.std.proofs.Common.{◌≡◌, ℕ, ◌+◌, Bool, true, false, cond, nat_eq, nat_lt, List, [], sym, subst, refl, arith}
use Rattle.std.proofs.lemmas.Bool.{eqb-true, ltb-true, ltb-false, and_parts}
use Rattle.std.specs.Prelude.{◌&&◌, max, Option, Some, None}
use Rattle.std.specs.Option.{IfSome}
use Rattle.st_words.specs.declared.statement.Statement.{Statement}
use Rattle.st_words.specs.declared.statement.Statement.TheVariants.{Prepare, Proposal, Accept, LocalVc, GlobalVc}
use Rattle.st_words.specs.declared.value.Update.{Update}
use Rattle.st_words.specs.declared.value.Value.{Value}
use Rattle.st_seal.specs.declared.quorum.Signed.{Signed}
use Rattle.st_message.specs.declared.message.Proof.{Proof}
use Rattle.st_message.specs.declared.message.ReportBody.{ReportBody}
use Rattle.st_message.specs.declared.message.SiteWord.{SiteWord}
use Rattle.st_message.specs.declared.message.Message.{Message}
use Rattle.st_message.specs.declared.message.Message.TheVariants as messages
use Rattle.st_message.specs.declared.change.Change.{Change}
use Rattle.st_message.specs.declared.change.Change.TheVariants.{EnterLocal, EnterGlobal, Made, Prepared, Accepted, Union, Executed}
use Rattle.st_message.specs.declared.change.Heard.{Heard}
use Rattle.st_protocol.specs.Words.{Bytes, Quorum, index_of, site_of}
use Rattle.st_protocol.specs.State.{Place, Term, Seat, Here, Sealing, Backed, Share, Log, Pended, Vote, Asked, Held, Word, Hand, KeptViews, Answers, at_place, at_vc, at_report, at_union, at_reply, backed_view, backed_local, pended_time, vote_view, asked_view, word_view, word_height, open_place, open_term, open_vc, open_number}
use Rattle.st_protocol.specs.Keeping.{gathered, joined, numbered}
use Rattle.st_protocol.specs.Questions.{sealing_in, prepared_in, accepted_in, held_of, held_in, if_other, share_in, local_vote_in, global_vote_in, asked_in, update_in, report_in, word_in, proof_in, proofs_in, questions}
use Rattle.st_protocol.specs.Growth.{here_after, log_after, words_after, hand_takes, hand_cuts, notes, takes, cuts, after, hears}
use Rattle.st_frame_laws.proofs.ChoiceLaws.{either_has, when_has, open_has, from_has, first_has, greatest_has, higher_has}

-- Facts: of a change where it is recorded, of another server's message, and of each thing that a state answers of
-- them. `made` and `share` know the test by which the thing was picked, the others the key at which it stands.
pub record Facts : Type 1 where
  pub change : Here → Change → Type 0
  pub message : Message → Type 0
  pub made : (Statement → Bool) → Sealing → Type 0
  pub prepared : ℕ → Backed → Type 0
  pub accepted : ℕ → Backed → Type 0
  pub proof : ℕ → Proof → Type 0
  pub held : ℕ → Held → Type 0
  pub local_words : ℕ → Quorum → Type 0
  pub view_words : ℕ → List SiteWord → Type 0
  pub share : ℕ → Share → Type 0
  pub local_vote : ℕ → Vote → Type 0
  pub global_vote : ℕ → Vote → Type 0
  pub asked : ℕ → Asked → Type 0
  pub pended : Pended → Type 0
  pub report : ReportBody → Type 0
  pub word : ℕ → ℕ → Word → Type 0

-- What the facts of changes and messages give of what is picked of them.
pub record ArePicked (F : Facts) : Type 0 where
  pub made : (here : Here) (is : Statement → Bool) (leaf : ℕ) (s : Statement) → is s ≡ true → F.change here (Made leaf s) → F.made is (record { leaf = leaf; statement = s })
  pub prepared : (here : Here) (s g l n : ℕ) (v : Value) (q : Quorum) →
      F.change here (Prepared (Prepare (record { 0 = s }) (record { 0 = g }) (record { 0 = l }) (record { 0 = n }) v) q) → F.prepared n (record { view = g; local = l; value = v; quorum = q })
  pub accepted : (here : Here) (s g l n : ℕ) (v : Value) (q : Quorum) →
      F.change here (Accepted (Proposal (record { 0 = s }) (record { 0 = g }) (record { 0 = l }) (record { 0 = n }) v) q) → F.accepted n (record { view = g; local = l; value = v; quorum = q })
  pub proof : (here : Here) (n : ℕ) (p : Proof) → F.change here (Executed (record { 0 = n }) p) → F.proof (here.executed + 1) p
  pub held : (here : Here) (s : Statement) (q : Quorum) → F.change here (Union s q) → IfSome (held_of s q) (F.held (site_of s))
  pub local_words : (here : Here) (x : ℕ) (q : Quorum) → F.change here (EnterLocal (record { 0 = x }) q) → F.local_words x q
  pub view_words : (here : Here) (y : ℕ) (words : List SiteWord) → F.change here (EnterGlobal (record { 0 = y }) words) → F.view_words y words
  pub share : (s : Statement) (signed : Signed) → F.message (messages.Share s signed) → F.share signed.index (record { statement = s; seal = signed.seal })
  pub local_vote : (s x : ℕ) (signed : Signed) → F.message (messages.Share (LocalVc (record { 0 = s }) (record { 0 = x })) signed) → F.local_vote signed.index (record { view = x; seal = signed.seal })
  pub global_vote : (s y : ℕ) (signed : Signed) → F.message (messages.Share (GlobalVc (record { 0 = s }) (record { 0 = y })) signed) → F.global_vote signed.index (record { view = y; seal = signed.seal })
  pub asked : (s y : ℕ) (q : Quorum) → F.message (messages.Certificate (GlobalVc (record { 0 = s }) (record { 0 = y })) q) → F.asked s (record { view = y; quorum = q })
  pub pended : (u : Update) (seal : Bytes) → F.message (messages.Update u seal) → F.pended (record { update = u; seal = seal })
  pub report : (r : ReportBody) → F.message (messages.Report r) → F.report r
  pub word : (s g n : ℕ) (v : Value) (q : Quorum) → F.message (messages.Certificate (Accept (record { 0 = s }) (record { 0 = g }) (record { 0 = n }) v) q) → F.word n s (record { view = g; value = v; quorum = q })
  pub order_proof : (n : ℕ) (p : Proof) → F.message (messages.OrderProof (record { 0 = n }) p) → F.proof n p

-- The hand.
pub record HandHas (F : Facts) (hand : Hand) : Type 0 where
  pub word : (n s : ℕ) → IfSome (hand.word n s) (F.word n s)
  pub proof : (n : ℕ) → IfSome (hand.proof n) (F.proof n)

-- All that a state answers of changes and of other servers' messages.
pub record StateHas (F : Facts) (state : Answers) : Type 0 where
  pub made : (p : Place) → IfSome (state.slots.made p) (F.made (at_place p))
  pub prepared : (n : ℕ) → IfSome (state.slots.prepared n) (F.prepared n)
  pub accepted : (n : ℕ) → IfSome (state.slots.accepted n) (F.accepted n)
  pub shares : (p : Place) (i : ℕ) → IfSome (state.slots.shares p i) (F.share i)
  pub vc : (t : Term) → IfSome (state.making.vc t) (F.made (at_vc t))
  pub own_report : (t : Term) → IfSome (state.making.report t) (F.made (at_report t))
  pub own_union : (t : Term) → IfSome (state.making.union t) (F.made (at_union t))
  pub reply : (n : ℕ) → IfSome (state.making.reply n) (F.made (at_reply n))
  pub proof : (n : ℕ) → IfSome (state.log.proof n) (F.proof n)
  pub pending : (c : ℕ) → IfSome (state.pending c) F.pended
  pub local_votes : (i : ℕ) → IfSome (state.votes.local i) (F.local_vote i)
  pub global_votes : (i : ℕ) → IfSome (state.votes.global i) (F.global_vote i)
  pub union_shares : (t : Term) (i : ℕ) → IfSome (state.votes.unions t i) (F.share i)
  pub asked : (s : ℕ) → IfSome (state.votes.asked s) (F.asked s)
  pub unions : (t : Term) (s : ℕ) → IfSome (state.unions t s) (F.held s)
  pub reports : (t : Term) (i : ℕ) → IfSome (state.reports t i) F.report
  pub hand : HandHas F state.hand
  pub local_words : IfSome state.words.local (F.local_words state.here.local)
  pub view_words : IfSome state.words.view (F.view_words state.here.view)

-- the same of a message of another server's
abbrev pub OtherHas : Facts → Heard → Type 0
OtherHas F m = m.own ≡ false → F.message m.message

-- what is picked by a test that says a number
at_number : (P : ℕ → Type 0) (n k : ℕ) → nat_eq n k ≡ true → P n → P k
at_number P n k e h = subst P (eqb-true n k e) h

-- the greater of two, where the second isn't
max_of : (a b : ℕ) → nat_lt a b ≡ true → max a b ≡ b
max_of a b e = omega (arith, ltb-true a b e)

max_not : (a b : ℕ) → nat_lt a b ≡ false → max a b ≡ a
max_not a b e = omega (arith, ltb-false a b e)

module _ (F : Facts) (k : ArePicked F) where
  -- ---- what one change says

  sealing_has : (here : Here) (is : Statement → Bool) (x : Change) → F.change here x → IfSome (sealing_in is x) (F.made is)
  sealing_has here is (Made leaf s) h = when_has (F.made is) (is s) (record { leaf = leaf; statement = s }) (λ yes. k.made here is leaf s yes h)
  sealing_has here is _ h = tt

  prepared_has : (here : Here) (number : ℕ) (x : Change) → F.change here x → IfSome (prepared_in number x) (F.prepared number)
  prepared_has here number (Prepared (Prepare s g l n v) q) h =
      let found : Backed = record { view = g.0; local = l.0; value = v; quorum = q } in
      when_has (F.prepared number) (nat_eq n.0 number) found (λ yes. at_number (λ m. F.prepared m found) n.0 number yes (k.prepared here s.0 g.0 l.0 n.0 v q h))
  prepared_has here number _ h = tt

  accepted_has : (here : Here) (number : ℕ) (x : Change) → F.change here x → IfSome (accepted_in number x) (F.accepted number)
  accepted_has here number (Accepted (Proposal s g l n v) q) h =
      let found : Backed = record { view = g.0; local = l.0; value = v; quorum = q } in
      when_has (F.accepted number) (nat_eq n.0 number) found (λ yes. at_number (λ m. F.accepted m found) n.0 number yes (k.accepted here s.0 g.0 l.0 n.0 v q h))
  accepted_has here number _ h = tt

  held_has : (here : Here) (t : Term) (site : ℕ) (x : Change) → F.change here x → IfSome (held_in t site x) (F.held site)
  held_has here t site (Union s q) h = by (at_union t s && nat_eq (site_of s) site) refl
    where
      by : (b : Bool) → (at_union t s && nat_eq (site_of s) site) ≡ b → IfSome (cond b (held_of s q) None) (F.held site)
      by false e = tt
      by true e = subst (λ n. IfSome (held_of s q) (F.held n)) (eqb-true (site_of s) site (and_parts (at_union t s) (nat_eq (site_of s) site) e).1) (k.held here s q h)
  held_has here t site _ h = tt

  log_has : (x : Change) (here : Here) (log : Log) → F.change here x → ((n : ℕ) → IfSome (log.proof n) (F.proof n)) → (n : ℕ) → IfSome ((log_after x here log).proof n) (F.proof n)
  log_has (Executed m p) here log h all n = by (nat_eq (here.executed + 1) n) refl
    where
      by : (b : Bool) → nat_eq (here.executed + 1) n ≡ b → IfSome (cond b (Some p) (log.proof n)) (F.proof n)
      by true e = at_number (λ j. F.proof j p) (here.executed + 1) n e (k.proof here m.0 p h)
      by false e = all n
  log_has _ here log h all n = all n

  local_words_have : (x : Change) (here : Here) (kept : KeptViews) → F.change here x → IfSome kept.local (F.local_words here.local) →
      IfSome (words_after x here kept).local (F.local_words (here_after x here).local)
  local_words_have (EnterLocal x q) here kept h old = by (nat_lt here.local x.0) refl
    where
      by : (b : Bool) → nat_lt here.local x.0 ≡ b → IfSome (cond b (Some q) kept.local) (F.local_words (max here.local x.0))
      by true e = subst (λ n. F.local_words n q) (sym (max_of here.local x.0 e)) (k.local_words here x.0 q h)
      by false e = subst (λ n. IfSome kept.local (F.local_words n)) (sym (max_not here.local x.0 e)) old
  local_words_have (EnterGlobal y words) here kept h old = old
  local_words_have (Made leaf s) here kept h old = old
  local_words_have (Prepared s q) here kept h old = old
  local_words_have (Accepted s q) here kept h old = old
  local_words_have (Union s q) here kept h old = old
  local_words_have (Executed n p) here kept h old = old

  view_words_have : (x : Change) (here : Here) (kept : KeptViews) → F.change here x → IfSome kept.view (F.view_words here.view) →
      IfSome (words_after x here kept).view (F.view_words (here_after x here).view)
  view_words_have (EnterGlobal y words) here kept h old = by (nat_lt here.view y.0) refl
    where
      by : (b : Bool) → nat_lt here.view y.0 ≡ b → IfSome (cond b (Some words) kept.view) (F.view_words (max here.view y.0))
      by true e = subst (λ n. F.view_words n words) (sym (max_of here.view y.0 e)) (k.view_words here y.0 words h)
      by false e = subst (λ n. IfSome kept.view (F.view_words n)) (sym (max_not here.view y.0 e)) old
  view_words_have (EnterLocal x q) here kept h old = old
  view_words_have (Made leaf s) here kept h old = old
  view_words_have (Prepared s q) here kept h old = old
  view_words_have (Accepted s q) here kept h old = old
  view_words_have (Union s q) here kept h old = old
  view_words_have (Executed n p) here kept h old = old

  -- ---- what one message says

  other_has : {A : Type 0} (G : A → Type 0) (m : Heard) (pick : Message → Option A) → OtherHas F m → (F.message m.message → IfSome (pick m.message) G) → IfSome (if_other m pick) G
  other_has G m pick h give = by m.own refl
    where
      by : (b : Bool) → m.own ≡ b → IfSome (cond b None (pick m.message)) G
      by true e = tt
      by false e = give (h e)

  share_has : (is : Statement → Bool) (index : ℕ) (m : Message) → F.message m → IfSome (share_in is index m) (F.share index)
  share_has is index (messages.Share s signed) h =
      let found : Share = record { statement = s; seal = signed.seal } in
      when_has (F.share index) (is s && nat_eq signed.index index) found
      (λ yes. at_number (λ i. F.share i found) signed.index index (and_parts (is s) (nat_eq signed.index index) yes).1 (k.share s signed h))
  share_has is index _ h = tt

  local_vote_has : (index : ℕ) (m : Message) → F.message m → IfSome (local_vote_in index m) (F.local_vote index)
  local_vote_has index (messages.Share (LocalVc s x) signed) h =
      let found : Vote = record { view = x.0; seal = signed.seal } in
      when_has (F.local_vote index) (nat_eq signed.index index) found (λ yes. at_number (λ i. F.local_vote i found) signed.index index yes (k.local_vote s.0 x.0 signed h))
  local_vote_has index _ h = tt

  global_vote_has : (index : ℕ) (m : Message) → F.message m → IfSome (global_vote_in index m) (F.global_vote index)
  global_vote_has index (messages.Share (GlobalVc s y) signed) h =
      let found : Vote = record { view = y.0; seal = signed.seal } in
      when_has (F.global_vote index) (nat_eq signed.index index) found (λ yes. at_number (λ i. F.global_vote i found) signed.index index yes (k.global_vote s.0 y.0 signed h))
  global_vote_has index _ h = tt

  asked_has : (site : ℕ) (m : Message) → F.message m → IfSome (asked_in site m) (F.asked site)
  asked_has site (messages.Certificate (GlobalVc s y) q) h =
      let found : Asked = record { view = y.0; quorum = q } in
      when_has (F.asked site) (nat_eq s.0 site) found (λ yes. at_number (λ i. F.asked i found) s.0 site yes (k.asked s.0 y.0 q h))
  asked_has site _ h = tt

  update_has : (client : ℕ) (m : Message) → F.message m → IfSome (update_in client m) F.pended
  update_has client (messages.Update u seal) h = when_has F.pended (nat_eq u.client.0 client) (record { update = u; seal = seal }) (λ yes. k.pended u seal h)
  update_has client _ h = tt

  report_has : (t : Term) (index : ℕ) (m : Message) → F.message m → IfSome (report_in t index m) F.report
  report_has t index (messages.Report r) h = when_has F.report (at_report t r.statement && nat_eq (index_of r.statement) index) r (λ yes. k.report r h)
  report_has t index _ h = tt

  word_has : (number site : ℕ) (m : Message) → F.message m → IfSome (word_in number site m) (F.word number site)
  word_has number site (messages.Certificate (Accept s g n v) q) h =
      let found : Word = record { view = g.0; value = v; quorum = q } in
      when_has (F.word number site) (nat_eq n.0 number && nat_eq s.0 site) found
      (λ yes.
      let parts = and_parts (nat_eq n.0 number) (nat_eq s.0 site) yes in
      at_number (λ i. F.word number i found) s.0 site parts.1 (at_number (λ i. F.word i s.0 found) n.0 number parts.0 (k.word s.0 g.0 n.0 v q h)))
  word_has number site _ h = tt

  proof_has : (number : ℕ) (m : Message) → F.message m → IfSome (proof_in number m) (F.proof number)
  proof_has number (messages.OrderProof n p) h = when_has (F.proof number) (nat_eq n.0 number) p (λ yes. at_number (λ i. F.proof i p) n.0 number yes (k.order_proof n.0 p h))
  proof_has number _ h = tt

  -- ---- the three steps

  -- a change is recorded
  pub notes_has : (state : Answers) (x : Change) → StateHas F state → F.change state.here x → StateHas F (notes state x)
  unfolding notes
  notes_has state x s h =
      let old : Here = state.here in
      let here : Here = here_after x state.here in
      record {
        made = λ p. open_has (F.made (at_place p)) (open_place here p) _ (first_has (F.made (at_place p)) (state.slots.made p) _ (s.made p) (sealing_has old (at_place p) x h));
        prepared = λ n. open_has (F.prepared n) (open_number here n) _ (higher_has (F.prepared n) backed_view backed_local (state.slots.prepared n) _ (s.prepared n) (prepared_has old n x h));
        accepted = λ n. open_has (F.accepted n) (open_number here n) _ (higher_has (F.accepted n) backed_view backed_local (state.slots.accepted n) _ (s.accepted n) (accepted_has old n x h));
        shares = s.shares;
        vc = λ t. open_has (F.made (at_vc t)) (open_vc here t) _ (first_has (F.made (at_vc t)) (state.making.vc t) _ (s.vc t) (sealing_has old (at_vc t) x h));
        own_report = λ t. open_has (F.made (at_report t)) (open_term here t) _ (first_has (F.made (at_report t)) (state.making.report t) _ (s.own_report t) (sealing_has old (at_report t) x h));
        own_union = λ t. open_has (F.made (at_union t)) (open_term here t) _ (first_has (F.made (at_union t)) (state.making.union t) _ (s.own_union t) (sealing_has old (at_union t) x h));
        reply = λ n. first_has (F.made (at_reply n)) (state.making.reply n) _ (s.reply n) (sealing_has old (at_reply n) x h);
        proof = log_has x old state.log h s.proof;
        pending = s.pending;
        local_votes = s.local_votes;
        global_votes = s.global_votes;
        union_shares = s.union_shares;
        asked = s.asked;
        unions = λ t i. open_has (F.held i) (open_term here t) _ (first_has (F.held i) (state.unions t i) _ (s.unions t i) (held_has old t i x h));
        reports = s.reports;
        hand = s.hand;
        local_words = local_words_have x old state.words h s.local_words;
        view_words = view_words_have x old state.words h s.view_words;
      }

  -- the hand after something heard
  pub hand_takes_has : (m : Heard) (hand : Hand) → HandHas F hand → OtherHas F m → HandHas F (hand_takes m hand)
  hand_takes_has m hand s h =
      record {
        word = λ n i. greatest_has (F.word n i) word_view (hand.word n i) _ (s.word n i) (other_has (F.word n i) m (word_in n i) h (word_has n i m.message));
        proof = λ n. first_has (F.proof n) (hand.proof n) _ (s.proof n) (other_has (F.proof n) m (proof_in n) h (proof_has n m.message));
      }

  -- the hand less what is left behind
  pub hand_cuts_has : (here : Here) (hand : Hand) → HandHas F hand → HandHas F (hand_cuts here hand)
  hand_cuts_has here hand s =
      record {
        word = λ n i. open_has (F.word n i) (open_number here n) _ (from_has (F.word n i) word_height (hand.highest n) (hand.word n i) (s.word n i));
        proof = λ n. open_has (F.proof n) (open_number here n) (hand.proof n) (s.proof n);
      }

  -- something is heard
  pub takes_has : (state : Answers) (m : Heard) → StateHas F state → OtherHas F m → StateHas F (takes state m)
  unfolding takes
  takes_has state m s h =
      record {
        made = s.made;
        prepared = s.prepared;
        accepted = s.accepted;
        shares = λ p i. first_has (F.share i) (state.slots.shares p i) _ (s.shares p i) (other_has (F.share i) m (share_in (at_place p) i) h (share_has (at_place p) i m.message));
        vc = s.vc;
        own_report = s.own_report;
        own_union = s.own_union;
        reply = s.reply;
        proof = s.proof;
        pending = λ c. greatest_has F.pended pended_time (state.pending c) _ (s.pending c) (other_has F.pended m (update_in c) h (update_has c m.message));
        local_votes = λ i. greatest_has (F.local_vote i) vote_view (state.votes.local i) _ (s.local_votes i) (other_has (F.local_vote i) m (local_vote_in i) h (local_vote_has i m.message));
        global_votes = λ i. greatest_has (F.global_vote i) vote_view (state.votes.global i) _ (s.global_votes i) (other_has (F.global_vote i) m (global_vote_in i) h (global_vote_has i m.message));
        union_shares = λ t i. first_has (F.share i) (state.votes.unions t i) _ (s.union_shares t i) (other_has (F.share i) m (share_in (at_union t) i) h (share_has (at_union t) i m.message));
        asked = λ i. greatest_has (F.asked i) asked_view (state.votes.asked i) _ (s.asked i) (other_has (F.asked i) m (asked_in i) h (asked_has i m.message));
        unions = s.unions;
        reports = λ t i. first_has F.report (state.reports t i) _ (s.reports t i) (other_has F.report m (report_in t i) h (report_has t i m.message));
        hand = hand_takes_has m state.hand s.hand h;
        local_words = s.local_words;
        view_words = s.view_words;
      }

  -- what is left behind is dropped
  pub cuts_has : (state : Answers) → StateHas F state → StateHas F (cuts state)
  unfolding cuts
  cuts_has state s =
      let here : Here = state.here in
      record {
        made = s.made;
        prepared = s.prepared;
        accepted = s.accepted;
        shares = λ p i. open_has (F.share i) (open_place here p) (state.slots.shares p i) (s.shares p i);
        vc = s.vc;
        own_report = s.own_report;
        own_union = s.own_union;
        reply = s.reply;
        proof = s.proof;
        pending = λ c. from_has F.pended pended_time (state.log.run.last c + 1) (state.pending c) (s.pending c);
        local_votes = λ i. from_has (F.local_vote i) vote_view (here.local + 1) (state.votes.local i) (s.local_votes i);
        global_votes = λ i. from_has (F.global_vote i) vote_view (here.view + 1) (state.votes.global i) (s.global_votes i);
        union_shares = λ t i. open_has (F.share i) (open_term here t) (state.votes.unions t i) (s.union_shares t i);
        asked = λ i. from_has (F.asked i) asked_view (here.view + 1) (state.votes.asked i) (s.asked i);
        unions = s.unions;
        reports = λ t i. open_has F.report (open_term here t) (state.reports t i) (s.reports t i);
        hand = hand_cuts_has here state.hand s.hand;
        local_words = s.local_words;
        view_words = s.view_words;
      }

  -- After one change more, and after one thing heard more.
  pub after_has : (state : Answers) (x : Change) → StateHas F state → F.change state.here x → StateHas F (after state x)
  unfolding after
  after_has state x s h = cuts_has (notes state x) (notes_has state x s h)

  pub hears_has : (state : Answers) (m : Heard) → StateHas F state → OtherHas F m → StateHas F (hears state m)
  unfolding hears
  hears_has state m s h = cuts_has (takes state m) (takes_has state m s h)

module _ (F : Facts) where
  -- no proof of a number is in an empty list
  numbered_nothing : (n : ℕ) → IfSome (numbered (proofs_in []) n) (F.proof n)
  unfolding proofs_in
  numbered_nothing n = either_has (F.proof n) (nat_eq n 0) None None tt tt

  -- Of a server that recorded and heard nothing.
  pub nothing_has : (seat : Seat) → StateHas F (questions seat [] [])
  unfolding questions gathered joined
  nothing_has seat =
      record {
        made = λ p. open_has (F.made (at_place p)) _ None tt;
        prepared = λ n. open_has (F.prepared n) _ None tt;
        accepted = λ n. open_has (F.accepted n) _ None tt;
        shares = λ p i. open_has (F.share i) _ None tt;
        vc = λ t. open_has (F.made (at_vc t)) _ None tt;
        own_report = λ t. open_has (F.made (at_report t)) _ None tt;
        own_union = λ t. open_has (F.made (at_union t)) _ None tt;
        reply = λ n. tt;
        proof = λ n. numbered_nothing n;
        pending = λ c. tt;
        local_votes = λ i. tt;
        global_votes = λ i. tt;
        union_shares = λ t i. open_has (F.share i) _ None tt;
        asked = λ i. tt;
        unions = λ t i. open_has (F.held i) _ None tt;
        reports = λ t i. open_has F.report _ None tt;
        hand = record { word = λ n i. open_has (F.word n i) _ None tt; proof = λ n. open_has (F.proof n) _ None tt };
        local_words = tt;
        view_words = tt;
      }

  -- Of a server that forgets what it heard.
  pub forgets_has : (seat : Seat) (records : List (List Change)) (heard : List Heard) → StateHas F (questions seat records heard) → StateHas F (questions seat records [])
  unfolding questions gathered
  forgets_has seat records heard s =
      record {
        made = s.made;
        prepared = s.prepared;
        accepted = s.accepted;
        shares = λ p i. open_has (F.share i) _ None tt;
        vc = s.vc;
        own_report = s.own_report;
        own_union = s.own_union;
        reply = s.reply;
        proof = s.proof;
        pending = λ c. tt;
        local_votes = λ i. tt;
        global_votes = λ i. tt;
        union_shares = λ t i. open_has (F.share i) _ None tt;
        asked = λ i. tt;
        unions = s.unions;
        reports = λ t i. open_has F.report _ None tt;
        hand = record { word = λ n i. open_has (F.word n i) _ None tt; proof = λ n. open_has (F.proof n) _ None tt };
        local_words = s.local_words;
        view_words = s.view_words;
      }
