-- What a server answers is in range where all that it recorded and heard is.
use Rattle.std.proofs.Common.{◌≡◌, refl, sym, subst, ℕ, ◌+◌, ◌^◌, ◌<◌, ◌≤◌, Bool, true, false, IsTrue, cond, nat_eq, nat_lt, List, [], ◌∷◌, arith, lit<}
use Rattle.std.specs.Prelude.{◌&&◌, Option, Some, None, is_some, max}
use Rattle.std.specs.Option.{IfSome}
use Rattle.std.specs.List.{AllByRecursion as Each}
use Rattle.std.proofs.lemmas.Bool.{and_parts, eqb-true, eqb-false}
use Rattle.std.proofs.lemmas.List.Elements.{recursion_from_All}
use Rattle.st_fields.specs.Spelling.{KeepsEach}
use Rattle.st_words.specs.declared.statement.Item.{Item}
use Rattle.st_words.specs.declared.statement.Statement.{Statement}
use Rattle.st_words.specs.declared.statement.Statement.TheVariants.{Prepare, Proposal, Accept, LocalVc, GlobalVc, LocalUnion, GlobalUnion}
use Rattle.st_words.specs.declared.limits.ItemLimits.{ItemLimits}
use Rattle.st_words.specs.Ranges.{KeepsUpdate, KeepsItem, after_item, FitsUpdate, FitsItem}
use Rattle.st_message.specs.declared.message.Proof.{Proof}
use Rattle.st_message.specs.declared.message.ReportBody.{ReportBody}
use Rattle.st_message.specs.declared.message.Message.{Message}
use Rattle.st_message.specs.declared.message.Message.TheVariants as messages
use Rattle.st_message.specs.declared.change.Change.{Change}
use Rattle.st_message.specs.declared.change.Change.TheVariants.{EnterLocal, EnterGlobal, Made, Prepared, Accepted, Union, Executed}
use Rattle.st_message.specs.declared.change.Heard.{Heard}
use Rattle.st_wire.specs.Ranges.{KeepsSeal}
use Rattle.st_protocol.specs.Words.{Quorum, site_of, index_of}
use Rattle.st_protocol.specs.State.{Place, Term, Seat, Here, Sealing, Backed, Making, Log, Pended, Vote, Asked, Votes, Held, Word, Hand, KeptViews, Completed, Own, Answers, at_place, at_vc, at_report, at_union, at_reply, backed_view, backed_local, pended_time, vote_view, asked_view, word_view, word_height, completed_view, completed_local, open_place, open_term, open_vc, open_number, open_at}
use Rattle.st_protocol.specs.Keeping.{joined}
use Rattle.st_protocol.specs.Questions.{sealing_in, prepared_in, accepted_in, held_of, held_in, if_other, if_own, share_in, local_vote_in, global_vote_in, asked_in, update_in, report_in, own_report_in, word_in, proof_in, completed_in, is_global_vc, is_proposal_at, is_accept_at, here_of, questions}
use Rattle.st_protocol.specs.Growth.{here_after, log_after, words_after, hand_takes, hand_cuts, notes, takes, cuts, nothing, notes_all, takes_all, grown, after, hears}
use Rattle.st_protocol.proofs.QuestionLaws.{questions_grow}
use Rattle.st_ranges.specs.Ranges.{ValueInRange, StatementInRange, QuorumInRange, SitesInRange, ProofInRange, MessageInRange, ChangeInRange, HeardInRange, StandsIn, IsReportOf, view_of, local_view_of, ListsInRange, SeatInRange}
use Rattle.st_ranges.proofs.ChoiceLaws.{either_has, open_has, from_has, first_has, last_has, greatest_has, greatest_last_has, higher_has, joined_all}
use Rattle.st_ranges.proofs.RisingLaws.{ShareInRange, each_both}

-- ---- what the groups of a state hold

-- where a server stands
pub record HereInRange (here : Here) : Type 0 where
  pub seat : SeatInRange here.seat
  pub view : here.view < 2 ^ 32
  pub local : here.local < 2 ^ 32

-- Where a server stood when an event came: its site, and the views that it was in.
pub record Top : Type 0 where
  pub site : ℕ
  pub view : ℕ
  pub local : ℕ

-- by where it stands
abbrev pub top_of : Here → Top
top_of here = record { site = here.seat.site; view = here.view; local = here.local }

-- a change of no later view
abbrev pub ChangeAt : Top → Change → Type 0
ChangeAt t x = ChangeInRange x × StandsIn t.view t.local x

-- something heard at that site
abbrev pub HeardAt : Top → Heard → Type 0
HeardAt t m = HeardInRange m × IsReportOf t.site m.message

-- a value that stood in a view
abbrev pub BackedInRange : Backed → Type 0
BackedInRange b = (b.view < 2 ^ 32) × (b.local < 2 ^ 32) × ValueInRange b.value × QuorumInRange b.quorum

-- that was prepared
abbrev pub PreparedAt : Top → Backed → Type 0
PreparedAt t b = BackedInRange b × (b.view ≤ t.view) × (b.local ≤ t.local)

-- that was accepted
abbrev pub AcceptedAt : Top → Backed → Type 0
AcceptedAt t b = BackedInRange b × (b.view ≤ t.view)

-- the proof of an executed number
abbrev pub LoggedInRange : Here → ℕ → Proof → Type 0
LoggedInRange here n p = ProofInRange p × (1 ≤ n) × (n ≤ here.executed)

-- the report of a server of that site
abbrev pub ReportAt : Top → Term → ℕ → ReportBody → Type 0
ReportAt t term i r = MessageInRange (messages.Report r) × (site_of r.statement ≡ t.site) × (at_report term r.statement ≡ true) × (index_of r.statement ≡ i)

-- a vote's seal
abbrev pub VoteInRange : Vote → Type 0
VoteInRange v = KeepsSeal v.seal

-- a site's quorum that asks for a view
abbrev pub AskedInRange : Asked → Type 0
AskedInRange a = QuorumInRange a.quorum

-- a statement that was made, and passes a test
abbrev pub SealingInRange : (Statement → Bool) → Sealing → Type 0
SealingInRange test m = StatementInRange m.statement × (test m.statement ≡ true)

-- a certificate that was completed
abbrev pub CompletedInRange : Completed → Type 0
CompletedInRange c = MessageInRange (messages.Certificate c.statement c.quorum)

-- a report that was sent
abbrev pub SentReportInRange : ReportBody → Type 0
SentReportInRange r = MessageInRange (messages.Report r)

-- an update that waits, with its seal
abbrev pub PendedInRange : Pended → Type 0
PendedInRange k = KeepsUpdate k.update × FitsUpdate k.update × KeepsSeal k.seal

-- an item's value
abbrev pub ItemValueInRange : Item → Type 0
ItemValueInRange i = ValueInRange i.value

-- the values of a union that is held
abbrev pub HeldInRange : Held → Type 0
HeldInRange u = Each ItemValueInRange u.items

-- an Accept certificate that is kept
abbrev pub WordInRange : Word → Type 0
WordInRange w = (w.view < 2 ^ 32) × ValueInRange w.value × QuorumInRange w.quorum

-- what orders numbers
pub record HandInRange (hand : Hand) : Type 0 where
  pub word : (n s : ℕ) → IfSome (hand.word n s) WordInRange
  pub proof : (n : ℕ) → IfSome (hand.proof n) ProofInRange

-- the statements that were made
pub record MakingInRange (making : Making) : Type 0 where
  pub vc : (t : Term) → IfSome (making.vc t) (SealingInRange (at_vc t))
  pub union : (t : Term) → IfSome (making.union t) (SealingInRange (at_union t))
  pub reply : (n : ℕ) → IfSome (making.reply n) (SealingInRange (at_reply n))

-- what the server itself sent
pub record OwnInRange (own : Own) : Type 0 where
  pub report : (t : Term) → IfSome (own.report t) SentReportInRange
  pub vc : IfSome own.vc CompletedInRange
  pub union : (t : Term) → IfSome (own.union t) CompletedInRange
  pub proposal : (g n : ℕ) → IfSome (own.proposal g n) CompletedInRange
  pub accept : (g n : ℕ) → IfSome (own.accept g n) CompletedInRange

-- what asks for views, and the shares of unions
pub record VotesInRange (votes : Votes) : Type 0 where
  pub local : (i : ℕ) → IfSome (votes.local i) VoteInRange
  pub global : (i : ℕ) → IfSome (votes.global i) VoteInRange
  pub unions : (t : Term) (i : ℕ) → IfSome (votes.unions t i) ShareInRange
  pub asked : (s : ℕ) → IfSome (votes.asked s) AskedInRange

-- why views were entered
pub record WordsInRange (words : KeptViews) : Type 0 where
  pub local : IfSome words.local QuorumInRange
  pub view : IfSome words.view SitesInRange

-- All that events ask of a state.
pub record StateInRange (top : Top) (state : Answers) : Type 0 where
  pub prepared : (n : ℕ) → IfSome (state.slots.prepared n) (PreparedAt top)
  pub accepted : (n : ℕ) → IfSome (state.slots.accepted n) (AcceptedAt top)
  pub logged : (n : ℕ) → IfSome (state.log.proof n) (LoggedInRange state.here n)
  pub proved : (n : ℕ) → 1 ≤ n → n ≤ state.here.executed → IsTrue (is_some (state.log.proof n))
  pub votes : VotesInRange state.votes
  pub reports : (t : Term) (i : ℕ) → IfSome (state.reports t i) (ReportAt top t i)
  pub words : WordsInRange state.words
  pub here : HereInRange state.here
  pub made : (p : Place) → IfSome (state.slots.made p) (SealingInRange (at_place p))
  pub shares : (p : Place) (i : ℕ) → IfSome (state.slots.shares p i) ShareInRange
  pub making : MakingInRange state.making
  pub pending : (c : ℕ) → IfSome (state.pending c) PendedInRange
  pub unions : (t : Term) (s : ℕ) → IfSome (state.unions t s) HeldInRange
  pub hand : HandInRange state.hand
  pub own : OwnInRange state.own

-- ---- what one change says

-- the greater of two numbers
max_below : (a b n : ℕ) → a < n → b < n → max a b < n
max_below a b n h k = grind (arith, h, k)

-- where it leaves the server
here_in_range : (x : Change) (here : Here) → HereInRange here → ChangeInRange x → HereInRange (here_after x here)
here_in_range (EnterLocal local q) here h c = record { seat = h.seat; view = h.view; local = max_below here.local local.0 (2 ^ 32) h.local c.0 }
here_in_range (EnterGlobal view sites) here h c = record { seat = h.seat; view = max_below here.view view.0 (2 ^ 32) h.view c.0; local = h.local }
here_in_range (Made leaf s) here h c = record { seat = h.seat; view = h.view; local = h.local }
here_in_range (Prepared s q) here h c = h
here_in_range (Accepted s q) here h c = h
here_in_range (Union s q) here h c = h
here_in_range (Executed n p) here h c = record { seat = h.seat; view = h.view; local = h.local }

-- the statement that is made
sealing_in_range : (test : Statement → Bool) (x : Change) → ChangeInRange x → IfSome (sealing_in test x) (SealingInRange test)
sealing_in_range test (Made leaf s) h = by (test s) refl
  where
    by : (b : Bool) → test s ≡ b → IfSome (cond b (Some (record { leaf = leaf; statement = s })) None) (SealingInRange test)
    by true e = (h.1, e)
    by false e = tt
sealing_in_range test _ h = tt

-- the values of items
items_in_range : (limits : ItemLimits) (items : List Item) → KeepsEach KeepsItem after_item limits items → Each FitsItem items → Each ItemValueInRange items
items_in_range limits [] h k = tt
items_in_range limits (i ∷ is) h k = ((h.0.4, k.0.3), items_in_range (after_item limits i) is h.1 k.1)

-- a union as it is held
held_of_in_range : (s : Statement) (q : Quorum) → StatementInRange s → IfSome (held_of s q) HeldInRange
held_of_in_range (LocalUnion site local greatest base items) q h = items_in_range _ items h.0.2.1 (recursion_from_All FitsItem items h.1.4)
held_of_in_range (GlobalUnion site view base items) q h = items_in_range _ items h.0.2.1 (recursion_from_All FitsItem items h.1.3)
held_of_in_range _ q h = tt

-- the union that is held
held_in_range : (t : Term) (site : ℕ) (x : Change) → ChangeInRange x → IfSome (held_in t site x) HeldInRange
held_in_range t site (Union s q) h = either_has HeldInRange (at_union t s && nat_eq (site_of s) site) (held_of s q) None (held_of_in_range s q (h.0.1, h.1)) tt
held_in_range t site _ h = tt

-- the value that is prepared
prepared_in_range : (t : Top) (number : ℕ) (x : Change) → ChangeAt t x → IfSome (prepared_in number x) (PreparedAt t)
prepared_in_range t number (Prepared (Prepare s g l n v) q) h =
    either_has (PreparedAt t) (nat_eq n.0 number) _ _ ((h.0.1.1, h.0.1.2, (h.0.0.1.1, h.0.1.4), h.0.2), h.1.0, h.1.1) tt
prepared_in_range t number _ h = tt

-- the value that is accepted
accepted_in_range : (t : Top) (number : ℕ) (x : Change) → ChangeAt t x → IfSome (accepted_in number x) (AcceptedAt t)
accepted_in_range t number (Accepted (Proposal s g l n v) q) h =
    either_has (AcceptedAt t) (nat_eq n.0 number) _ _ ((h.0.1.1, h.0.1.2, (h.0.0.1.1, h.0.1.4), h.0.2), h.1) tt
accepted_in_range t number _ h = tt

-- why views were entered, after a change
words_in_range : (x : Change) (here : Here) (kept : KeptViews) → ChangeInRange x → WordsInRange kept → WordsInRange (words_after x here kept)
words_in_range (EnterLocal l q) here kept h w = record { local = either_has QuorumInRange (nat_lt here.local l.0) (Some q) kept.local h.1 w.local; view = w.view }
words_in_range (EnterGlobal g ws) here kept h w = record { local = w.local; view = either_has SitesInRange (nat_lt here.view g.0) (Some ws) kept.view h.1 w.view }
words_in_range (Made leaf s) here kept h w = w
words_in_range (Prepared s q) here kept h w = w
words_in_range (Accepted s q) here kept h w = w
words_in_range (Union s q) here kept h w = w
words_in_range (Executed n p) here kept h w = w

-- the log after a change
logged_in_range : (x : Change) (here : Here) (log : Log) → ChangeInRange x → ((n : ℕ) → IfSome (log.proof n) (LoggedInRange here n)) →
    (n : ℕ) → IfSome ((log_after x here log).proof n) (LoggedInRange (here_after x here) n)
logged_in_range (Executed k p) here log h all n = by (nat_eq (here.executed + 1) n) refl
  where
    later : (x : Option Proof) → IfSome x (LoggedInRange here n) → IfSome x (λ q. ProofInRange q × (1 ≤ n) × (n ≤ here.executed + 1))
    later None g = tt
    later (Some q) g = let most : n ≤ here.executed = g.2 in (g.0, g.1, omega (arith, most))

    by : (b : Bool) → nat_eq (here.executed + 1) n ≡ b → IfSome (cond b (Some p) (log.proof n)) (λ q. ProofInRange q × (1 ≤ n) × (n ≤ here.executed + 1))
    by true e = let is : here.executed + 1 ≡ n = eqb-true (here.executed + 1) n e in (h.2, omega (arith, is), omega (arith, is))
    by false e = later (log.proof n) (all n)
logged_in_range (EnterLocal l q) here log h all n = all n
logged_in_range (EnterGlobal g ws) here log h all n = all n
logged_in_range (Made leaf s) here log h all n = all n
logged_in_range (Prepared s q) here log h all n = all n
logged_in_range (Accepted s q) here log h all n = all n
logged_in_range (Union s q) here log h all n = all n

-- each executed number has its proof
proved_in_range : (x : Change) (here : Here) (log : Log) → ((n : ℕ) → 1 ≤ n → n ≤ here.executed → IsTrue (is_some (log.proof n))) →
    (n : ℕ) → 1 ≤ n → n ≤ (here_after x here).executed → IsTrue (is_some ((log_after x here log).proof n))
proved_in_range (Executed k p) here log all n least most = by (nat_eq (here.executed + 1) n) refl
  where
    below : (e m : ℕ) → m ≤ e + 1 → (e + 1 ≡ m → ⊥) → m ≤ e
    below e m h unlike = grind (arith, h, unlike)

    by : (b : Bool) → nat_eq (here.executed + 1) n ≡ b → IsTrue (is_some (cond b (Some p) (log.proof n)))
    by true e = refl
    by false e = let other : here.executed + 1 ≡ n → ⊥ = eqb-false (here.executed + 1) n e in all n least (below here.executed n most other)
proved_in_range (EnterLocal l q) here log all n least most = all n least most
proved_in_range (EnterGlobal g ws) here log all n least most = all n least most
proved_in_range (Made leaf s) here log all n least most = all n least most
proved_in_range (Prepared s q) here log all n least most = all n least most
proved_in_range (Accepted s q) here log all n least most = all n least most
proved_in_range (Union s q) here log all n least most = all n least most

-- ---- what one thing heard says

-- what is picked of another server's message
other_in_range : {A : Type 0} (G : A → Type 0) (m : Heard) (pick : Message → Option A) → IfSome (pick m.message) G → IfSome (if_other m pick) G
other_in_range G m pick h = either_has G m.own None (pick m.message) tt h

-- what is picked of the server's own message
own_in_range : {A : Type 0} (G : A → Type 0) (m : Heard) (pick : Message → Option A) → IfSome (pick m.message) G → IfSome (if_own m pick) G
own_in_range G m pick h = either_has G m.own (pick m.message) None h tt

-- a report
own_report_in_range : (t : Term) (m : Message) → MessageInRange m → IfSome (own_report_in t m) SentReportInRange
own_report_in_range t (messages.Report r) h = either_has SentReportInRange (at_report t r.statement) (Some r) None h tt
own_report_in_range t _ h = tt

-- a certificate
completed_in_range : (test : Statement → Bool) (m : Message) → MessageInRange m → IfSome (completed_in test m) CompletedInRange
completed_in_range test (messages.Certificate s q) h = either_has CompletedInRange (test s) (Some (record { statement = s; quorum = q })) None h tt
completed_in_range test _ h = tt

-- a share's seal
share_in_range : (test : Statement → Bool) (index : ℕ) (m : Message) → MessageInRange m → IfSome (share_in test index m) ShareInRange
share_in_range test index (messages.Share s signed) h = either_has ShareInRange (test s && nat_eq signed.index index) _ _ h.0.1.1 tt
share_in_range test index _ h = tt

-- a vote for a local view
local_vote_in_range : (index : ℕ) (m : Message) → MessageInRange m → IfSome (local_vote_in index m) VoteInRange
local_vote_in_range index (messages.Share (LocalVc s x) signed) h = either_has VoteInRange (nat_eq signed.index index) _ _ h.0.1.1 tt
local_vote_in_range index _ h = tt

-- a vote for a view
global_vote_in_range : (index : ℕ) (m : Message) → MessageInRange m → IfSome (global_vote_in index m) VoteInRange
global_vote_in_range index (messages.Share (GlobalVc s y) signed) h = either_has VoteInRange (nat_eq signed.index index) _ _ h.0.1.1 tt
global_vote_in_range index _ h = tt

-- a site's certificate that asks for a view
asked_in_range : (site : ℕ) (m : Message) → MessageInRange m → IfSome (asked_in site m) AskedInRange
asked_in_range site (messages.Certificate (GlobalVc s y) q) h = either_has AskedInRange (nat_eq s.0 site) _ _ (h.0.1, h.1.1) tt
asked_in_range site _ h = tt

-- a server's report
report_in_range : (t : Top) (term : Term) (index : ℕ) (m : Message) → MessageInRange m → IsReportOf t.site m → IfSome (report_in term index m) (ReportAt t term index)
report_in_range t term index (messages.Report r) h home = by (at_report term r.statement && nat_eq (index_of r.statement) index) refl
  where
    by : (b : Bool) → (at_report term r.statement && nat_eq (index_of r.statement) index) ≡ b → IfSome (cond b (Some r) None) (ReportAt t term index)
    by true e =
        let parts = and_parts (at_report term r.statement) (nat_eq (index_of r.statement) index) e in
        (h, home, parts.0, eqb-true (index_of r.statement) index parts.1)
    by false e = tt
report_in_range t term index _ h home = tt

-- a client's update
update_in_range : (client : ℕ) (m : Message) → MessageInRange m → IfSome (update_in client m) PendedInRange
update_in_range client (messages.Update u seal) h = either_has PendedInRange (nat_eq u.client.0 client) _ _ (h.0.0, h.1, h.0.1) tt
update_in_range client _ h = tt

-- a site's Accept certificate
word_in_range : (number site : ℕ) (m : Message) → MessageInRange m → IfSome (word_in number site m) WordInRange
word_in_range number site (messages.Certificate (Accept s g n v) q) h =
    either_has WordInRange (nat_eq n.0 number && nat_eq s.0 site) _ _ (h.1.0.1, (h.0.0.1.1, h.1.0.3), (h.0.1, h.1.1)) tt
word_in_range number site _ h = tt

-- an order proof
proof_in_range : (number : ℕ) (m : Message) → MessageInRange m → IfSome (proof_in number m) ProofInRange
proof_in_range number (messages.OrderProof n p) h = either_has ProofInRange (nat_eq n.0 number) _ _ (h.0.1, h.1.1) tt
proof_in_range number _ h = tt

-- ---- the three steps

-- the hand after something heard
pub hand_takes_in_range : (m : Heard) (hand : Hand) → HandInRange hand → HeardInRange m → HandInRange (hand_takes m hand)
hand_takes_in_range m hand s h =
    record {
      word = λ n i. greatest_has WordInRange word_view (hand.word n i) _ (s.word n i) (other_in_range WordInRange m (word_in n i) (word_in_range n i m.message h));
      proof = λ n. first_has ProofInRange (hand.proof n) _ (s.proof n) (other_in_range ProofInRange m (proof_in n) (proof_in_range n m.message h));
    }

-- the hand less what is left behind
pub hand_cuts_in_range : (here : Here) (hand : Hand) → HandInRange hand → HandInRange (hand_cuts here hand)
hand_cuts_in_range here hand s =
    record {
      word = λ n i. open_has WordInRange (open_number here n) _ (from_has WordInRange word_height (hand.highest n) (hand.word n i) (s.word n i));
      proof = λ n. open_has ProofInRange (open_number here n) (hand.proof n) (s.proof n);
    }

-- a change is recorded
notes_in_range : (t : Top) (state : Answers) (x : Change) → StateInRange t state → ChangeAt t x → StateInRange t (notes state x)
unfolding notes
notes_in_range top state x s h =
    let here : Here = here_after x state.here in
    record {
      here = here_in_range x state.here s.here h.0;
      prepared = λ n. open_has (PreparedAt top) (open_number here n) _ (higher_has (PreparedAt top) backed_view backed_local (state.slots.prepared n) _ (s.prepared n) (prepared_in_range top n x h));
      accepted = λ n. open_has (AcceptedAt top) (open_number here n) _ (higher_has (AcceptedAt top) backed_view backed_local (state.slots.accepted n) _ (s.accepted n) (accepted_in_range top n x h));
      logged = logged_in_range x state.here state.log h.0 s.logged;
      proved = proved_in_range x state.here state.log s.proved;
      votes = s.votes;
      reports = s.reports;
      words = words_in_range x state.here state.words h.0 s.words;
      made = λ p. open_has (SealingInRange (at_place p)) (open_place here p) _ (first_has (SealingInRange (at_place p)) (state.slots.made p) _ (s.made p) (sealing_in_range (at_place p) x h.0));
      shares = s.shares;
      making =
          record {
            vc = λ t. open_has (SealingInRange (at_vc t)) (open_vc here t) _ (first_has (SealingInRange (at_vc t)) (state.making.vc t) _ (s.making.vc t) (sealing_in_range (at_vc t) x h.0));
            union = λ t. open_has (SealingInRange (at_union t)) (open_term here t) _ (first_has (SealingInRange (at_union t)) (state.making.union t) _ (s.making.union t) (sealing_in_range (at_union t) x h.0));
            reply = λ n. first_has (SealingInRange (at_reply n)) (state.making.reply n) _ (s.making.reply n) (sealing_in_range (at_reply n) x h.0);
          };
      pending = s.pending;
      unions = λ t i. open_has HeldInRange (open_term here t) _ (first_has HeldInRange (state.unions t i) _ (s.unions t i) (held_in_range t i x h.0));
      hand = s.hand;
      own = s.own;
    }

-- something is heard
takes_in_range : (t : Top) (state : Answers) (m : Heard) → StateInRange t state → HeardAt t m → StateInRange t (takes state m)
unfolding takes
takes_in_range top state m s both =
    let h : HeardInRange m = both.0 in
    record {
      here = s.here;
      prepared = s.prepared;
      accepted = s.accepted;
      logged = s.logged;
      proved = s.proved;
      votes =
          record {
            local = λ i. greatest_has VoteInRange vote_view (state.votes.local i) _ (s.votes.local i) (other_in_range VoteInRange m (local_vote_in i) (local_vote_in_range i m.message h));
            global = λ i. greatest_has VoteInRange vote_view (state.votes.global i) _ (s.votes.global i) (other_in_range VoteInRange m (global_vote_in i) (global_vote_in_range i m.message h));
            unions = λ t i. first_has ShareInRange (state.votes.unions t i) _ (s.votes.unions t i) (other_in_range ShareInRange m (share_in (at_union t) i) (share_in_range (at_union t) i m.message h));
            asked = λ i. greatest_has AskedInRange asked_view (state.votes.asked i) _ (s.votes.asked i) (other_in_range AskedInRange m (asked_in i) (asked_in_range i m.message h));
          };
      reports = λ t i. first_has (ReportAt top t i) (state.reports t i) _ (s.reports t i) (other_in_range (ReportAt top t i) m (report_in t i) (report_in_range top t i m.message h both.1));
      words = s.words;
      made = s.made;
      shares = λ p i. first_has ShareInRange (state.slots.shares p i) _ (s.shares p i) (other_in_range ShareInRange m (share_in (at_place p) i) (share_in_range (at_place p) i m.message h));
      making = s.making;
      pending = λ c. greatest_has PendedInRange pended_time (state.pending c) _ (s.pending c) (other_in_range PendedInRange m (update_in c) (update_in_range c m.message h));
      unions = s.unions;
      hand = hand_takes_in_range m state.hand s.hand h;
      own =
          record {
            report = λ t. first_has SentReportInRange (state.own.report t) _ (s.own.report t) (own_in_range SentReportInRange m (own_report_in t) (own_report_in_range t m.message h));
            vc = greatest_last_has CompletedInRange completed_view state.own.vc _ s.own.vc (own_in_range CompletedInRange m (completed_in is_global_vc) (completed_in_range is_global_vc m.message h));
            union = λ t. last_has CompletedInRange (state.own.union t) _ (s.own.union t) (own_in_range CompletedInRange m (completed_in (at_union t)) (completed_in_range (at_union t) m.message h));
            proposal = λ g n. greatest_last_has CompletedInRange completed_local (state.own.proposal g n) _ (s.own.proposal g n) (own_in_range CompletedInRange m (completed_in (is_proposal_at g n)) (completed_in_range (is_proposal_at g n) m.message h));
            accept = λ g n. last_has CompletedInRange (state.own.accept g n) _ (s.own.accept g n) (own_in_range CompletedInRange m (completed_in (is_accept_at g n)) (completed_in_range (is_accept_at g n) m.message h));
          };
    }

-- what is left behind is dropped
cuts_in_range : (t : Top) (state : Answers) → StateInRange t state → StateInRange t (cuts state)
unfolding cuts
cuts_in_range top state s =
    record {
      here = s.here;
      prepared = s.prepared;
      accepted = s.accepted;
      logged = s.logged;
      proved = s.proved;
      votes =
          record {
            local = λ i. from_has VoteInRange vote_view (state.here.local + 1) (state.votes.local i) (s.votes.local i);
            global = λ i. from_has VoteInRange vote_view (state.here.view + 1) (state.votes.global i) (s.votes.global i);
            unions = λ t i. open_has ShareInRange (open_term state.here t) (state.votes.unions t i) (s.votes.unions t i);
            asked = λ i. from_has AskedInRange asked_view (state.here.view + 1) (state.votes.asked i) (s.votes.asked i);
          };
      reports = λ t i. open_has (ReportAt top t i) (open_term state.here t) (state.reports t i) (s.reports t i);
      words = s.words;
      made = s.made;
      shares = λ p i. open_has ShareInRange (open_place state.here p) (state.slots.shares p i) (s.shares p i);
      making = s.making;
      pending = λ c. from_has PendedInRange pended_time (state.log.run.last c + 1) (state.pending c) (s.pending c);
      unions = s.unions;
      hand = hand_cuts_in_range state.here state.hand s.hand;
      own =
          record {
            report = λ t. open_has SentReportInRange (open_term state.here t) (state.own.report t) (s.own.report t);
            vc = from_has CompletedInRange completed_view (state.here.view + 1) state.own.vc s.own.vc;
            union = λ t. open_has CompletedInRange (open_term state.here t) (state.own.union t) (s.own.union t);
            proposal = λ g n. open_has CompletedInRange (open_at state.here g n) (state.own.proposal g n) (s.own.proposal g n);
            accept = λ g n. open_has CompletedInRange (open_at state.here g n) (state.own.accept g n) (s.own.accept g n);
          };
    }

-- ---- over lists

-- nothing is answered where nothing was recorded or heard
nothing_in_range : (t : Top) (seat : Seat) → SeatInRange seat → StateInRange t (nothing seat)
unfolding nothing
nothing_in_range top seat h =
    record {
      prepared = λ n. tt;
      accepted = λ n. tt;
      logged = λ n. tt;
      proved = λ n least most. absurd (omega (arith, least, most));
      votes = record { local = λ i. tt; global = λ i. tt; unions = λ t i. tt; asked = λ i. tt };
      reports = λ t i. tt;
      words = record { local = tt; view = tt };
      here = record { seat = h; view = lit< tt; local = lit< tt };
      made = λ p. tt;
      shares = λ p i. tt;
      making = record { vc = λ t. tt; union = λ t. tt; reply = λ n. tt };
      pending = λ c. tt;
      unions = λ t i. tt;
      hand = record { word = λ n i. tt; proof = λ n. tt };
      own = record { report = λ t. tt; vc = tt; union = λ t. tt; proposal = λ g n. tt; accept = λ g n. tt };
    }

-- changes are recorded, in order
notes_all_in_range : (t : Top) (state : Answers) (xs : List Change) → StateInRange t state → Each (ChangeAt t) xs → StateInRange t (notes_all state xs)
notes_all_in_range t state [] s h = s
notes_all_in_range t state (x ∷ xs) s h = notes_all_in_range t (notes state x) xs (notes_in_range t state x s h.0) h.1

-- things are heard, in order
takes_all_in_range : (t : Top) (state : Answers) (ms : List Heard) → StateInRange t state → Each (HeardAt t) ms → StateInRange t (takes_all state ms)
takes_all_in_range t state [] s h = s
takes_all_in_range t state (m ∷ ms) s h = takes_all_in_range t (takes state m) ms (takes_in_range t state m s h.0) h.1

-- after one change more
pub after_in_range : (t : Top) (state : Answers) (x : Change) → StateInRange t state → ChangeAt t x → StateInRange t (after state x)
unfolding after
after_in_range t state x s h = cuts_in_range t (notes state x) (notes_in_range t state x s h)

-- after one thing heard more
pub hears_in_range : (t : Top) (state : Answers) (m : Heard) → StateInRange t state → HeardAt t m → StateInRange t (hears state m)
unfolding hears
hears_in_range t state m s h = cuts_in_range t (takes state m) (takes_in_range t state m s h)

-- as the answers grow
grown_in_range : (t : Top) (seat : Seat) (records : List (List Change)) (heard : List Heard) → SeatInRange seat → Each (ChangeAt t) (joined records) → Each (HeardAt t) heard →
    StateInRange t (grown seat records heard)
unfolding grown
grown_in_range t seat records heard h changes messages =
    cuts_in_range t (takes_all (notes_all (nothing seat) (joined records)) heard)
    (takes_all_in_range t (notes_all (nothing seat) (joined records)) heard
    (notes_all_in_range t (nothing seat) (joined records) (nothing_in_range t seat h) changes) messages)

-- where these lists leave the server
pub here_is : (seat : Seat) (records : List (List Change)) (heard : List Heard) →
    top_of (questions seat records heard).here ≡ record { site = seat.site; view = view_of records; local = local_view_of records }
unfolding questions here_of
here_is seat records heard = refl

-- What these lists answer.
pub questions_in_range : (seat : Seat) (records : List (List Change)) (heard : List Heard) → SeatInRange seat → ListsInRange seat records heard →
    StateInRange (top_of (questions seat records heard).here) (questions seat records heard)
questions_in_range seat records heard h lists =
    let top : Top = record { site = seat.site; view = view_of records; local = local_view_of records } in
    subst (λ t. StateInRange t (questions seat records heard)) (sym (here_is seat records heard))
    (subst (StateInRange top) (sym (questions_grow seat records heard))
    (grown_in_range top seat records heard h
    (each_both ChangeInRange (StandsIn (view_of records) (local_view_of records)) (joined records) (joined_all ChangeInRange records lists.changes)
    (joined_all (StandsIn (view_of records) (local_view_of records)) records lists.stands))
    (each_both HeardInRange (λ (m : Heard). IsReportOf seat.site m.message) heard lists.messages lists.home)))
