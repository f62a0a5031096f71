-- What is heard by the short state is heard by its answers.
use Rattle.std.proofs.Common.{◌≡◌, ◌∙◌, ap, sym, ℕ, None, refl}
use Rattle.st_words.specs.declared.ids.SiteId.{SiteId}
use Rattle.st_words.specs.declared.ids.View.{View}
use Rattle.st_words.specs.declared.ids.LocalView.{LocalView}
use Rattle.st_words.specs.declared.ids.Number.{Number}
use Rattle.st_words.specs.declared.value.Value.{Value}
use Rattle.st_words.specs.declared.value.Update.{Update}
use Rattle.st_words.specs.declared.statement.Statement.{Statement}
use Rattle.st_words.specs.declared.statement.Statement.TheVariants.{Prepare, Proposal, Accept}
use Rattle.st_seal.specs.declared.quorum.Signed.{Signed}
use Rattle.st_message.specs.declared.change.Heard.{Heard}
use Rattle.st_protocol.specs.Words.{Bytes, Quorum}
use Rattle.st_protocol.specs.State.{Term, open_term}
use Rattle.st_protocol.specs.Growth.{hears, takes, cuts, slots_takes, slots_cuts, pending_takes, pending_cuts, votes_takes, votes_cuts, reports_takes, reports_cuts, hand_takes, hand_cuts, own_takes, own_cuts}
use Rattle.st_state.specs.declared.slots.Slots.{Slots}
use Rattle.st_state.specs.declared.hand.Hand.{Hand}
use Rattle.st_state.specs.declared.own.Own.{Own}
use Rattle.st_state.specs.declared.pending.Pending.{Pending}
use Rattle.st_state.specs.SlotsView.{slots_of, heard_share}
use Rattle.st_state.specs.HandView.{hand_of, heard_accept}
use Rattle.st_state.specs.OwnView.{own_of, own_certificate}
use Rattle.st_state.specs.ClientsView.{last_of, pending_of, heard_update}
use Rattle.st_state.proofs.HandLaws.{open_none}
use Rattle.st_state.proofs.StillLaws.{slots_still, pending_still, hand_still, own_still}
use Rattle.st_live.specs.declared.live.Live.{Live}
use Rattle.st_live.specs.LiveView.{Past, place_here, no_votes, asked}

-- ---- one group takes what is heard, and the others stay

abbrev NoVotes : Live → Heard → Type 0
NoVotes live m = votes_cuts (place_here live) (votes_takes m no_votes) ≡ no_votes

abbrev NoReports : Live → Heard → Type 0
NoReports live m = (t : Term) (i : ℕ) → reports_cuts (place_here live) (reports_takes m (λ t k. None)) t i ≡ None

abbrev pub with_groups : Live → Slots → Hand → Own → Live
with_groups live slots hand own = record live { slots = slots; hand = hand; own = own }

heard_by : (past : Past) (live : Live) (slots : Slots) (hand : Hand) (own : Own) (m : Heard)
    → slots_of (place_here live) slots ≡ slots_cuts (place_here live) (slots_takes m (slots_of (place_here live) live.slots))
    → pending_of (last_of live.clients) live.pending ≡ pending_cuts (last_of live.clients) (pending_takes m (pending_of (last_of live.clients) live.pending))
    → NoVotes live m → NoReports live m
    → hand_of (place_here live) hand ≡ hand_cuts (place_here live) (hand_takes m (hand_of (place_here live) live.hand))
    → own_of (place_here live) own ≡ own_cuts (place_here live) (own_takes m (own_of (place_here live) live.own))
    → asked past (with_groups live slots hand own) ≡ hears (asked past live) m
unfolding asked hears takes cuts
heard_by past live slots hand own m slots_is pending_is votes reports hand_is own_is =
    λ i. record {
      here = place_here live;
      slots = slots_is i;
      making = (asked past live).making;
      log = (asked past live).log;
      pending = pending_is i;
      votes = (sym votes) i;
      unions = (asked past live).unions;
      reports = λ t k. (sym (reports t k)) i;
      hand = hand_is i;
      words = (asked past live).words;
      own = own_is i;
    }

-- no vote and no report is found
votes_still : (live : Live) (m : Heard) → votes_takes m no_votes ≡ no_votes → NoVotes live m
votes_still live m none = ap (votes_cuts (place_here live)) none ∙ (λ i. record { local = λ k. None; global = λ k. None; unions = λ t k. (open_none (open_term (place_here live) t)) i; asked = λ k. None })

-- ---- the kinds of messages that are kept

pub prepare_heard : (past : Past) (live : Live) (slots : Slots) (site : SiteId) (view : View) (local : LocalView) (n : Number) (v : Value) (signed : Signed)
    → slots_of (place_here live) slots ≡ slots_cuts (place_here live) (slots_takes (heard_share (Prepare site view local n v) signed) (slots_of (place_here live) live.slots))
    → asked past (record live { slots = slots }) ≡ hears (asked past live) (heard_share (Prepare site view local n v) signed)
prepare_heard past live slots site view local n v signed is =
    let m : Heard = heard_share (Prepare site view local n v) signed in
    heard_by past live slots live.hand live.own m is
    (sym (pending_still (last_of live.clients) live.pending m (λ c. refl)))
    (votes_still live m refl)
    (λ t i. open_none (open_term (place_here live) t))
    (sym (hand_still (place_here live) live.hand m (λ k. refl) (λ k s. refl) (λ k. refl)))
    (sym (own_still (place_here live) live.own m (λ t. refl) refl (λ t. refl) (λ g k. refl) (λ g k. refl)))

pub proposal_heard : (past : Past) (live : Live) (slots : Slots) (site : SiteId) (view : View) (local : LocalView) (n : Number) (v : Value) (signed : Signed)
    → slots_of (place_here live) slots ≡ slots_cuts (place_here live) (slots_takes (heard_share (Proposal site view local n v) signed) (slots_of (place_here live) live.slots))
    → asked past (record live { slots = slots }) ≡ hears (asked past live) (heard_share (Proposal site view local n v) signed)
proposal_heard past live slots site view local n v signed is =
    let m : Heard = heard_share (Proposal site view local n v) signed in
    heard_by past live slots live.hand live.own m is
    (sym (pending_still (last_of live.clients) live.pending m (λ c. refl)))
    (votes_still live m refl)
    (λ t i. open_none (open_term (place_here live) t))
    (sym (hand_still (place_here live) live.hand m (λ k. refl) (λ k s. refl) (λ k. refl)))
    (sym (own_still (place_here live) live.own m (λ t. refl) refl (λ t. refl) (λ g k. refl) (λ g k. refl)))

pub accept_heard : (past : Past) (live : Live) (slots : Slots) (site : SiteId) (view : View) (n : Number) (v : Value) (signed : Signed)
    → slots_of (place_here live) slots ≡ slots_cuts (place_here live) (slots_takes (heard_share (Accept site view n v) signed) (slots_of (place_here live) live.slots))
    → asked past (record live { slots = slots }) ≡ hears (asked past live) (heard_share (Accept site view n v) signed)
accept_heard past live slots site view n v signed is =
    let m : Heard = heard_share (Accept site view n v) signed in
    heard_by past live slots live.hand live.own m is
    (sym (pending_still (last_of live.clients) live.pending m (λ c. refl)))
    (votes_still live m refl)
    (λ t i. open_none (open_term (place_here live) t))
    (sym (hand_still (place_here live) live.hand m (λ k. refl) (λ k s. refl) (λ k. refl)))
    (sym (own_still (place_here live) live.own m (λ t. refl) refl (λ t. refl) (λ g k. refl) (λ g k. refl)))

pub certificate_heard : (past : Past) (live : Live) (hand : Hand) (site : SiteId) (view : View) (n : Number) (v : Value) (q : Quorum)
    → hand_of (place_here live) hand ≡ hand_cuts (place_here live) (hand_takes (heard_accept site view n v q) (hand_of (place_here live) live.hand))
    → asked past (record live { hand = hand }) ≡ hears (asked past live) (heard_accept site view n v q)
certificate_heard past live hand site view n v q is =
    let m : Heard = heard_accept site view n v q in
    heard_by past live live.slots hand live.own m
    (sym (slots_still (place_here live) live.slots m (λ p i. refl)))
    (sym (pending_still (last_of live.clients) live.pending m (λ c. refl)))
    (votes_still live m refl)
    (λ t i. open_none (open_term (place_here live) t))
    is
    (sym (own_still (place_here live) live.own m (λ t. refl) refl (λ t. refl) (λ g k. refl) (λ g k. refl)))

-- its own certificate of a Proposal or an Accept
own_heard : (past : Past) (live : Live) (own : Own) (s : Statement) (q : Quorum) → votes_takes (own_certificate s q) no_votes ≡ no_votes
    → own_of (place_here live) own ≡ own_cuts (place_here live) (own_takes (own_certificate s q) (own_of (place_here live) live.own))
    → asked past (record live { own = own }) ≡ hears (asked past live) (own_certificate s q)
own_heard past live own s q votes is =
    let m : Heard = own_certificate s q in
    heard_by past live live.slots live.hand own m
    (sym (slots_still (place_here live) live.slots m (λ p i. refl)))
    (sym (pending_still (last_of live.clients) live.pending m (λ c. refl)))
    (votes_still live m votes)
    (λ t i. open_none (open_term (place_here live) t))
    (sym (hand_still (place_here live) live.hand m (λ k. refl) (λ k s. refl) (λ k. refl)))
    is

pub own_proposal_heard : (past : Past) (live : Live) (own : Own) (site : SiteId) (view : View) (local : LocalView) (n : Number) (v : Value) (q : Quorum)
    → own_of (place_here live) own ≡ own_cuts (place_here live) (own_takes (own_certificate (Proposal site view local n v) q) (own_of (place_here live) live.own))
    → asked past (record live { own = own }) ≡ hears (asked past live) (own_certificate (Proposal site view local n v) q)
own_proposal_heard past live own site view local n v q is = own_heard past live own (Proposal site view local n v) q refl is

pub own_accept_heard : (past : Past) (live : Live) (own : Own) (site : SiteId) (view : View) (n : Number) (v : Value) (q : Quorum)
    → own_of (place_here live) own ≡ own_cuts (place_here live) (own_takes (own_certificate (Accept site view n v) q) (own_of (place_here live) live.own))
    → asked past (record live { own = own }) ≡ hears (asked past live) (own_certificate (Accept site view n v) q)
own_accept_heard past live own site view n v q is = own_heard past live own (Accept site view n v) q refl is

-- ---- an update

-- the pending updates with one more, for as many clients
abbrev pub with_pending : Live → Pending → Live
with_pending live pending = record live { pending = pending }

pub update_heard : (past : Past) (live : Live) (pending : Pending) (u : Update) (seal : Bytes) → pending.clients ≡ live.pending.clients
    → pending_of (last_of live.clients) pending ≡ pending_cuts (last_of live.clients) (pending_takes (heard_update u seal) (pending_of (last_of live.clients) live.pending))
    → asked past (with_pending live pending) ≡ hears (asked past live) (heard_update u seal)
unfolding asked hears takes cuts
update_heard past live pending u seal same is =
    λ i. record {
      here = (places i);
      slots = (ap (λ h. slots_of h live.slots) places ∙ sym (slots_still (place_here live) live.slots m (λ p k. refl))) i;
      making = (asked past live).making;
      log = (asked past live).log;
      pending = is i;
      votes = (sym (votes_still live m refl)) i;
      unions = (asked past live).unions;
      reports = λ t k. (sym (open_none (open_term (place_here live) t))) i;
      hand = (ap (λ h. hand_of h live.hand) places ∙ sym (hand_still (place_here live) live.hand m (λ k. refl) (λ k s. refl) (λ k. refl))) i;
      words = (asked past live).words;
      own = (ap (λ h. own_of h live.own) places ∙ sym (own_still (place_here live) live.own m (λ t. refl) refl (λ t. refl) (λ g k. refl) (λ g k. refl))) i;
    }
  where
    m : Heard
    m = heard_update u seal

    places : place_here (with_pending live pending) ≡ place_here live
    places = λ i. record (place_here live) { seat = record (place_here live).seat { clients = same i } }
