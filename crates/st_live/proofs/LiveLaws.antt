-- The short state goes on standing for the answers, change by change.
use Rattle.std.proofs.Common.{◌≡◌, ◌∙◌, ap, sym, subst, ℕ, ◌+◌, ◌<◌, ◌++◌, length, List, arith, cond, false}
use Rattle.std.proofs.lemmas.List.{length-append}
use Rattle.st_words.specs.declared.ids.Number.{Number}
use Rattle.st_words.specs.declared.statement.Statement.{Statement}
use Rattle.st_message.specs.declared.change.Change.{Change}
use Rattle.st_message.specs.declared.change.Change.TheVariants.{Made, Prepared, Accepted, Executed}
use Rattle.st_message.specs.declared.change.Heard.{Heard}
use Rattle.st_message.specs.declared.here.Here.{Here as Place}
use Rattle.st_message.specs.declared.message.Proof.{Proof}
use Rattle.st_protocol.specs.Words.{Quorum}
use Rattle.st_protocol.specs.State.{Here, Term, Answers, at_vc, at_report, at_union}
use Rattle.st_protocol.specs.Questions.{runs, runs_for, last_after, ops_of}
use Rattle.st_protocol.specs.Growth.{after, notes, cuts, hears, takes, slots_notes, slots_cuts, hand_cuts, own_cuts}
use Rattle.st_state.specs.declared.slots.Slots.{Slots}
use Rattle.st_state.specs.declared.clients.Clients.{Clients}
use Rattle.st_state.specs.declared.hand.Hand.{Hand}
use Rattle.st_state.specs.declared.own.Own.{Own}
use Rattle.st_state.specs.ClientsView.{last_of, place_of}
use Rattle.st_state.specs.SlotsView.{slots_of}
use Rattle.st_state.specs.HandView.{hand_of}
use Rattle.st_state.specs.OwnView.{own_of}
use Rattle.st_live.specs.declared.live.Live.{Live}
use Rattle.st_live.specs.Service.{kept_count}
use Rattle.st_live.specs.LiveView.{past_of, place_here, asked, IsLive}
use Rattle.st_live.proofs.NoteLaws.{with_made, with_slots, with_executed, live_made, live_prepared, live_accepted, live_executed}
use Rattle.st_live.proofs.SealedLaws.{sealed_made, sealed_prepared, sealed_accepted, sealed_executed, sealed_heard}

-- where the answers' server stands is where the short state stands
pub here_is : (live : Live) (q : Answers) → IsLive live q → place_here live ≡ q.here
unfolding asked
here_is live q stands = ap (λ (a : Answers). a.here) stands.is

-- the answers after a change, where the short state stood for the ones before
after_is : (live new : Live) (q : Answers) (x : Change) → asked (past_of q) live ≡ q
    → asked (past_of (after (asked (past_of q) live) x)) new ≡ after (asked (past_of q) live) x → asked (past_of (after q x)) new ≡ after q x
after_is live new q x is = subst (λ (a : Answers). asked (past_of (after a x)) new ≡ after a x) is

abbrev after_leaf : Live → Here
after_leaf live = record (place_here live) { leaf = live.here.leaf + 1 }

abbrev after_number : Live → Here
after_number live = record (place_here live) { executed = live.here.executed + 1 }

pub stands_made : (live : Live) (slots : Slots) (leaf : ℕ) (s : Statement) (q : Answers) → IsLive live q
    → leaf ≡ live.here.leaf → live.here.leaf < live.here.capacity
    → ((t : Term) → at_vc t s ≡ false) → ((t : Term) → at_report t s ≡ false) → ((t : Term) → at_union t s ≡ false)
    → slots_of (after_leaf live) slots ≡ slots_notes (after_leaf live) (Made leaf s) (slots_of (place_here live) live.slots)
    → IsLive (with_made live slots) (after q (Made leaf s))
unfolding after notes cuts
stands_made live slots leaf s q stands next few vc report union made =
    let here : place_here live ≡ q.here = here_is live q stands in
    let leaf_is : live.here.leaf ≡ q.here.leaf = ap (λ (h : Here). h.leaf) here in
    let capacity_is : live.here.capacity ≡ q.here.seat.capacity = ap (λ (h : Here). h.seat.capacity) here in
    record {
      is = after_is live (with_made live slots) q (Made leaf s) stands.is (live_made (past_of q) live slots leaf s vc report union made);
      entries = stands.entries;
      ran = stands.ran;
      sealed = sealed_made q leaf s (next ∙ leaf_is) stands.sealed;
      few = omega (arith, few, leaf_is, capacity_is);
    }

pub stands_prepared : (live : Live) (slots : Slots) (s : Statement) (w : Quorum) (q : Answers) → IsLive live q
    → slots_of (place_here live) slots ≡ slots_notes (place_here live) (Prepared s w) (slots_of (place_here live) live.slots)
    → IsLive (with_slots live slots) (after q (Prepared s w))
unfolding after notes cuts
stands_prepared live slots s w q stands noted =
    record {
      is = after_is live (with_slots live slots) q (Prepared s w) stands.is (live_prepared (past_of q) live slots s w noted);
      entries = stands.entries;
      ran = stands.ran;
      sealed = sealed_prepared q s w stands.sealed;
      few = stands.few;
    }

pub stands_accepted : (live : Live) (slots : Slots) (s : Statement) (w : Quorum) (q : Answers) → IsLive live q
    → slots_of (place_here live) slots ≡ slots_notes (place_here live) (Accepted s w) (slots_of (place_here live) live.slots)
    → IsLive (with_slots live slots) (after q (Accepted s w))
unfolding after notes cuts
stands_accepted live slots s w q stands noted =
    record {
      is = after_is live (with_slots live slots) q (Accepted s w) stands.is (live_accepted (past_of q) live slots s w noted);
      entries = stands.entries;
      ran = stands.ran;
      sealed = sealed_accepted q s w stands.sealed;
      few = stands.few;
    }

pub stands_executed : (live : Live) (ran : ℕ) (clients : Clients) (slots : Slots) (hand : Hand) (own : Own) (n : Number) (p : Proof) (q : Answers) → IsLive live q
    → ((c : ℕ) → last_of clients c ≡ last_after (last_of live.clients) p.value c)
    → ((c : ℕ) → place_of clients c ≡ cond (runs_for (last_of live.clients) p.value c) (live.here.executed + 1) (place_of live.clients c))
    → ((ops : List (List ℕ)) → live.ran ≡ kept_count (length ops) → ran ≡ kept_count (length (ops ++ ops_of (last_of live.clients) p.value)))
    → slots_of (after_number live) slots ≡ slots_cuts (after_number live) (slots_notes (after_number live) (Executed n p) (slots_of (place_here live) live.slots))
    → hand_of (after_number live) hand ≡ hand_cuts (after_number live) (hand_of (place_here live) live.hand)
    → own_of (after_number live) own ≡ own_cuts (after_number live) (own_of (place_here live) live.own)
    → IsLive (with_executed live ran clients slots hand own) (after q (Executed n p))
unfolding after notes cuts runs asked
stands_executed live ran clients slots hand own n p q stands last place kept slots_up hand_up own_up =
    let places : (c : ℕ) → place_of clients c ≡ cond (runs_for (last_of live.clients) p.value c) (length q.log.run.entries + 1) (place_of live.clients c) =
    λ c. place c ∙ ap (λ k. cond (runs_for (last_of live.clients) p.value c) (k + 1) (place_of live.clients c)) stands.entries in
    let lasts : last_of live.clients ≡ q.log.run.last = ap (λ (a : Answers). a.log.run.last) stands.is in
    record {
      is = after_is live (with_executed live ran clients slots hand own) q (Executed n p) stands.is (live_executed (past_of q) live ran clients slots hand own n p last places slots_up hand_up own_up);
      entries = ap (λ k. k + 1) stands.entries ∙ sym (length-append q.log.run.entries _);
      ran = kept q.log.run.ran stands.ran ∙ ap (λ (f : ℕ → ℕ). kept_count (length (q.log.run.ran ++ ops_of f p.value))) lasts;
      sealed = sealed_executed q n p stands.sealed;
      few = stands.few;
    }

-- what is heard leaves the log, and makes nothing
pub stands_heard : (live new : Live) (m : Heard) (q : Answers) → IsLive live q → new.here ≡ live.here → new.ran ≡ live.ran
    → asked (past_of q) new ≡ hears (asked (past_of q) live) m → IsLive new (hears q m)
unfolding hears takes cuts
stands_heard live new m q stands here ran is =
    record {
      is = is ∙ ap (λ (a : Answers). hears a m) stands.is;
      entries = ap (λ (h : Place). h.executed) here ∙ stands.entries;
      ran = ran ∙ stands.ran;
      sealed = sealed_heard q m stands.sealed;
      few = stands.few;
    }
