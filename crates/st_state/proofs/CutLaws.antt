-- What the groups answer is cut already: nothing more is dropped of it.
use Rattle.std.proofs.Common.{◌≡◌, ◌∙◌, ap, sym, ℕ, ◌+◌, ◌<◌, ◌≤◌, Bool, true, false, cond, nat_eq, nat_lt, nat_le, ◌&&◌, Option, Some, None, List, refl, arith}
use Rattle.st_protocol.specs.Keeping.{open_if, or_else, from}
use Rattle.st_protocol.specs.State.{Place, AtPrepare, AtProposal, AtAccept, Here, Pended, open_place, open_term, pended_time, word_height}
use Rattle.st_protocol.specs.Growth.{slots_cuts, hand_cuts, own_cuts, pending_cuts}
use Rattle.st_tables.specs.Entries.{entry}
use Rattle.st_tables.specs.Window.{kept}
use Rattle.st_state.specs.declared.slots.Slots.{Slots}
use Rattle.st_state.specs.declared.hand.Hand.{Hand}
use Rattle.st_state.specs.declared.hand.Words.{Words}
use Rattle.st_state.specs.declared.own.Own.{Own}
use Rattle.st_state.specs.declared.pending.Pending.{Pending}
use Rattle.st_state.specs.SlotsView.{slots_of, shares_at}
use Rattle.st_state.specs.HandView.{hand_of, height_of, word_of}
use Rattle.st_state.specs.OwnView.{own_of}
use Rattle.st_state.specs.ClientsView.{pending_of}
use Rattle.st_state.proofs.SlotsLaws.{kept_low, or_else_alone}
use Rattle.st_state.proofs.SharesLaws.{prepares_stay, proposals_stay, accepts_stay}
use Rattle.st_state.proofs.HandLaws.{word_stays, open_none}
use Rattle.st_state.proofs.OwnLaws.{stays}

-- ---- the slots

shares_cut : (h : Here) (slots : Slots) (p : Place) (i : ℕ) → open_if (open_place h p) (shares_at h slots p i) ≡ shares_at h slots p i
shares_cut h slots (AtPrepare g l n) i = ap (open_if (open_place h (AtPrepare g l n))) (sym (or_else_alone _)) ∙ sym (prepares_stay h slots g l n i)
shares_cut h slots (AtProposal g l n) i = ap (open_if (open_place h (AtProposal g l n))) (sym (or_else_alone _)) ∙ sym (proposals_stay h slots g l n i)
shares_cut h slots (AtAccept g n) i = ap (open_if (open_place h (AtAccept g n))) (sym (or_else_alone _)) ∙ sym (accepts_stay h slots g n i)

pub slots_cut : (h : Here) (slots : Slots) → slots_cuts h (slots_of h slots) ≡ slots_of h slots
unfolding slots_of
slots_cut h slots = λ i. record (slots_of h slots) { shares = λ p j. (shares_cut h slots p j) i }

-- ---- the hand

low_height : (e k : ℕ) (x : Option Words) → (k ≤ e → x ≡ None) → cond (nat_lt e k) (height_of x) 0 ≡ height_of x
low_height e k x low = by_test (nat_lt e k) refl
  where
    by_test : (c : Bool) → nat_lt e k ≡ c → cond c (height_of x) 0 ≡ height_of x
    by_test true ec = refl
    by_test false ec = let none : x ≡ None = low (grind (arith, ec)) in sym (ap height_of none)

low_word : (e k s : ℕ) (x : Option Words) → (k ≤ e → x ≡ None) → open_if (nat_lt e k) (from word_height (height_of x) (word_of x s)) ≡ word_of x s
low_word e k s x low = by_test (nat_lt e k) refl
  where
    by_test : (c : Bool) → nat_lt e k ≡ c → open_if c (from word_height (height_of x) (word_of x s)) ≡ word_of x s
    by_test true ec = word_stays x s
    by_test false ec = let none : x ≡ None = low (grind (arith, ec)) in sym (ap (λ o. word_of o s) none)

pub hand_cut : (h : Here) (hand : Hand) → hand_cuts h (hand_of h hand) ≡ hand_of h hand
unfolding hand_of
hand_cut h hand =
    λ i. record {
      highest = λ k. (low_height h.executed k (kept h.executed hand.numbers k) (kept_low h.executed hand.numbers k)) i;
      word = λ k s. (low_word h.executed k s (kept h.executed hand.numbers k) (kept_low h.executed hand.numbers k)) i;
      proof = λ k. (open_none (nat_lt h.executed k)) i;
    }

-- ---- the own certificates

pub own_cut : (h : Here) (own : Own) → own_cuts h (own_of h own) ≡ own_of h own
unfolding own_of
own_cut h own =
    λ i. record {
      report = λ t. (open_none (open_term h t)) i;
      vc = None;
      union = λ t. (open_none (open_term h t)) i;
      proposal = λ g k. (sym (stays h.view h.executed g k (kept h.executed own.proposals k) _ refl (kept_low h.executed own.proposals k))) i;
      accept = λ g k. (sym (stays h.view h.executed g k (kept h.executed own.accepts k) _ refl (kept_low h.executed own.accepts k))) i;
    }

-- ---- the pending updates

-- what is above a bound is above a lower one
from_again : (m n : ℕ) (x : Option Pended) → m ≤ n → from pended_time n (from pended_time m x) ≡ from pended_time n x
from_again m n None h = refl
from_again m n (Some x) h = by_test (nat_le m x.update.time) refl
  where
    by_test : (c : Bool) → nat_le m x.update.time ≡ c → from pended_time n (cond c (Some x) None) ≡ from pended_time n (Some x)
    by_test true ec = refl
    by_test false ec = let low : nat_le n x.update.time ≡ false = grind (arith, ec, h) in rw low refl

-- once last times rise, what isn't above them is gone
pub pending_risen : (last next : ℕ → ℕ) (pending : Pending) → ((c : ℕ) → last c ≤ next c) → pending_cuts next (pending_of last pending) ≡ pending_of next pending
unfolding pending_of
pending_risen last next pending rises = λ i c. (from_again (last c + 1) (next c + 1) (entry pending.updates c) (omega (arith, rises c))) i

pub pending_cut : (last : ℕ → ℕ) (pending : Pending) → pending_cuts last (pending_of last pending) ≡ pending_of last pending
pending_cut last pending = pending_risen last last pending (λ c. omega arith)
