-- What is heard leaves a group as it is where the group finds nothing in it.
use Rattle.std.proofs.Common.{◌≡◌, ◌∙◌, ap, sym, ℕ, ◌+◌, max, Bool, Option, Some, None, List, refl, arith}
use Rattle.st_message.specs.declared.change.Heard.{Heard}
use Rattle.st_protocol.specs.Keeping.{open_if, or_else, or_last, greatest, greatest_last, from}
use Rattle.st_protocol.specs.State as state
use Rattle.st_protocol.specs.State.{Place, Term, Here, Pended, Word, Completed, at_place, at_union, open_place, open_term, open_at, pended_time, word_view, word_height, completed_local, completed_view}
use Rattle.st_protocol.specs.Questions.{if_other, if_own, share_in, update_in, word_in, taken_height, proof_in, own_report_in, completed_in, is_global_vc, is_proposal_at, is_accept_at}
use Rattle.st_protocol.specs.Growth.{slots_takes, slots_cuts, pending_takes, pending_cuts, hand_takes, hand_cuts, own_takes, own_cuts}
use Rattle.st_state.specs.declared.slots.Slots.{Slots}
use Rattle.st_state.specs.declared.hand.Hand.{Hand}
use Rattle.st_state.specs.declared.own.Own.{Own}
use Rattle.st_state.specs.declared.pending.Pending.{Pending}
use Rattle.st_state.specs.SlotsView.{slots_of}
use Rattle.st_state.specs.HandView.{hand_of}
use Rattle.st_state.specs.OwnView.{own_of}
use Rattle.st_state.specs.ClientsView.{pending_of}
use Rattle.st_state.proofs.SlotsLaws.{or_else_alone}
use Rattle.st_state.proofs.OwnLaws.{or_last_alone, greatest_alone as own_alone}
use Rattle.st_state.proofs.HandLaws.{greatest_alone as word_alone}
use Rattle.st_state.proofs.CutLaws.{slots_cut, hand_cut, own_cut, pending_cut}

-- no share is found
pub slots_still : (h : Here) (slots : Slots) (m : Heard) → ((p : Place) (i : ℕ) → if_other m (share_in (at_place p) i) ≡ None)
    → slots_cuts h (slots_takes m (slots_of h slots)) ≡ slots_of h slots
unfolding slots_of
slots_still h slots m none = ap (slots_cuts h) taken ∙ slots_cut h slots
  where
    taken : slots_takes m (slots_of h slots) ≡ slots_of h slots
    taken = λ i. record (slots_of h slots) { shares = λ p j. (ap (or_else ((slots_of h slots).shares p j)) (none p j) ∙ or_else_alone ((slots_of h slots).shares p j)) i }

pended_alone : (x : Option Pended) → greatest pended_time x None ≡ x
pended_alone None = refl
pended_alone (Some x) = refl

-- no update is found
pub pending_still : (last : ℕ → ℕ) (pending : Pending) (m : Heard) → ((c : ℕ) → if_other m (update_in c) ≡ None)
    → pending_cuts last (pending_takes m (pending_of last pending)) ≡ pending_of last pending
pending_still last pending m none = ap (pending_cuts last) taken ∙ pending_cut last pending
  where
    taken : pending_takes m (pending_of last pending) ≡ pending_of last pending
    taken = λ i c. (ap (greatest pended_time (pending_of last pending c)) (none c) ∙ pended_alone (pending_of last pending c)) i

max_zero : (n : ℕ) → max n 0 ≡ n
max_zero n = grind arith

-- no Accept certificate and no order proof is found
pub hand_still : (h : Here) (hand : Hand) (m : Heard) → ((n : ℕ) → taken_height n m ≡ 0) → ((n s : ℕ) → if_other m (word_in n s) ≡ None) → ((n : ℕ) → if_other m (proof_in n) ≡ None)
    → hand_cuts h (hand_takes m (hand_of h hand)) ≡ hand_of h hand
hand_still h hand m height word proof = ap (hand_cuts h) taken ∙ hand_cut h hand
  where
    taken : hand_takes m (hand_of h hand) ≡ hand_of h hand
    taken =
        λ i. record {
          highest = λ n. (ap (max ((hand_of h hand).highest n)) (height n) ∙ max_zero ((hand_of h hand).highest n)) i;
          word = λ n s. (ap (greatest word_view ((hand_of h hand).word n s)) (word n s) ∙ word_alone ((hand_of h hand).word n s)) i;
          proof = λ n. (ap (or_else ((hand_of h hand).proof n)) (proof n) ∙ or_else_alone ((hand_of h hand).proof n)) i;
        }

-- what another server said is none of one's own
pub own_still : (h : Here) (own : Own) (m : Heard) → ((t : Term) → if_own m (own_report_in t) ≡ None) → if_own m (completed_in is_global_vc) ≡ None
    → ((t : Term) → if_own m (completed_in (at_union t)) ≡ None) → ((g n : ℕ) → if_own m (completed_in (is_proposal_at g n)) ≡ None) → ((g n : ℕ) → if_own m (completed_in (is_accept_at g n)) ≡ None)
    → own_cuts h (own_takes m (own_of h own)) ≡ own_of h own
own_still h own m report vc union proposal accept = ap (own_cuts h) taken ∙ own_cut h own
  where
    view_alone : (x : Option Completed) → greatest_last completed_view x None ≡ x
    view_alone None = refl
    view_alone (Some x) = refl

    taken : own_takes m (own_of h own) ≡ own_of h own
    taken =
        λ i. record {
          report = λ t. (ap (or_else ((own_of h own).report t)) (report t) ∙ or_else_alone ((own_of h own).report t)) i;
          vc = (ap (greatest_last completed_view (own_of h own).vc) vc ∙ view_alone (own_of h own).vc) i;
          union = λ t. (ap (or_last ((own_of h own).union t)) (union t) ∙ or_last_alone ((own_of h own).union t)) i;
          proposal = λ g n. (ap (greatest_last completed_local ((own_of h own).proposal g n)) (proposal g n) ∙ own_alone ((own_of h own).proposal g n)) i;
          accept = λ g n. (ap (or_last ((own_of h own).accept g n)) (accept g n) ∙ or_last_alone ((own_of h own).accept g n)) i;
        }
