-- A state stays within its bounds, change by change and message by message.
use Rattle.std.proofs.Common.{◌≡◌, sym, subst, ℕ, ◌+◌, ◌≤◌, ◌&&◌, ◌⊎◌, inl, inr, Bool, true, false, cond, nat_eq, nat_lt, nat_le, Option, Some, None, IsTrue, refl, arith}
use Rattle.std.proofs.lemmas.Bool.{and_parts, eqb-true, leb-true}
use Rattle.st_words.specs.declared.deployment.TheConstants.{LAST_NUMBER}
use Rattle.st_words.specs.declared.statement.Statement.{Statement}
use Rattle.st_words.specs.declared.statement.Statement.TheVariants.{Prepare, Proposal, Accept, LocalVc, GlobalVc, LocalReport, GlobalReport, LocalUnion, GlobalUnion, Reply, ClientUpdate}
use Rattle.st_message.specs.declared.change.Change.{Change}
use Rattle.st_message.specs.declared.change.Change.TheVariants.{EnterLocal, EnterGlobal, Made, Prepared, Accepted, Union, Executed}
use Rattle.st_message.specs.declared.change.Heard.{Heard}
use Rattle.st_message.specs.declared.message.Message.{Message}
use Rattle.st_message.specs.declared.message.Message.TheVariants as messages
use Rattle.st_message.specs.declared.message.Proof.{Proof}
use Rattle.st_protocol.specs.Words.{Quorum}
use Rattle.st_protocol.specs.Keeping.{open_if, from, greatest, or_else}
use Rattle.st_protocol.specs.State.{Here, Answers, Word, word_view, word_height, open_number}
use Rattle.st_protocol.specs.Questions.{if_other, word_in, proof_in}
use Rattle.st_protocol.specs.Growth.{here_after, after, notes, cuts, hears, takes}
use Rattle.st_server.specs.Bounds.{IsSeat, IsBound, is_low_message}
use Rattle.st_server.specs.Ready.{may_record}

-- ---- what is found where something may be dropped was there

open_found : {A : Type 0} (b : Bool) (x : Option A) (a : A) → open_if b x ≡ Some a → x ≡ Some a
open_found true x a e = e
open_found false x a e = absurd (let fails : None ≡ Some a = e in cc)

from_found : {A : Type 0} (key : A → ℕ) (n : ℕ) (x : Option A) (a : A) → from key n x ≡ Some a → x ≡ Some a
from_found key n None a e = absurd (let fails : None ≡ Some a = e in cc)
from_found key n (Some x) a e = by (nat_le n (key x)) e
  where
    by : (b : Bool) → cond b (Some x) None ≡ Some a → Some x ≡ Some a
    by true f = f
    by false f = absurd (let fails : None ≡ Some a = f in cc)

greatest_found : {A : Type 0} (key : A → ℕ) (x y : Option A) (a : A) → greatest key x y ≡ Some a → (x ≡ Some a) ⊎ (y ≡ Some a)
greatest_found key None y a e = inr e
greatest_found key (Some x) None a e = inl e
greatest_found key (Some x) (Some y) a e = by (nat_lt (key x) (key y)) e
  where
    by : (b : Bool) → cond b (Some y) (Some x) ≡ Some a → (Some x ≡ Some a) ⊎ (Some y ≡ Some a)
    by true f = inr f
    by false f = inl f

first_found : {A : Type 0} (x y : Option A) (a : A) → or_else x y ≡ Some a → (x ≡ Some a) ⊎ (y ≡ Some a)
first_found None y a e = inr e
first_found (Some x) y a e = inl e

-- ---- a change

seat_stays : (x : Change) (h : Here) → (here_after x h).seat ≡ h.seat
seat_stays (EnterLocal y q) h = refl
seat_stays (EnterGlobal y ws) h = refl
seat_stays (Made k s) h = refl
seat_stays (Prepared s q) h = refl
seat_stays (Accepted s q) h = refl
seat_stays (Union s q) h = refl
seat_stays (Executed n p) h = refl

executed_low : (x : Change) (h : Here) → h.executed ≤ LAST_NUMBER → IsTrue (may_record h x) → (here_after x h).executed ≤ LAST_NUMBER
executed_low (EnterLocal y q) h low may = low
executed_low (EnterGlobal y ws) h low may = low
executed_low (Made k s) h low may = low
executed_low (Prepared s q) h low may = low
executed_low (Accepted s q) h low may = low
executed_low (Union s q) h low may = low
executed_low (Executed n p) h low may =
    let both = and_parts (nat_eq n.0 (h.executed + 1)) (nat_le n.0 LAST_NUMBER) may in
    let next = eqb-true n.0 (h.executed + 1) both.0 in
    let last = leb-true n.0 LAST_NUMBER both.1 in
    omega (arith, next, last)

pub bound_after : (q : Answers) (x : Change) → IsTrue (may_record q.here x) → IsBound q → IsBound (after q x)
unfolding after notes cuts
bound_after q x may bound =
    record {
      seat = subst IsSeat (sym (seat_stays x q.here)) bound.seat;
      executed = executed_low x q.here bound.executed may;
      words = λ n s w e. bound.words n s w (from_found word_height (q.hand.highest n) (q.hand.word n s) w (open_found (open_number (here_after x q.here) n) _ w e));
      proofs = λ n p e. bound.proofs n p (open_found (open_number (here_after x q.here) n) (q.hand.proof n) p e);
    }

-- ---- something heard

-- a word, or an order proof, that is picked of such a message
word_low_by : (s : Statement) (q : Quorum) (n site : ℕ) (w : Word) → word_in n site (messages.Certificate s q) ≡ Some w → is_low_message (messages.Certificate s q) ≡ true → n ≤ LAST_NUMBER
word_low_by (Accept s g k v) q n site w e low = by (nat_eq k.0 n) (nat_eq s.0 site) refl e
  where
    by : (b c : Bool) → nat_eq k.0 n ≡ b → cond (b && c) (Some (record { view = g.0; value = v; quorum = q })) None ≡ Some w → n ≤ LAST_NUMBER
    by true true same f = let is = eqb-true k.0 n same in let last = leb-true k.0 LAST_NUMBER low in omega (arith, is, last)
    by true false same f = absurd (let fails : None ≡ Some w = f in cc)
    by false c same f = absurd (let fails : None ≡ Some w = f in cc)
word_low_by (Prepare s g l k v) q n site w e low = absurd (let fails : None ≡ Some w = e in cc)
word_low_by (Proposal s g l k v) q n site w e low = absurd (let fails : None ≡ Some w = e in cc)
word_low_by (LocalVc s l) q n site w e low = absurd (let fails : None ≡ Some w = e in cc)
word_low_by (GlobalVc s g) q n site w e low = absurd (let fails : None ≡ Some w = e in cc)
word_low_by (LocalReport s l i g b is) q n site w e low = absurd (let fails : None ≡ Some w = e in cc)
word_low_by (GlobalReport s g i b is) q n site w e low = absurd (let fails : None ≡ Some w = e in cc)
word_low_by (LocalUnion s l g b is) q n site w e low = absurd (let fails : None ≡ Some w = e in cc)
word_low_by (GlobalUnion s g b is) q n site w e low = absurd (let fails : None ≡ Some w = e in cc)
word_low_by (Reply s c t k r) q n site w e low = absurd (let fails : None ≡ Some w = e in cc)
word_low_by (ClientUpdate u) q n site w e low = absurd (let fails : None ≡ Some w = e in cc)

word_low : (m : Message) (n site : ℕ) (w : Word) → word_in n site m ≡ Some w → is_low_message m ≡ true → n ≤ LAST_NUMBER
word_low (messages.Certificate s q) n site w e low = word_low_by s q n site w e low
word_low (messages.Update u seal) n site w e low = absurd (let fails : None ≡ Some w = e in cc)
word_low (messages.Assign g l k v seal signed) n site w e low = absurd (let fails : None ≡ Some w = e in cc)
word_low (messages.Share s signed) n site w e low = absurd (let fails : None ≡ Some w = e in cc)
word_low (messages.OrderProof k p) n site w e low = absurd (let fails : None ≡ Some w = e in cc)
word_low (messages.Report r) n site w e low = absurd (let fails : None ≡ Some w = e in cc)
word_low (messages.Bundle rs) n site w e low = absurd (let fails : None ≡ Some w = e in cc)
word_low (messages.ViewProof ws) n site w e low = absurd (let fails : None ≡ Some w = e in cc)
word_low (messages.Ask server k g l) n site w e low = absurd (let fails : None ≡ Some w = e in cc)
word_low (messages.Reply s signed) n site w e low = absurd (let fails : None ≡ Some w = e in cc)

proof_low : (m : Message) (n : ℕ) (p : Proof) → proof_in n m ≡ Some p → is_low_message m ≡ true → n ≤ LAST_NUMBER
proof_low (messages.OrderProof k r) n p e low = by (nat_eq k.0 n) refl e
  where
    by : (b : Bool) → nat_eq k.0 n ≡ b → cond b (Some r) None ≡ Some p → n ≤ LAST_NUMBER
    by true same f = let is = eqb-true k.0 n same in let last = leb-true k.0 LAST_NUMBER low in omega (arith, is, last)
    by false same f = absurd (let fails : None ≡ Some p = f in cc)
proof_low (messages.Certificate s q) n p e low = absurd (let fails : None ≡ Some p = e in cc)
proof_low (messages.Update u seal) n p e low = absurd (let fails : None ≡ Some p = e in cc)
proof_low (messages.Assign g l k v seal signed) n p e low = absurd (let fails : None ≡ Some p = e in cc)
proof_low (messages.Share s signed) n p e low = absurd (let fails : None ≡ Some p = e in cc)
proof_low (messages.Report r) n p e low = absurd (let fails : None ≡ Some p = e in cc)
proof_low (messages.Bundle rs) n p e low = absurd (let fails : None ≡ Some p = e in cc)
proof_low (messages.ViewProof ws) n p e low = absurd (let fails : None ≡ Some p = e in cc)
proof_low (messages.Ask server k g l) n p e low = absurd (let fails : None ≡ Some p = e in cc)
proof_low (messages.Reply s signed) n p e low = absurd (let fails : None ≡ Some p = e in cc)

-- what is picked of another's message is picked of the message
other_found : {A : Type 0} (m : Heard) (pick : Message → Option A) (a : A) → if_other m pick ≡ Some a → pick m.message ≡ Some a
other_found m pick a e = by m.own e
  where
    by : (b : Bool) → cond b None (pick m.message) ≡ Some a → pick m.message ≡ Some a
    by true f = absurd (let fails : None ≡ Some a = f in cc)
    by false f = f

pub bound_hears : (q : Answers) (m : Heard) → IsTrue (is_low_message m.message) → IsBound q → IsBound (hears q m)
unfolding hears takes cuts
bound_hears q m low bound =
    record {
      seat = bound.seat;
      executed = bound.executed;
      words = λ n s w e. word_of n s w (greatest_found word_view (q.hand.word n s) (if_other m (word_in n s)) w (from_found word_height _ _ w (open_found (open_number q.here n) _ w e)));
      proofs = λ n p e. proof_of n p (first_found (q.hand.proof n) (if_other m (proof_in n)) p (open_found (open_number q.here n) _ p e));
    }
  where
    word_of : (n s : ℕ) (w : Word) → (q.hand.word n s ≡ Some w) ⊎ (if_other m (word_in n s) ≡ Some w) → n ≤ LAST_NUMBER
    word_of n s w (inl old) = bound.words n s w old
    word_of n s w (inr new) = word_low m.message n s w (other_found m (word_in n s) w new) low

    proof_of : (n : ℕ) (p : Proof) → (q.hand.proof n ≡ Some p) ⊎ (if_other m (proof_in n) ≡ Some p) → n ≤ LAST_NUMBER
    proof_of n p (inl old) = bound.proofs n p old
    proof_of n p (inr new) = proof_low m.message n p (other_found m (proof_in n) p new) low
