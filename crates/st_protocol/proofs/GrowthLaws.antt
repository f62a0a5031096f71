-- How the answers grow: recording, hearing and dropping, two by two, and over lists.
use Rattle.std.proofs.Common.{◌≡◌, ℕ, ◌+◌, ◌≤◌, Bool, true, false, cond, List, [], ◌∷◌, ◌++◌, refl, ◌∙◌, ap, arith}
use Rattle.std.specs.Prelude.{Option, Some, None, max}
use Rattle.std.proofs.lemmas.Bool.Decides.{nat_tests}
use Rattle.std.proofs.lemmas.List.Sums.{fold-append, fold_push}
use Rattle.st_words.specs.declared.value.Value.{Value}
use Rattle.st_words.specs.declared.value.Value.TheVariants as values
use Rattle.st_message.specs.declared.change.Change.{Change}
use Rattle.st_message.specs.declared.change.Change.TheVariants.{EnterLocal, EnterGlobal, Made, Prepared, Accepted, Union, Executed}
use Rattle.st_message.specs.declared.change.Heard.{Heard}
use Rattle.st_protocol.specs.Keeping.{or_else, or_last, greatest, greatest_last, open_if, from, joined}
use Rattle.st_protocol.specs.State.{Place, AtPrepare, AtProposal, AtAccept, Term, OfLocal, OfGlobal, Seat, Here, Answers, Log, pended_time, vote_view, asked_view, word_view, word_height, completed_view, completed_local, open_place, open_term, open_vc, open_number, open_at, at_place, at_union}
use Rattle.st_protocol.specs.Questions.{runs, last_after, taken_height, word_in, share_in, update_in, local_vote_in, global_vote_in, asked_in, report_in, own_report_in, proof_in, completed_in, is_global_vc, is_proposal_at, is_accept_at, if_other, if_own}
use Rattle.st_protocol.specs.Growth.{here_after, log_after, notes, takes, cuts, nothing, notes_all, takes_all, grown, after, hears, after_all}
use Rattle.st_protocol.proofs.GatherLaws.{joined-push}

-- ---- of what is kept and dropped

-- what is dropped at the end may be dropped before
pub open-step : {A : Type 0} (b : Bool) (f : Option A → Option A) (x : Option A) → open_if b (f x) ≡ open_if b (f (open_if b x))
open-step true f x = refl
open-step false f x = refl

-- so may what is below a key, of the greatest
from-greatest : {A : Type 0} (key : A → ℕ) (n : ℕ) (x y : Option A) → from key n (greatest key x y) ≡ from key n (greatest key (from key n x) y)
from-greatest key n None y = refl
from-greatest key n (Some x) None = grind (arith, nat_tests)
from-greatest key n (Some x) (Some y) = grind (arith, nat_tests)

-- and of the greatest, of equals the last
from-greatest_last : {A : Type 0} (key : A → ℕ) (n : ℕ) (x y : Option A) → from key n (greatest_last key x y) ≡ from key n (greatest_last key (from key n x) y)
from-greatest_last key n None y = refl
from-greatest_last key n (Some x) None = grind (arith, nat_tests)
from-greatest_last key n (Some x) (Some y) = grind (arith, nat_tests)

-- what is below a greater key may be dropped by a lower one first
pub from-from : {A : Type 0} (key : A → ℕ) (m n : ℕ) (x : Option A) → m ≤ n → from key n x ≡ from key n (from key m x)
from-from key m n None h = refl
from-from key m n (Some x) h = grind (arith, nat_tests)

-- the words of a number: the bound is the highest view itself
words-take : {A : Type 0} (b : Bool) (key : A → ℕ) (top more : ℕ) (x y : Option A) →
    open_if b (from (λ a. key a + 1) (max top more) (greatest key x y))
    ≡ open_if b (from (λ a. key a + 1) (max (cond b top 0) more) (greatest key (open_if b (from (λ a. key a + 1) top x)) y))
words-take false key top more x y = refl
words-take true key top more None y = refl
words-take true key top more (Some x) None = grind (arith, nat_tests)
words-take true key top more (Some x) (Some y) = grind (arith, nat_tests)

-- the highest view may be dropped before
top-take : (b : Bool) (top more : ℕ) → cond b (max top more) 0 ≡ cond b (max (cond b top 0) more) 0
top-take true top more = refl
top-take false top more = refl

-- ---- the bounds rise

-- k is nowhere below h.
pub record Rises (h k : Here) : Type 0 where
  pub view : h.view ≤ k.view
  pub local : h.local ≤ k.local
  pub executed : h.executed ≤ k.executed

-- A change leaves a server nowhere below.
pub rises : (x : Change) (h : Here) → Rises h (here_after x h)
rises (EnterLocal y q) h = record { view = omega arith; local = omega arith; executed = omega arith }
rises (EnterGlobal y ss) h = record { view = omega arith; local = omega arith; executed = omega arith }
rises (Made k s) h = record { view = omega arith; local = omega arith; executed = omega arith }
rises (Prepared s q) h = record { view = omega arith; local = omega arith; executed = omega arith }
rises (Accepted s q) h = record { view = omega arith; local = omega arith; executed = omega arith }
rises (Union s q) h = record { view = omega arith; local = omega arith; executed = omega arith }
rises (Executed n p) h = record { view = omega arith; local = omega arith; executed = omega arith }

-- a client's last time never falls
last-rises : (last : ℕ → ℕ) (v : Value) (c : ℕ) → last c ≤ last_after last v c
last-rises last values.Noop c = omega arith
last-rises last (values.Update u) c = grind (arith, nat_tests)

-- whatever is recorded
log-rises : (x : Change) (h : Here) (log : Log) (c : ℕ) → log.run.last c ≤ (log_after x h log).run.last c
unfolding runs
log-rises (EnterLocal y q) h log c = omega arith
log-rises (EnterGlobal y ss) h log c = omega arith
log-rises (Made k s) h log c = omega arith
log-rises (Prepared s q) h log c = omega arith
log-rises (Accepted s q) h log c = omega arith
log-rises (Union s q) h log c = omega arith
log-rises (Executed n p) h log c = last-rises log.run.last p.value c

-- A slot below a state is below every later one.
pub place-rises : {A : Type 0} (h k : Here) → Rises h k → (p : Place) (x : Option A) → open_if (open_place k p) x ≡ open_if (open_place k p) (open_if (open_place h p) x)
place-rises h k r (AtPrepare g l n) x = let a = r.view in let b = r.local in let c = r.executed in grind (arith, nat_tests)
place-rises h k r (AtProposal g l n) x = let a = r.view in let b = r.local in let c = r.executed in grind (arith, nat_tests)
place-rises h k r (AtAccept g n) x = let a = r.view in let b = r.local in let c = r.executed in grind (arith, nat_tests)

-- So is a view, for what is of it.
pub term-rises : {A : Type 0} (h k : Here) → Rises h k → (t : Term) (x : Option A) → open_if (open_term k t) x ≡ open_if (open_term k t) (open_if (open_term h t) x)
term-rises h k r (OfLocal l) x = let b = r.local in grind (arith, nat_tests)
term-rises h k r (OfGlobal g) x = let a = r.view in grind (arith, nat_tests)

-- So is a view, for what asks for it.
pub vc-rises : {A : Type 0} (h k : Here) → Rises h k → (t : Term) (x : Option A) → open_if (open_vc k t) x ≡ open_if (open_vc k t) (open_if (open_vc h t) x)
vc-rises h k r (OfLocal l) x = let b = r.local in grind (arith, nat_tests)
vc-rises h k r (OfGlobal g) x = let a = r.view in grind (arith, nat_tests)

-- So is a number.
pub number-rises : {A : Type 0} (h k : Here) → Rises h k → (n : ℕ) (x : Option A) → open_if (open_number k n) x ≡ open_if (open_number k n) (open_if (open_number h n) x)
number-rises h k r n x = let c = r.executed in grind (arith, nat_tests)

-- So is a number at a view.
pub at-rises : {A : Type 0} (h k : Here) → Rises h k → (g n : ℕ) (x : Option A) → open_if (open_at k g n) x ≡ open_if (open_at k g n) (open_if (open_at h g n) x)
at-rises h k r g n x = let a = r.view in let c = r.executed in grind (arith, nat_tests)

-- so is the highest view of a number
top-rises : (h k : Here) → Rises h k → (n top : ℕ) → cond (open_number k n) top 0 ≡ cond (open_number k n) (cond (open_number h n) top 0) 0
top-rises h k r n top = let c = r.executed in grind (arith, nat_tests)

-- so are its words
words-rise : {A : Type 0} (h k : Here) → Rises h k → (key : A → ℕ) (n top : ℕ) (x : Option A) →
    open_if (open_number k n) (from key top x) ≡ open_if (open_number k n) (from key (cond (open_number h n) top 0) (open_if (open_number h n) (from key top x)))
words-rise h k r key n top None = let c = r.executed in grind (arith, nat_tests)
words-rise h k r key n top (Some x) = let c = r.executed in grind (arith, nat_tests)

-- ---- the three steps, two by two

-- recording and hearing don't look at one another
apart : (q : Answers) (x : Change) (m : Heard) → takes (notes q x) m ≡ notes (takes q m) x
unfolding takes notes
apart q x m = refl

-- what was dropped before something is heard is dropped after it
pub cut_takes : (q : Answers) (m : Heard) → cuts (takes q m) ≡ cuts (takes (cuts q) m)
unfolding takes cuts
cut_takes q m = λ i.
    record {
      here = q.here;
      slots =
          record {
            made = q.slots.made;
            prepared = q.slots.prepared;
            accepted = q.slots.accepted;
            shares = λ p j. open-step (open_place q.here p) (λ z. or_else z (if_other m (share_in (at_place p) j))) (q.slots.shares p j) i;
          };
      making = q.making;
      log = q.log;
      pending = λ c. from-greatest pended_time (q.log.run.last c + 1) (q.pending c) (if_other m (update_in c)) i;
      votes =
          record {
            local = λ j. from-greatest vote_view (q.here.local + 1) (q.votes.local j) (if_other m (local_vote_in j)) i;
            global = λ j. from-greatest vote_view (q.here.view + 1) (q.votes.global j) (if_other m (global_vote_in j)) i;
            unions = λ t j. open-step (open_term q.here t) (λ z. or_else z (if_other m (share_in (at_union t) j))) (q.votes.unions t j) i;
            asked = λ s. from-greatest asked_view (q.here.view + 1) (q.votes.asked s) (if_other m (asked_in s)) i;
          };
      unions = q.unions;
      reports = λ t j. open-step (open_term q.here t) (λ z. or_else z (if_other m (report_in t j))) (q.reports t j) i;
      hand =
          record {
            highest = λ n. top-take (open_number q.here n) (q.hand.highest n) (taken_height n m) i;
            word = λ n s. words-take (open_number q.here n) word_view (q.hand.highest n) (taken_height n m) (q.hand.word n s) (if_other m (word_in n s)) i;
            proof = λ n. open-step (open_number q.here n) (λ z. or_else z (if_other m (proof_in n))) (q.hand.proof n) i;
          };
      words = q.words;
      own =
          record {
            report = λ t. open-step (open_term q.here t) (λ z. or_else z (if_own m (own_report_in t))) (q.own.report t) i;
            vc = from-greatest_last completed_view (q.here.view + 1) q.own.vc (if_own m (completed_in is_global_vc)) i;
            union = λ t. open-step (open_term q.here t) (λ z. or_last z (if_own m (completed_in (at_union t)))) (q.own.union t) i;
            proposal = λ g n. open-step (open_at q.here g n) (λ z. greatest_last completed_local z (if_own m (completed_in (is_proposal_at g n)))) (q.own.proposal g n) i;
            accept = λ g n. open-step (open_at q.here g n) (λ z. or_last z (if_own m (completed_in (is_accept_at g n)))) (q.own.accept g n) i;
          };
    }

-- what is dropped stays dropped once the bounds rise
pub cut_rises : (q : Answers) (x : Change) → cuts (notes q x) ≡ cuts (notes (cuts q) x)
unfolding notes cuts
cut_rises q x =
    let k : Here = here_after x q.here in
    let r : Rises q.here k = rises x q.here in
    λ i.
    record {
      here = k;
      slots = record (notes q x).slots { shares = λ p j. place-rises q.here k r p (q.slots.shares p j) i };
      making = (notes q x).making;
      log = (notes q x).log;
      pending = λ c. from-from pended_time (q.log.run.last c + 1) ((log_after x q.here q.log).run.last c + 1) (q.pending c) (let h = log-rises x q.here q.log c in omega (arith, h)) i;
      votes =
          record {
            local = λ j. from-from vote_view (q.here.local + 1) (k.local + 1) (q.votes.local j) (let h = r.local in omega (arith, h)) i;
            global = λ j. from-from vote_view (q.here.view + 1) (k.view + 1) (q.votes.global j) (let h = r.view in omega (arith, h)) i;
            unions = λ t j. term-rises q.here k r t (q.votes.unions t j) i;
            asked = λ s. from-from asked_view (q.here.view + 1) (k.view + 1) (q.votes.asked s) (let h = r.view in omega (arith, h)) i;
          };
      unions = (notes q x).unions;
      reports = λ t j. term-rises q.here k r t (q.reports t j) i;
      hand =
          record {
            highest = λ n. top-rises q.here k r n (q.hand.highest n) i;
            word = λ n s. words-rise q.here k r word_height n (q.hand.highest n) (q.hand.word n s) i;
            proof = λ n. number-rises q.here k r n (q.hand.proof n) i;
          };
      words = (notes q x).words;
      own =
          record {
            report = λ t. term-rises q.here k r t (q.own.report t) i;
            vc = from-from completed_view (q.here.view + 1) (k.view + 1) q.own.vc (let h = r.view in omega (arith, h)) i;
            union = λ t. term-rises q.here k r t (q.own.union t) i;
            proposal = λ g n. at-rises q.here k r g n (q.own.proposal g n) i;
            accept = λ g n. at-rises q.here k r g n (q.own.accept g n) i;
          };
    }

-- ---- over lists

-- recording and hearing much don't look at one another
apart_all : (q : Answers) (x : Change) (heard : List Heard) → takes_all (notes q x) heard ≡ notes (takes_all q heard) x
apart_all q x [] = refl
apart_all q x (m ∷ ms) = ap (λ z. takes_all z ms) (apart q x m) ∙ apart_all (takes q m) x ms

-- after so many changes, when all that was heard is dropped at the end
more : (q : Answers) (heard : List Heard) (xs : List Change) → cuts (takes_all (notes_all q xs) heard) ≡ after_all (cuts (takes_all q heard)) xs
unfolding after
more q heard [] = refl
more q heard (x ∷ xs) =
    more (notes q x) heard xs ∙ ap (λ z. after_all z xs) (ap cuts (apart_all q x heard) ∙ cut_rises (takes_all q heard) x)

-- One body more.
pub grown_body : (seat : Seat) (records : List (List Change)) (heard : List Heard) (body : List Change) →
    grown seat (records ++ body ∷ []) heard ≡ after_all (grown seat records heard) body
unfolding grown
grown_body seat records heard body =
    ap (λ xs. cuts (takes_all (notes_all (nothing seat) xs) heard)) (joined-push records body)
    ∙ ap (λ z. cuts (takes_all z heard)) (fold-append notes (nothing seat) (joined records) body)
    ∙ more (notes_all (nothing seat) (joined records)) heard body

-- One thing heard more.
pub grown_heard : (seat : Seat) (records : List (List Change)) (heard : List Heard) (m : Heard) →
    grown seat records (heard ++ m ∷ []) ≡ hears (grown seat records heard) m
unfolding grown hears
grown_heard seat records heard m =
    ap cuts (fold_push takes (notes_all (nothing seat) (joined records)) heard m) ∙ cut_takes (takes_all (notes_all (nothing seat) (joined records)) heard) m
